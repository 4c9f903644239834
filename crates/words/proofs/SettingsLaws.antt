-- The reader of the line of the settings, and its tokens.
use Rattle.std.proofs.Common.{ℕ, zero, suc, ◌≡◌, ◌≤◌, Bool, true, false, ◌&&◌, List, [], ◌∷◌, ◌++◌, refl, sym, ap, ◌∙◌, arith, append_assoc, cond, nat_eq, nat_lt}
use Rattle.std.specs.Prelude.{Option, Some, None, Result, Ok, Err}
use Rattle.std.specs.List.{slice_get}
use Rattle.std.proofs.lemmas.Bool.Decides.{nat_tests}
use mathlib.Core.Bool.{true≢false, false≢true}
use borrow.Author.Tests.{le-ltb, ne_eqb}
use Rattle.units.specs.Units.{tenths}
use Rattle.units.specs.declared.Tenths.{Tenths}
use Rattle.transitions.specs.Types.{Time}
use Rattle.transitions.specs.declared.settings.Settings.{Settings}
use Rattle.transitions.specs.declared.types.LevelRange.{LevelRange}
use Rattle.records.specs.Written.{Allowed, ByteFits, SettingsFit, TimeFits}
use Rattle.words.specs.SettingsLine.{flags, levels, lighting, max_at, max_test, min_at, min_test, passed, range, range_from, settings, settings_from, tested, times}
use Rattle.words.specs.Values as values
use Rattle.words.specs.Values.{Reader, both, byte, flag, is_name, fault, taken, ◌>>=◌}
use Rattle.words.specs.declared.fault.Expected.{Expected}
use Rattle.words.specs.declared.fault.Expected.TheVariants as expected
use Rattle.words.specs.declared.fault.WordFault.{WordFault}
use Rattle.words.specs.declared.names.Name.{Name}
use Rattle.words.specs.declared.names.Name.TheVariants as name
use Rattle.words.specs.declared.tokens.Token.{Token}
use Rattle.words.specs.declared.tokens.Token.TheVariants as token
use Rattle.words.proofs.Pieces.{Agree, From, Piece, Stands, Viable, any, answer, before_end, both_piece, err_is, failed, first_of, is_end, made_piece, not_true, ok_is, ok_no_err, other, past, reach, reach_up}
use Rattle.words.proofs.Said.{byte_tokens, flag_tokens, positive_byte_tokens, positive_time_tokens, settings_tokens, time_tokens}
use Rattle.words.proofs.ValueLaws.{Anything, Byte, TenthsFit, byte_piece, byte_reads, flag_piece, keyword_piece, named_byte_piece, named_time_piece, optional_byte_piece, optional_time_piece, said_so}
use Rattle.words.proofs.EventLaws.{first_append, first_byte, first_positive, first_time, no_name}

-- A byte that passes a test.

abbrev with_test : Option ℕ → (ℕ → Option Expected) → ℕ → Result (ℕ × ℕ) WordFault
with_test v test at = taken v expected.Byte at >>= λ x. passed (test x.0) x at

record Passed (v : Option ℕ) (test : ℕ → Option Expected) (at to a : ℕ) : Type 0 where
  value : v ≡ Some a
  passes : test a ≡ None
  place : to ≡ suc at

passed_by : (r : Option Expected) (test : ℕ → Option Expected) (n at to a : ℕ) → test n ≡ r → passed r (n, suc at) at ≡ answer a to → Passed (Some n) test at to a
passed_by None test n at to a h e =
    let same = ok_is n a (suc at) to e in
    record { value = ap (λ m. Some m) same.0; passes = rw (← same.0) h; place = sym same.1 }
passed_by (Some what) test n at to a h e = absurd cc

was_passed : (v : Option ℕ) (test : ℕ → Option Expected) (at to a : ℕ) → with_test v test at ≡ answer a to → Passed v test at to a
was_passed (Some n) test at to a e = passed_by (test n) test n at to a refl e
was_passed None test at to a e = absurd cc

refused_by : (r : Option Expected) (n at : ℕ) (f : WordFault) → passed r (n, suc at) at ≡ failed f → f.word ≡ at
refused_by None n at f e = absurd (ok_no_err e)
refused_by (Some what) n at f e = cc

was_refused : (v : Option ℕ) (test : ℕ → Option Expected) (at : ℕ) (f : WordFault) → with_test v test at ≡ failed f → f.word ≡ at
was_refused (Some n) test at f e = refused_by (test n) n at f e
was_refused None test at f e = cc

reach_by : (r : Option Expected) (n at : ℕ) → at ≤ reach (passed r (n, suc at) at)
reach_by None n at = omega arith
reach_by (Some what) n at = omega arith

test_reach : (v : Option ℕ) (test : ℕ → Option Expected) (at : ℕ) → at ≤ reach (with_test v test at)
test_reach (Some n) test at = reach_by (test n) n at
test_reach None test at = omega arith

abbrev Passes : (ℕ → Option Expected) → ℕ → Type 0
Passes test n = Byte n × (test n ≡ None)

tested_piece : (test : ℕ → Option Expected) (some : ℕ) → Passes test some → Piece (tested test) (λ n. token.Number n ∷ []) (Passes test) any
unfolding byte
tested_piece test some fits = record {
  sound = λ ts at to a e.
      let p = was_passed (values.byte_of (slice_get ts at)) test at to a e in
      let x = byte_reads.reads (slice_get ts at) a p.value in
      ((x.0, tt), p.place, (x.1, p.passes));
  takes = λ ts at a h s free. rw (s.0, byte_reads.gives a h.0, h.1) refl;
  agrees = λ ts us at h. rw (← h at (test_reach (values.byte_of (slice_get ts at)) test at)) refl;
  viable = λ ts at f e. record {
    value = some;
    front = [];
    more = token.Number some ∷ [];
    fits = fits;
    begins = refl;
    stands = tt;
    place = was_refused (values.byte_of (slice_get ts at)) test at f e;
  };
}

no_ok : {A : Type 0} {x : A × ℕ} {f : WordFault} → failed f ≡ Ok x → ⊥
no_ok e = absurd cc

abbrev MinFits : ℕ → Type 0
MinFits n = n ≤ 254

within_254 : (what : Expected) (rest : Option Expected) (n : ℕ) (test : Bool) → nat_lt 254 n ≡ test → cond test (Some what) rest ≡ None → (n ≤ 254) × (rest ≡ None)
within_254 what rest n true e g = absurd cc
within_254 what rest n false e g = (grind (arith, nat_tests, e), g)

no_lower : (what : Expected) (min max : ℕ) (test : Bool) → nat_lt max min ≡ test → cond test (Some what) None ≡ None → min ≤ max
no_lower what min max true e g = absurd cc
no_lower what min max false e g = grind (arith, nat_tests, e)

min_to : (n : ℕ) → Passes min_test n → MinFits n
min_to n h = (within_254 expected.MinAtMost254 None n (nat_lt 254 n) refl h.1).0

min_from : (n : ℕ) → MinFits n → Passes min_test n
min_from n h = (omega (arith, h), rw (le-ltb 254 n h) refl)

min_piece : Piece min_at (λ n. token.Number n ∷ []) MinFits any
unfolding min_at
min_piece = said_so (tested_piece min_test 0 (omega arith, refl)) (λ n. token.Number n ∷ []) MinFits (λ n. refl) min_to min_from

abbrev MaxFits : ℕ → ℕ → Type 0
MaxFits min n = (min ≤ n) × (n ≤ 254)

max_to : (min n : ℕ) → Passes (max_test min) n → MaxFits min n
max_to min n h =
    let w = within_254 expected.MaxAtMost254 (cond (nat_lt n min) (Some expected.MaxNotBelowMin) None) n (nat_lt 254 n) refl h.1 in
    (no_lower expected.MaxNotBelowMin min n (nat_lt n min) refl w.1, w.0)

max_from : (min n : ℕ) → MaxFits min n → Passes (max_test min) n
max_from min n h = (omega (arith, h.1), rw (le-ltb 254 n h.1, le-ltb n min h.0) refl)

max_piece : (min : ℕ) → MinFits min → Piece (max_at min) (λ n. token.Number n ∷ []) (MaxFits min) any
unfolding max_at
max_piece min h =
    said_so (tested_piece (max_test min) min (max_from min min (omega arith, h))) (λ n. token.Number n ∷ []) (MaxFits min) (λ n. refl) (max_to min) (max_from min)

-- Min and max.

abbrev range_tokens : LevelRange → List Token
range_tokens r = token.Name name.Min ∷ token.Number r.min ∷ token.Name name.Max ∷ token.Number r.max ∷ []

abbrev RangeFits : LevelRange → Type 0
RangeFits r = MinFits r.min × MaxFits r.min r.max

range_made : (r : LevelRange) → RangeFits r → From range_from (λ x. Anything x.0 × (MinFits x.1.0 × (Anything x.1.1.0 × MaxFits x.1.0 x.1.1.1))) r
range_made r h = record { value = (tt, (r.min, (tt, r.max))); fits = (tt, (h.0, (tt, h.1))); makes = refl }

range_piece : Piece range range_tokens RangeFits any
unfolding range
range_piece = made_piece range_from
    (both_piece (keyword_piece name.Min expected.Min)
    (λ u h. both_piece min_piece
    (λ min h. both_piece (keyword_piece name.Max expected.Max) (λ u g. max_piece min h) (λ u g. min) (λ u g. (omega arith, h)) (λ u n g h t e. refl))
    (λ min h. (tt, min)) (λ min h. (tt, (omega arith, h))) (λ min x g h t e. refl))
    (λ u h. (0, (tt, 0))) (λ u h. (omega arith, (tt, (omega arith, omega arith)))) (λ u x g h t e. refl))
    range_tokens RangeFits (λ x h. refl) (λ x h. (h.1.0, h.1.1.1)) range_made

-- What may be left out, in three parts.

freer : {A : Type 0} {p : Reader A} {w : A → List Token} {F : A → Type 0} {free : Option Token → Bool} → Piece p w F free
    → (free' : Option Token → Bool) → ((t : Option Token) → free' t ≡ true → free t ≡ true) → Piece p w F free'
freer piece free' h = record {
  sound = piece.sound;
  takes = λ ts at a g s f. piece.takes ts at a g s (h _ f);
  agrees = piece.agrees;
  viable = piece.viable;
}

abbrev Ends : {A : Type 0} → Result A WordFault → Type 0
Ends (Ok x) = Unit {0}
Ends (Err f) = ⊥

and_false : (b : Bool) → (b && false) ≡ false
and_false true = refl
and_false false = refl

flag_there : (n : Name) (ts : List Token) (at : ℕ) (test : Bool) → is_name n (slice_get ts at) ≡ test → Ends (flag n ts at)
unfolding flag
flag_there n ts at true e = rw e tt
flag_there n ts at false e = rw e tt

flag_no_err : (n : Name) (ts : List Token) (at : ℕ) (f : WordFault) (test : Bool) → is_name n (slice_get ts at) ≡ test → flag n ts at ≡ Err f → ⊥
flag_no_err n ts at f test t e = let ends = flag_there n ts at test t in rw e at ends

first_flag : (free : Option Token → Bool) (n : Name) (b : Bool) (t : Option Token) → free t ≡ true → free (Some (token.Name n)) ≡ true
    → free (first_of (flag_tokens n b) t) ≡ true
first_flag free n true t h g = g
first_flag free n false t h g = h

and_left : (a b : Bool) → (a && b) ≡ true → a ≡ true
and_left true b e = refl
and_left false b e = e

and_right : (a b : Bool) → (a && b) ≡ true → b ≡ true
and_right true b e = e
and_right false b e = absurd (false≢true e)

abbrev Levels : Type 0
Levels = Option ℕ × (Option ℕ × (Option ℕ × Option ℕ))

abbrev levels_tokens : Levels → List Token
levels_tokens x =
    byte_tokens name.Level x.0
    ++ (byte_tokens name.OnLevel x.1.0 ++ (byte_tokens name.StartUpCurrentLevel x.1.1.0 ++ byte_tokens name.DefaultMoveRate x.1.1.1))

abbrev LevelsFit : Levels → Type 0
LevelsFit x = ByteFits x.0 × (ByteFits x.1.0 × (ByteFits x.1.1.0 × ByteFits x.1.1.1))

-- none of their names
abbrev no_level : Option Token → Bool
no_level t = other name.Level t && (other name.OnLevel t && (other name.StartUpCurrentLevel t && other name.DefaultMoveRate t))

level_0 : (t : Option Token) → no_level t ≡ true → other name.Level t ≡ true
level_0 t e = and_left (other name.Level t) (other name.OnLevel t && (other name.StartUpCurrentLevel t && other name.DefaultMoveRate t)) e

level_1 : (t : Option Token) → no_level t ≡ true → (other name.OnLevel t && (other name.StartUpCurrentLevel t && other name.DefaultMoveRate t)) ≡ true
level_1 t e = and_right (other name.Level t) (other name.OnLevel t && (other name.StartUpCurrentLevel t && other name.DefaultMoveRate t)) e

level_on : (t : Option Token) → no_level t ≡ true → other name.OnLevel t ≡ true
level_on t e = and_left (other name.OnLevel t) (other name.StartUpCurrentLevel t && other name.DefaultMoveRate t) (level_1 t e)

level_2 : (t : Option Token) → no_level t ≡ true → (other name.StartUpCurrentLevel t && other name.DefaultMoveRate t) ≡ true
level_2 t e = and_right (other name.OnLevel t) (other name.StartUpCurrentLevel t && other name.DefaultMoveRate t) (level_1 t e)

first_two_bytes : (free : Option Token → Bool) (m n : Name) (x y : Option ℕ) (t : Option Token) → free t ≡ true → free (Some (token.Name m)) ≡ true
    → free (Some (token.Name n)) ≡ true → free (first_of (byte_tokens m x ++ byte_tokens n y) t) ≡ true
first_two_bytes free m n x y t h a b = rw (first_append (byte_tokens m x) (byte_tokens n y) t) (first_byte free m x _ (first_byte free n y t h b) a)

levels_piece : Piece levels levels_tokens LevelsFit no_level
unfolding levels
levels_piece =
    both_piece (optional_byte_piece name.Level)
    (λ a h. both_piece (optional_byte_piece name.OnLevel)
    (λ b h. both_piece (optional_byte_piece name.StartUpCurrentLevel)
    (λ c h. freer (optional_byte_piece name.DefaultMoveRate) no_level (λ t e. and_right (other name.StartUpCurrentLevel t) (other name.DefaultMoveRate t) (level_2 t e)))
    (λ c h. None) (λ c h. tt)
    (λ c d g h t e. first_byte (other name.StartUpCurrentLevel) name.DefaultMoveRate d t (and_left (other name.StartUpCurrentLevel t) (other name.DefaultMoveRate t) (level_2 t e)) refl))
    (λ b h. (None, None)) (λ b h. (tt, tt))
    (λ b x g h t e. first_two_bytes (other name.OnLevel) name.StartUpCurrentLevel name.DefaultMoveRate x.0 x.1 t (level_on t e) refl refl))
    (λ a h. (None, (None, None))) (λ a h. (tt, (tt, tt)))
    (λ a x g h t e. rw (first_append (byte_tokens name.OnLevel x.0) (byte_tokens name.StartUpCurrentLevel x.1.0 ++ byte_tokens name.DefaultMoveRate x.1.1) t)
    (first_byte (other name.Level) name.OnLevel x.0 _
    (first_two_bytes (other name.Level) name.StartUpCurrentLevel name.DefaultMoveRate x.1.0 x.1.1 t (level_0 t e) refl refl) refl))

abbrev Times : Type 0
Times = Tenths × (Time × Time)

abbrev times_tokens : Times → List Token
times_tokens x = positive_time_tokens name.OnOffTransitionTime x.0 ++ (time_tokens name.OnTransitionTime x.1.0 ++ time_tokens name.OffTransitionTime x.1.1)

abbrev TimesFit : Times → Type 0
TimesFit x = TenthsFit x.0 × (TimeFits x.1.0 × TimeFits x.1.1)

abbrev no_time : Option Token → Bool
no_time t = other name.OnOffTransitionTime t && (other name.OnTransitionTime t && other name.OffTransitionTime t)

time_0 : (t : Option Token) → no_time t ≡ true → other name.OnOffTransitionTime t ≡ true
time_0 t e = and_left (other name.OnOffTransitionTime t) (other name.OnTransitionTime t && other name.OffTransitionTime t) e

time_1 : (t : Option Token) → no_time t ≡ true → (other name.OnTransitionTime t && other name.OffTransitionTime t) ≡ true
time_1 t e = and_right (other name.OnOffTransitionTime t) (other name.OnTransitionTime t && other name.OffTransitionTime t) e

first_two_times : (free : Option Token → Bool) (x y : Time) (t : Option Token) → free t ≡ true → free (Some (token.Name name.OnTransitionTime)) ≡ true
    → free (Some (token.Name name.OffTransitionTime)) ≡ true → free (first_of (time_tokens name.OnTransitionTime x ++ time_tokens name.OffTransitionTime y) t) ≡ true
first_two_times free x y t h a b =
    rw (first_append (time_tokens name.OnTransitionTime x) (time_tokens name.OffTransitionTime y) t)
    (first_time free name.OnTransitionTime x _ (first_time free name.OffTransitionTime y t h b) a)

first_times : (free : Option Token → Bool) (x : Times) (t : Option Token) → free t ≡ true → free (Some (token.Name name.OnOffTransitionTime)) ≡ true
    → free (Some (token.Name name.OnTransitionTime)) ≡ true → free (Some (token.Name name.OffTransitionTime)) ≡ true → free (first_of (times_tokens x) t) ≡ true
first_times free x t h a b c =
    rw (first_append (positive_time_tokens name.OnOffTransitionTime x.0) (time_tokens name.OnTransitionTime x.1.0 ++ time_tokens name.OffTransitionTime x.1.1) t)
    (first_positive free name.OnOffTransitionTime _ _ _ (first_two_times free x.1.0 x.1.1 t h b c) a)

times_piece : Piece times times_tokens TimesFit no_time
unfolding times
times_piece =
    both_piece (named_time_piece name.OnOffTransitionTime)
    (λ a h. both_piece (optional_time_piece name.OnTransitionTime)
    (λ b h. freer (optional_time_piece name.OffTransitionTime) no_time (λ t e. and_right (other name.OnTransitionTime t) (other name.OffTransitionTime t) (time_1 t e)))
    (λ b h. None) (λ b h. tt)
    (λ b c g h t e. first_time (other name.OnTransitionTime) name.OffTransitionTime c t (and_left (other name.OnTransitionTime t) (other name.OffTransitionTime t) (time_1 t e)) refl))
    (λ a h. (None, None)) (λ a h. (tt, tt))
    (λ a x g h t e. first_two_times (other name.OnOffTransitionTime) x.0 x.1 t (time_0 t e) refl refl)

-- Lighting, which a min of 0 forbids.

abbrev LightingFits : ℕ → Bool → Type 0
LightingFits min b = b ≡ true → 1 ≤ min

abbrev dark : ℕ → List Token → ℕ → Bool
dark min ts at = nat_eq min 0 && is_name name.Lighting (slice_get ts at)

lighting_yes : (min : ℕ) (ts : List Token) (at : ℕ) → dark min ts at ≡ true → lighting min ts at ≡ fault at expected.NoLighting
unfolding lighting
lighting_yes min ts at e = rw e refl

lighting_no : (min : ℕ) (ts : List Token) (at : ℕ) → dark min ts at ≡ false → lighting min ts at ≡ flag name.Lighting ts at
unfolding lighting
lighting_no min ts at e = rw e refl

lit_min : (min : ℕ) (lit : Bool) → lit ≡ true → (nat_eq min 0 && lit) ≡ false → 1 ≤ min
lit_min zero true l e = absurd (true≢false e)
lit_min zero false l e = absurd (false≢true l)
lit_min (suc min) lit l e = omega arith

lighting_sound : (min : ℕ) (ts : List Token) (at to : ℕ) (b : Bool) (test : Bool) → dark min ts at ≡ test → lighting min ts at ≡ Ok (b, to)
    → Stands ts at (flag_tokens name.Lighting b) × (to ≡ past at (flag_tokens name.Lighting b)) × LightingFits min b
lighting_sound min ts at to b true t e = absurd (no_ok (sym (lighting_yes min ts at t) ∙ e))
lighting_sound min ts at to true false t e =
    let s = (flag_piece name.Lighting).sound ts at to true (sym (lighting_no min ts at t) ∙ e) in
    let lit : is_name name.Lighting (slice_get ts at) ≡ true = rw s.0.0 refl in
    (s.0, s.1, λ h. lit_min min (is_name name.Lighting (slice_get ts at)) lit t)
lighting_sound min ts at to false false t e =
    let s = (flag_piece name.Lighting).sound ts at to false (sym (lighting_no min ts at t) ∙ e) in
    (s.0, s.1, λ h. absurd (false≢true h))

lighting_takes : (min : ℕ) (ts : List Token) (at : ℕ) (b : Bool) → LightingFits min b → Stands ts at (flag_tokens name.Lighting b)
    → other name.Lighting (slice_get ts (past at (flag_tokens name.Lighting b))) ≡ true → lighting min ts at ≡ Ok (b, past at (flag_tokens name.Lighting b))
lighting_takes min ts at true h s free =
    let bright : nat_eq min 0 ≡ false = ne_eqb min 0 (λ e. omega (arith, h refl, e)) in
    lighting_no min ts at (rw bright refl) ∙ (flag_piece name.Lighting).takes ts at true tt s free
lighting_takes min ts at false h s free =
    let absent : is_name name.Lighting (slice_get ts at) ≡ false = not_true (is_name name.Lighting (slice_get ts at)) free in
    lighting_no min ts at (rw absent (and_false (nat_eq min 0))) ∙ (flag_piece name.Lighting).takes ts at false tt s free

flag_reach : (n : Name) (ts : List Token) (at : ℕ) → at ≤ reach (flag n ts at)
flag_reach n ts at = reach_up (flag_piece n) ts at (flag n ts at) refl

lighting_agrees : (min : ℕ) (ts us : List Token) (at : ℕ) (test : Bool) → dark min ts at ≡ test → Agree ts us (reach (lighting min ts at))
    → lighting min us at ≡ lighting min ts at
lighting_agrees min ts us at true t h =
    let near : Agree ts us at = rw (lighting_yes min ts at t) at h in
    let same : slice_get ts at ≡ slice_get us at = near at (omega arith) in
    lighting_yes min us at (rw (← same) t) ∙ sym (lighting_yes min ts at t)
lighting_agrees min ts us at false t h =
    let far : Agree ts us (reach (flag name.Lighting ts at)) = rw (lighting_no min ts at t) at h in
    let same : slice_get ts at ≡ slice_get us at = far at (flag_reach name.Lighting ts at) in
    lighting_no min us at (rw (← same) t) ∙ ((flag_piece name.Lighting).agrees ts us at far ∙ sym (lighting_no min ts at t))

lighting_viable : (min : ℕ) (ts : List Token) (at : ℕ) (f : WordFault) (test : Bool) → dark min ts at ≡ test → lighting min ts at ≡ Err f
    → Viable (flag_tokens name.Lighting) (LightingFits min) ts at f
lighting_viable min ts at f true t e = record {
  value = false;
  front = [];
  more = [];
  fits = λ h. absurd (false≢true h);
  begins = refl;
  stands = tt;
  place = sym (ap (λ g. g.word) (err_is _ f (sym (lighting_yes min ts at t) ∙ e)));
}
lighting_viable min ts at f false t e = record {
  value = false;
  front = [];
  more = [];
  fits = λ h. absurd (false≢true h);
  begins = refl;
  stands = tt;
  place = absurd (flag_no_err name.Lighting ts at f (is_name name.Lighting (slice_get ts at)) refl (sym (lighting_no min ts at t) ∙ e));
}

lighting_piece : (min : ℕ) → Piece (lighting min) (flag_tokens name.Lighting) (LightingFits min) (other name.Lighting)
lighting_piece min = record {
  sound = λ ts at to b e. lighting_sound min ts at to b (dark min ts at) refl e;
  takes = lighting_takes min;
  agrees = λ ts us at h. lighting_agrees min ts us at (dark min ts at) refl h;
  viable = λ ts at f e. lighting_viable min ts at f (dark min ts at) refl e;
}

abbrev Flags : Type 0
Flags = ℕ × (Bool × Bool)

abbrev flags_tokens : Flags → List Token
flags_tokens x = positive_byte_tokens name.Options x.0 ++ (flag_tokens name.Coupled x.1.0 ++ flag_tokens name.Lighting x.1.1)

abbrev FlagsFit : ℕ → Flags → Type 0
FlagsFit min x = Byte x.0 × (Anything x.1.0 × LightingFits min x.1.1)

first_two_flags : (free : Option Token → Bool) (x y : Bool) (t : Option Token) → free t ≡ true → free (Some (token.Name name.Coupled)) ≡ true
    → free (Some (token.Name name.Lighting)) ≡ true → free (first_of (flag_tokens name.Coupled x ++ flag_tokens name.Lighting y) t) ≡ true
first_two_flags free x y t h a b =
    rw (first_append (flag_tokens name.Coupled x) (flag_tokens name.Lighting y) t) (first_flag free name.Coupled x _ (first_flag free name.Lighting y t h b) a)

first_flags : (free : Option Token → Bool) (x : Flags) (t : Option Token) → free t ≡ true → free (Some (token.Name name.Options)) ≡ true
    → free (Some (token.Name name.Coupled)) ≡ true → free (Some (token.Name name.Lighting)) ≡ true → free (first_of (flags_tokens x) t) ≡ true
first_flags free x t h a b c =
    rw (first_append (positive_byte_tokens name.Options x.0) (flag_tokens name.Coupled x.1.0 ++ flag_tokens name.Lighting x.1.1) t)
    (first_positive free name.Options _ _ _ (first_two_flags free x.1.0 x.1.1 t h b c) a)

flags_piece : (min : ℕ) → Piece (flags min) flags_tokens (FlagsFit min) is_end
unfolding flags
flags_piece min =
    both_piece (named_byte_piece name.Options)
    (λ a h. both_piece (flag_piece name.Coupled) (λ b h. before_end (lighting_piece min) (no_name name.Lighting)) (λ b h. false)
    (λ b h e. absurd (false≢true e)) (λ b c g h t e. first_flag (other name.Coupled) name.Lighting c t (no_name name.Coupled t e) refl))
    (λ a h. (false, false)) (λ a h. (tt, λ e. absurd (false≢true e)))
    (λ a x g h t e. first_two_flags (other name.Options) x.0 x.1 t (no_name name.Options t e) refl refl)

-- What may be left out, together.

no_level_end : (t : Option Token) → is_end t ≡ true → no_level t ≡ true
no_level_end (Some t) e = absurd (false≢true e)
no_level_end None e = refl

no_time_end : (t : Option Token) → is_end t ≡ true → no_time t ≡ true
no_time_end (Some t) e = absurd (false≢true e)
no_time_end None e = refl

rest_piece : (min : ℕ) → Piece (both levels (λ l. both times (λ t. flags min))) (λ x. levels_tokens x.0 ++ (times_tokens x.1.0 ++ flags_tokens x.1.1))
    (λ x. LevelsFit x.0 × (TimesFit x.1.0 × FlagsFit min x.1.1)) is_end
rest_piece min =
    both_piece levels_piece
    (λ a h. both_piece times_piece (λ b h. flags_piece min) (λ b h. (0, (false, false))) (λ b h. (omega arith, (tt, λ e. absurd (false≢true e))))
    (λ b x g h t e. first_flags no_time x t (no_time_end t e) refl refl refl))
    (λ a h. ((tenths 0, (None, None)), (0, (false, false)))) (λ a h. ((omega arith, (tt, tt)), (omega arith, (tt, λ e. absurd (false≢true e)))))
    (λ a x g h t e. rw (first_append (times_tokens x.0) (flags_tokens x.1) t)
    (first_times no_level x.0 _ (first_flags no_level x.1 t (no_level_end t e) refl refl refl) refl refl refl))

-- Settings.

abbrev pub Right : Settings → Type 0
Right x = SettingsFit x × Allowed x

abbrev Rest : Type 0
Rest = Levels × (Times × Flags)

abbrev Whole : Type 0
Whole = Unit {0} × (LevelRange × (Unit {0} × (ℕ × Rest)))

abbrev WholeFits : Whole → Type 0
WholeFits x = Anything x.0 × (RangeFits x.1.0 × (Anything x.1.1.0 × (Byte x.1.1.1.0 × (LevelsFit x.1.1.1.1.0 × (TimesFit x.1.1.1.1.1.0 × FlagsFit x.1.0.min x.1.1.1.1.1.1)))))

settings_fit : (x : Whole) → WholeFits x → Right (settings_from x)
settings_fit x h =
    let range = h.1.0 in
    let levels = h.1.1.1.1.0 in
    let times = h.1.1.1.1.1.0 in
    let flags = h.1.1.1.1.1.1 in (
      record {
        min_level_fits = omega (arith, range.0);
        max_level_fits = omega (arith, range.1.1);
        fastest_rate = h.1.1.1.0;
        level = levels.0;
        on_level = levels.1.0;
        options = flags.0;
        common_time = times.0;
        on_time_fits = times.1.0;
        off_time_fits = times.1.1;
        default_rate = levels.1.1.1;
        start_up_level_fits = levels.1.1.0;
      },
      record { max_at_most_254 = range.1.1; min_at_most_max = range.1.0; lighting_not_0 = flags.1.1 },
    )

settings_made : (x : Settings) → Right x → From settings_from WholeFits x
settings_made x h = record {
  value = (
    tt,
    (
      x.range,
      (
        tt,
        (
          x.fastest_rate,
          (
            (x.current_level, (x.attributes.on_level, (x.attributes.start_up_current_level, x.attributes.default_move_rate))),
            ((x.attributes.on_off_transition_time, (x.attributes.on_transition_time, x.attributes.off_transition_time)), (x.attributes.options.0, (x.coupled, x.lighting))),
          ),
        ),
      ),
    ),
  );
  fits = (
    tt,
    (
      (omega (arith, h.1.min_at_most_max, h.1.max_at_most_254), (h.1.min_at_most_max, h.1.max_at_most_254)),
      (
        tt,
        (
          h.0.fastest_rate,
          (
            (h.0.level, (h.0.on_level, (h.0.start_up_level_fits, h.0.default_rate))),
            ((h.0.common_time, (h.0.on_time_fits, h.0.off_time_fits)), (h.0.options, (tt, h.1.lighting_not_0))),
          ),
        ),
      ),
    ),
  );
  makes = refl;
}

no_rest : Rest
no_rest = ((None, (None, (None, None))), ((tenths 0, (None, None)), (0, (false, false))))

no_rest_fits : (min : ℕ) → LevelsFit no_rest.0 × (TimesFit no_rest.1.0 × FlagsFit min no_rest.1.1)
unfolding no_rest
no_rest_fits min = ((tt, (tt, (tt, tt))), ((omega arith, (tt, tt)), (omega arith, (tt, λ e. absurd (false≢true e)))))

behind_three : (a b c r : List Token) → (a ++ (b ++ c)) ++ r ≡ a ++ (b ++ (c ++ r))
behind_three a b c r = append_assoc a (b ++ c) r ∙ ap (λ s. a ++ s) (append_assoc b c r)

behind_four : (a b c d r : List Token) → (a ++ (b ++ (c ++ d))) ++ r ≡ a ++ (b ++ (c ++ (d ++ r)))
behind_four a b c d r = append_assoc a (b ++ (c ++ d)) r ∙ ap (λ s. a ++ s) (behind_three b c d r)

settings_order : (x : Whole) → WholeFits x → settings_tokens (settings_from x)
    ≡ token.Name name.Settings ∷ (range_tokens x.1.0 ++ (token.Name name.FastestRate ∷ token.Number x.1.1.1.0
    ∷ (levels_tokens x.1.1.1.1.0 ++ (times_tokens x.1.1.1.1.1.0 ++ flags_tokens x.1.1.1.1.1.1))))
settings_order x h =
    let l = x.1.1.1.1.0 in
    let t = x.1.1.1.1.1.0 in
    let flags = flags_tokens x.1.1.1.1.1.1 in
    let times = behind_three (positive_time_tokens name.OnOffTransitionTime t.0) (time_tokens name.OnTransitionTime t.1.0) (time_tokens name.OffTransitionTime t.1.1) flags in
    let levels = behind_four (byte_tokens name.Level l.0) (byte_tokens name.OnLevel l.1.0) (byte_tokens name.StartUpCurrentLevel l.1.1.0)
    (byte_tokens name.DefaultMoveRate l.1.1.1) (times_tokens t ++ flags) in
    rw (levels, times) refl

pub settings_piece : Piece settings settings_tokens Right is_end
unfolding settings
settings_piece = made_piece settings_from
    (both_piece (keyword_piece name.Settings expected.Settings)
    (λ u h. both_piece range_piece
    (λ r h. both_piece (keyword_piece name.FastestRate expected.FastestRate)
    (λ u h. both_piece byte_piece (λ rate h. rest_piece r.min) (λ rate h. no_rest) (λ rate h. no_rest_fits r.min) (λ rate x g h t e. refl))
    (λ u h. (0, no_rest)) (λ u h. (omega arith, no_rest_fits r.min)) (λ u x g h t e. refl))
    (λ r h. (tt, (0, no_rest))) (λ r h. (tt, (omega arith, no_rest_fits r.min))) (λ r x g h t e. refl))
    (λ u h. (record { min = 0; max = 0 }, (tt, (0, no_rest)))) (λ u h. ((omega arith, (omega arith, omega arith)), (tt, (omega arith, no_rest_fits 0))))
    (λ u x g h t e. refl))
    settings_tokens Right settings_order settings_fit settings_made
