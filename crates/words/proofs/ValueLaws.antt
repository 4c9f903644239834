-- The readers of the values of a line, and their tokens.
use Rattle.std.proofs.Common.{ℕ, zero, suc, ◌≡◌, ◌*◌, ◌/◌, ◌%◌, ◌^◌, ◌≤◌, ◌<◌, Bool, true, false, ◌&&◌, List, [], ◌∷◌, refl, sym, ap, ◌∙◌, arith, nat_eq, nat_le}
use borrow.Author.Tests.{le-leb, ne_eqb}
use mathlib.Core.Bool.{true≢false, false≢true}
use Rattle.std.proofs.lemmas.Bool.Decides.{nat_tests}
use Rattle.std.proofs.lemmas.Slice.Eq.{bytes_eq-Decides}
use Rattle.std.specs.Prelude.{Option, Some, None}
use Rattle.units.specs.Units.{tenths, millis, micros}
use Rattle.units.specs.declared.Micros.{Micros}
use Rattle.units.specs.declared.Millis.{Millis}
use Rattle.units.specs.declared.Tenths.{Tenths}
use Rattle.transitions.specs.Types.{Time}
use Rattle.transitions.specs.declared.events.DeviceAnswer.{DeviceAnswer}
use Rattle.transitions.specs.declared.events.DeviceAnswer.TheVariants as device
use Rattle.transitions.specs.declared.types.Mode.{Mode}
use Rattle.transitions.specs.declared.types.Mode.TheVariants.{Up, Down}
use Rattle.records.specs.Written.{AnswerFits, ByteFits, TimeFits}
use Rattle.words.specs.Names.{name_text, name_of}
use Rattle.words.specs.Spelling.{direction_name, on_off_name}
use Rattle.words.specs.Values as values
use Rattle.words.specs.Values.{Reader, both, made, one, taken, given, is_name, fault, ◌>>=◌, byte, positive_byte, clock_time, transition_time, positive_time, scene_time, on_off, direction, verb, answer, byte_or_null, keyword, flag, is_there, nothing, optional_byte, optional_time, named_byte, named_time, or_0, or_no_time}
use Rattle.words.specs.declared.fault.Expected.{Expected}
use Rattle.words.specs.declared.fault.Expected.TheVariants as expected
use Rattle.words.specs.declared.names.Name.{Name}
use Rattle.words.specs.declared.names.Name.TheVariants as name
use Rattle.words.specs.declared.names.Verb.{Verb}
use Rattle.words.specs.declared.names.Verb.TheVariants.{StartUp}
use Rattle.words.specs.declared.tokens.Token.{Token}
use Rattle.words.specs.declared.tokens.Token.TheVariants as token
use Rattle.words.proofs.Pieces.{From, IfThere, Piece, Reads, any, made_piece, named, ok_is, ok_no_err, one_piece, optional_piece, other}
use Rattle.words.proofs.Said.{answer_token, byte_or_null_token, byte_tokens, flag_tokens, millis_token, positive_byte_tokens, positive_time_tokens, tenths_token, time_tokens}

-- Names.

pub named_so : (n : Name) → name_of (name_text n) ≡ Some n
unfolding name_of
named_so name.On = refl
named_so name.Off = refl
named_so name.Up = refl
named_so name.Down = refl
named_so name.Null = refl
named_so name.Failed = refl
named_so name.Rate = refl
named_so name.In = refl
named_so name.Mask = refl
named_so name.Override = refl
named_so name.Settings = refl
named_so name.Min = refl
named_so name.Max = refl
named_so name.FastestRate = refl
named_so name.Level = refl
named_so name.OnLevel = refl
named_so name.StartUpCurrentLevel = refl
named_so name.DefaultMoveRate = refl
named_so name.OnOffTransitionTime = refl
named_so name.OnTransitionTime = refl
named_so name.OffTransitionTime = refl
named_so name.Options = refl
named_so name.Coupled = refl
named_so name.Lighting = refl

some_name : (a b : Name) → Some a ≡ Some b → a ≡ b
some_name a b e = cc

pub is_own : (n : Name) → is_name n (Some (token.Name n)) ≡ true
is_own n = (bytes_eq-Decides (name_text n) (name_text n)).1 refl

pub is_that : (n : Name) (t : Option Token) → is_name n t ≡ true → t ≡ Some (token.Name n)
is_that n (Some (token.Name found)) e =
    let texts = (bytes_eq-Decides (name_text found) (name_text n)).0 e in
    let same : found ≡ n = some_name found n (sym (named_so found) ∙ (ap name_of texts ∙ named_so n)) in
    ap (λ m. Some (token.Name m)) same
is_that n (Some (token.Number x)) e = absurd cc
is_that n (Some (token.Time t)) e = absurd cc
is_that n (Some (token.Verb v)) e = absurd cc
is_that n (Some token.Other) e = absurd cc
is_that n None e = absurd cc

-- Values of one word.

pub some_is : {A : Type 0} (x y : A) → Some x ≡ Some y → x ≡ y
some_is x y e = cc

given_is : {A : Type 0} (test : Bool) (x y : A) → given test x ≡ Some y → (test ≡ true) × (x ≡ y)
given_is true x y e = (refl, some_is x y e)
given_is false x y e = absurd cc

and_is : (a b : Bool) → (a && b) ≡ true → (a ≡ true) × (b ≡ true)
and_is true b e = (refl, e)
and_is false b e = absurd cc

abbrev pub Byte : ℕ → Type 0
Byte n = n < 2 ^ 8

abbrev pub Positive : ℕ → Type 0
Positive n = (1 ≤ n) × (n < 2 ^ 8)

abbrev pub Clock : Micros → Type 0
Clock t = Unit {0}

abbrev pub TenthsFit : Tenths → Type 0
TenthsFit t = t.0 < 2 ^ 16

abbrev pub PositiveTenths : Tenths → Type 0
PositiveTenths t = (1 ≤ t.0) × (t.0 < 2 ^ 16)

abbrev pub MillisFit : Millis → Type 0
MillisFit t = t.0 < 2 ^ 32

abbrev pub Anything : {A : Type 0} → A → Type 0
Anything x = Unit {0}

byte_from : (t : Option Token) (n : ℕ) → values.byte_of t ≡ Some n → (t ≡ Some (token.Number n)) × Byte n
byte_from (Some (token.Number x)) n e = let g = given_is (nat_le x 255) x n e in (ap (λ m. Some (token.Number m)) g.1, grind (arith, nat_tests, g.0, g.1))
byte_from t n e = absurd cc

pub byte_reads : Reads values.byte_of (λ n. token.Number n) Byte
byte_reads = record { reads = byte_from; gives = λ n h. rw (le-leb n 255 (omega (arith, h))) refl }

positive_from : (t : Option Token) (n : ℕ) → values.positive_byte_of t ≡ Some n → (t ≡ Some (token.Number n)) × Positive n
positive_from (Some (token.Number x)) n e =
    let g = given_is (nat_le 1 x && nat_le x 255) x n e in
    let a = and_is (nat_le 1 x) (nat_le x 255) g.0 in
    (ap (λ m. Some (token.Number m)) g.1, (grind (arith, nat_tests, a.0, g.1), grind (arith, nat_tests, a.1, g.1)))
positive_from t n e = absurd cc

positive_reads : Reads values.positive_byte_of (λ n. token.Number n) Positive
positive_reads = record { reads = positive_from; gives = λ n h. rw (le-leb 1 n h.0, le-leb n 255 (omega (arith, h.1))) refl }

clock_from : (t : Option Token) (n : Micros) → values.clock_time_of t ≡ Some n → (t ≡ Some (token.Time n)) × Clock n
clock_from (Some (token.Time u)) n e = (ap (λ m. Some (token.Time m)) (some_is u n e), tt)
clock_from t n e = absurd cc

clock_reads : Reads values.clock_time_of (λ t. token.Time t) Clock
clock_reads = record { reads = clock_from; gives = λ t h. refl }

-- whole units of a time

whole : (u : Micros) (k : ℕ) → u.0 ≡ k → micros k ≡ u
whole u k e = rw (← e) refl

tenths_from : (t : Option Token) (n : Tenths) → values.transition_time_of t ≡ Some n → (t ≡ Some (tenths_token n)) × TenthsFit n
tenths_from (Some (token.Time u)) n e =
    let g = given_is (nat_eq (u.0 % 100000) 0 && nat_le (u.0 / 100000) 65535) (tenths (u.0 / 100000)) n e in
    let a = and_is (nat_eq (u.0 % 100000) 0) (nat_le (u.0 / 100000) 65535) g.0 in
    let rest : u.0 % 100000 ≡ 0 = grind (arith, nat_tests, a.0) in
    let all : u.0 ≡ u.0 / 100000 * 100000 = omega (arith, rest) in
    let below : u.0 / 100000 < 2 ^ 16 = grind (arith, nat_tests, a.1) in
    rw (← g.1) (ap (λ m. Some (token.Time m)) (sym (whole u (u.0 / 100000 * 100000) all)), below)
tenths_from t n e = absurd cc

tenths_gives : (t : Tenths) → TenthsFit t → values.transition_time_of (Some (tenths_token t)) ≡ Some t
tenths_gives t h =
    let rest : t.0 * 100000 % 100000 ≡ 0 = omega arith in
    let all : t.0 * 100000 / 100000 ≡ t.0 = omega arith in
    rw (rest, all, le-leb t.0 65535 (omega (arith, h))) refl

tenths_reads : Reads values.transition_time_of tenths_token TenthsFit
tenths_reads = record { reads = tenths_from; gives = tenths_gives }

positive_time_from : (t : Option Token) (n : Tenths) → values.positive_time_of t ≡ Some n → (t ≡ Some (tenths_token n)) × PositiveTenths n
positive_time_from (Some (token.Time u)) n e =
    let g = given_is (nat_eq (u.0 % 100000) 0 && (nat_le 1 (u.0 / 100000) && nat_le (u.0 / 100000) 65535)) (tenths (u.0 / 100000)) n e in
    let a = and_is (nat_eq (u.0 % 100000) 0) (nat_le 1 (u.0 / 100000) && nat_le (u.0 / 100000) 65535) g.0 in
    let b = and_is (nat_le 1 (u.0 / 100000)) (nat_le (u.0 / 100000) 65535) a.1 in
    let rest : u.0 % 100000 ≡ 0 = grind (arith, nat_tests, a.0) in
    let all : u.0 ≡ u.0 / 100000 * 100000 = omega (arith, rest) in
    let above : 1 ≤ u.0 / 100000 = grind (arith, nat_tests, b.0) in
    let below : u.0 / 100000 < 2 ^ 16 = grind (arith, nat_tests, b.1) in
    rw (← g.1) (ap (λ m. Some (token.Time m)) (sym (whole u (u.0 / 100000 * 100000) all)), (above, below))
positive_time_from t n e = absurd cc

positive_time_gives : (t : Tenths) → PositiveTenths t → values.positive_time_of (Some (tenths_token t)) ≡ Some t
positive_time_gives t h =
    let rest : t.0 * 100000 % 100000 ≡ 0 = omega arith in
    let all : t.0 * 100000 / 100000 ≡ t.0 = omega arith in
    rw (rest, all, le-leb 1 t.0 h.0, le-leb t.0 65535 (omega (arith, h.1))) refl

positive_time_reads : Reads values.positive_time_of tenths_token PositiveTenths
positive_time_reads = record { reads = positive_time_from; gives = positive_time_gives }

millis_from : (t : Option Token) (n : Millis) → values.scene_time_of t ≡ Some n → (t ≡ Some (millis_token n)) × MillisFit n
millis_from (Some (token.Time u)) n e =
    let g = given_is (nat_eq (u.0 % 1000) 0 && nat_le (u.0 / 1000) 4294967295) (millis (u.0 / 1000)) n e in
    let a = and_is (nat_eq (u.0 % 1000) 0) (nat_le (u.0 / 1000) 4294967295) g.0 in
    let rest : u.0 % 1000 ≡ 0 = grind (arith, nat_tests, a.0) in
    let all : u.0 ≡ u.0 / 1000 * 1000 = omega (arith, rest) in
    let below : u.0 / 1000 < 2 ^ 32 = grind (arith, nat_tests, a.1) in
    rw (← g.1) (ap (λ m. Some (token.Time m)) (sym (whole u (u.0 / 1000 * 1000) all)), below)
millis_from t n e = absurd cc

millis_gives : (t : Millis) → MillisFit t → values.scene_time_of (Some (millis_token t)) ≡ Some t
millis_gives t h =
    let rest : t.0 * 1000 % 1000 ≡ 0 = omega arith in
    let all : t.0 * 1000 / 1000 ≡ t.0 = omega arith in
    rw (rest, all, le-leb t.0 4294967295 (omega (arith, h))) refl

millis_reads : Reads values.scene_time_of millis_token MillisFit
millis_reads = record { reads = millis_from; gives = millis_gives }

on_off_from : (t : Option Token) (on : Bool) → values.on_off_of t ≡ Some on → (t ≡ Some (token.Name (on_off_name on))) × Anything on
on_off_from (Some (token.Name name.On)) true e = (refl, tt)
on_off_from (Some (token.Name name.On)) false e = absurd (true≢false (some_is true false e))
on_off_from (Some (token.Name name.Off)) false e = (refl, tt)
on_off_from (Some (token.Name name.Off)) true e = absurd (false≢true (some_is false true e))
on_off_from t on e = absurd cc

on_off_gives : (on : Bool) → Anything on → values.on_off_of (Some (token.Name (on_off_name on))) ≡ Some on
on_off_gives true h = refl
on_off_gives false h = refl

on_off_reads : Reads values.on_off_of (λ on. token.Name (on_off_name on)) Anything
on_off_reads = record { reads = on_off_from; gives = on_off_gives }

direction_from : (t : Option Token) (m : Mode) → values.direction_of t ≡ Some m → (t ≡ Some (token.Name (direction_name m))) × Anything m
direction_from (Some (token.Name name.Up)) m e = (ap (λ m. Some (token.Name (direction_name m))) (some_is Up m e), tt)
direction_from (Some (token.Name name.Down)) m e = (ap (λ m. Some (token.Name (direction_name m))) (some_is Down m e), tt)
direction_from t m e = absurd cc

direction_gives : (m : Mode) → Anything m → values.direction_of (Some (token.Name (direction_name m))) ≡ Some m
direction_gives Up h = refl
direction_gives Down h = refl

direction_reads : Reads values.direction_of (λ m. token.Name (direction_name m)) Anything
direction_reads = record { reads = direction_from; gives = direction_gives }

verb_from : (t : Option Token) (v : Verb) → values.verb_of t ≡ Some v → (t ≡ Some (token.Verb v)) × Anything v
verb_from (Some (token.Verb u)) v e = (ap (λ v. Some (token.Verb v)) (some_is u v e), tt)
verb_from t v e = absurd cc

verb_reads : Reads values.verb_of (λ v. token.Verb v) Anything
verb_reads = record { reads = verb_from; gives = λ v h. refl }

answer_from : (t : Option Token) (a : DeviceAnswer) → values.answer_of t ≡ Some a → (t ≡ Some (answer_token a)) × AnswerFits a
answer_from (Some (token.Number x)) a e =
    let g = given_is (nat_le x 255) (device.Level x) a e in
    let below : x < 2 ^ 8 = grind (arith, nat_tests, g.0) in
    rw (← g.1) (refl, below)
answer_from (Some (token.Name name.Null)) a e = rw (← some_is device.Missing a e) (refl, tt)
answer_from (Some (token.Name name.Failed)) a e = rw (← some_is device.Failed a e) (refl, tt)
answer_from t a e = absurd cc

answer_gives : (a : DeviceAnswer) → AnswerFits a → values.answer_of (Some (answer_token a)) ≡ Some a
answer_gives (device.Level l) h = rw (le-leb l 255 (omega (arith, h))) refl
answer_gives device.Missing h = refl
answer_gives device.Failed h = refl

answer_reads : Reads values.answer_of answer_token AnswerFits
answer_reads = record { reads = answer_from; gives = answer_gives }

byte_or_null_from : (t : Option Token) (a : Option ℕ) → values.byte_or_null_of t ≡ Some a → (t ≡ Some (byte_or_null_token a)) × ByteFits a
byte_or_null_from (Some (token.Number x)) a e =
    let g = given_is (nat_le x 255) (Some x) a e in
    let below : x < 2 ^ 8 = grind (arith, nat_tests, g.0) in
    rw (← g.1) (refl, below)
byte_or_null_from (Some (token.Name name.Null)) a e = rw (← some_is None a e) (refl, tt)
byte_or_null_from t a e = absurd cc

byte_or_null_gives : (a : Option ℕ) → ByteFits a → values.byte_or_null_of (Some (byte_or_null_token a)) ≡ Some a
byte_or_null_gives (Some x) h = rw (le-leb x 255 (omega (arith, h))) refl
byte_or_null_gives None h = refl

byte_or_null_reads : Reads values.byte_or_null_of byte_or_null_token ByteFits
byte_or_null_reads = record { reads = byte_or_null_from; gives = byte_or_null_gives }

-- The readers of one word.

pub byte_piece : Piece byte (λ n. token.Number n ∷ []) Byte any
unfolding byte
byte_piece = one_piece values.byte_of expected.Byte (λ n. token.Number n) Byte 0 (omega arith) byte_reads

pub positive_byte_piece : Piece positive_byte (λ n. token.Number n ∷ []) Positive any
unfolding positive_byte
positive_byte_piece = one_piece values.positive_byte_of expected.PositiveByte (λ n. token.Number n) Positive 1 (omega arith, omega arith) positive_reads

pub clock_piece : Piece clock_time (λ t. token.Time t ∷ []) Clock any
unfolding clock_time
clock_piece = one_piece values.clock_time_of expected.ClockTime (λ t. token.Time t) Clock (micros 0) tt clock_reads

pub transition_time_piece : Piece transition_time (λ t. tenths_token t ∷ []) TenthsFit any
unfolding transition_time
transition_time_piece = one_piece values.transition_time_of expected.TransitionTime tenths_token TenthsFit (tenths 0) (omega arith) tenths_reads

pub positive_time_piece : Piece positive_time (λ t. tenths_token t ∷ []) PositiveTenths any
unfolding positive_time
positive_time_piece = one_piece values.positive_time_of expected.PositiveTime tenths_token PositiveTenths (tenths 1) (omega arith, omega arith) positive_time_reads

pub scene_time_piece : Piece scene_time (λ t. millis_token t ∷ []) MillisFit any
unfolding scene_time
scene_time_piece = one_piece values.scene_time_of expected.SceneTime millis_token MillisFit (millis 0) (omega arith) millis_reads

pub on_off_piece : (what : Expected) → Piece (on_off what) (λ on. token.Name (on_off_name on) ∷ []) Anything any
unfolding on_off
on_off_piece what = one_piece values.on_off_of what (λ on. token.Name (on_off_name on)) Anything true tt on_off_reads

pub direction_piece : Piece direction (λ m. token.Name (direction_name m) ∷ []) Anything any
unfolding direction
direction_piece = one_piece values.direction_of expected.Direction (λ m. token.Name (direction_name m)) Anything Up tt direction_reads

pub verb_piece : Piece verb (λ v. token.Verb v ∷ []) Anything any
unfolding verb
verb_piece = one_piece values.verb_of expected.Verb (λ v. token.Verb v) Anything StartUp tt verb_reads

pub answer_piece : Piece answer (λ a. answer_token a ∷ []) AnswerFits any
unfolding answer
answer_piece = one_piece values.answer_of expected.Answer answer_token AnswerFits device.Missing tt answer_reads

pub byte_or_null_piece : Piece byte_or_null (λ a. byte_or_null_token a ∷ []) ByteFits any
unfolding byte_or_null
byte_or_null_piece = one_piece values.byte_or_null_of expected.ByteOrNull byte_or_null_token ByteFits None tt byte_or_null_reads

-- Names that must or may stand there.

abbrev pub keyword_tokens : Name → Unit {0} → List Token
keyword_tokens n u = token.Name n ∷ []

name_reads : (n : Name) → Reads (values.name_of n) (λ u. token.Name n) Anything
name_reads n = record { reads = λ t u e. (is_that n t (given_is (is_name n t) tt u e).0, tt); gives = λ u h. rw (is_own n) refl }

pub keyword_piece : (n : Name) (what : Expected) → Piece (keyword n what) (keyword_tokens n) Anything any
unfolding keyword
keyword_piece n what = one_piece (values.name_of n) what (λ u. token.Name n) Anything tt tt (name_reads n)

pub alone_piece : {A : Type 0} (x : A) (w : A → List Token) (F : A → Type 0) → w x ≡ [] → F x → ((a : A) → F a → x ≡ a) → (free : Option Token → Bool)
    → Piece (values.alone x) w F free
alone_piece x w F none fits only free = record {
  sound = λ ts at to a e.
      let same = ok_is x a at to e in
      rw (← same.0, none) (tt, sym same.1, fits);
  takes = λ ts at a h s f. rw (← only a h, none) refl;
  agrees = λ ts us at h. refl;
  viable = λ ts at f e. absurd (ok_no_err e);
}

nothing_piece : Piece nothing (λ u. []) Anything any
nothing_piece = record {
  sound = λ ts at to u e. (tt, sym (ok_is u u at to e).1, tt);
  takes = λ ts at u h s f. refl;
  agrees = λ ts us at h. refl;
  viable = λ ts at f e. absurd (ok_no_err e);
}

flag_from : (b : Bool) → Anything b → From is_there (IfThere Anything) b
flag_from true h = record { value = Some tt; fits = tt; makes = refl }
flag_from false h = record { value = None; fits = tt; makes = refl }

flag_named : (n : Name) (x : Option (Unit {0})) → IfThere Anything x → flag_tokens n (is_there x) ≡ named n (λ u. []) x
flag_named n (Some u) h = refl
flag_named n None h = refl

pub flag_piece : (n : Name) → Piece (flag n) (flag_tokens n) Anything (other n)
unfolding flag
flag_piece n = made_piece is_there (optional_piece n (is_that n) (is_own n) nothing_piece) (flag_tokens n) Anything (flag_named n) (λ x h. tt) flag_from

-- Values behind a name.

byte_named : (n : Name) (x : Option ℕ) → named n (λ a. token.Number a ∷ []) x ≡ byte_tokens n x
byte_named n (Some x) = refl
byte_named n None = refl

pub byte_there : (x : Option ℕ) → ByteFits x → IfThere Byte x
byte_there (Some x) h = h
byte_there None h = tt

there_byte : (x : Option ℕ) → IfThere Byte x → ByteFits x
there_byte (Some x) h = h
there_byte None h = tt

time_named : (n : Name) (x : Time) → named n (λ a. tenths_token a ∷ []) x ≡ time_tokens n x
time_named n (Some x) = refl
time_named n None = refl

time_there : (x : Time) → TimeFits x → IfThere TenthsFit x
time_there (Some x) h = h
time_there None h = tt

there_time : (x : Time) → IfThere TenthsFit x → TimeFits x
there_time (Some x) h = h
there_time None h = tt

-- the same reader and tokens, said otherwise
pub said_so : {A : Type 0} {p : Reader A} {w : A → List Token} {F : A → Type 0} {free : Option Token → Bool} → Piece p w F free
    → (w' : A → List Token) (F' : A → Type 0) → ((a : A) → w a ≡ w' a) → ((a : A) → F a → F' a) → ((a : A) → F' a → F a) → Piece p w' F' free
said_so piece w' F' same to from = record {
  sound = λ ts at n a e. let s = piece.sound ts at n a e in rw (← same a) (s.0, s.1, to a s.2);
  takes = λ ts at a h s f. rw (← same a) (piece.takes ts at a (from a h) (rw (same a) s) (rw (same a) f));
  agrees = piece.agrees;
  viable = λ ts at f e.
      let v = piece.viable ts at f e in
      record {
        value = v.value;
        front = v.front;
        more = v.more;
        fits = to v.value v.fits;
        begins = sym (same v.value) ∙ v.begins;
        stands = v.stands;
        place = v.place;
      };
}

pub optional_byte_piece : (n : Name) → Piece (optional_byte n) (byte_tokens n) ByteFits (other n)
unfolding optional_byte
optional_byte_piece n = said_so (optional_piece n (is_that n) (is_own n) byte_piece) (byte_tokens n) ByteFits (byte_named n) there_byte byte_there

pub optional_time_piece : (n : Name) → Piece (optional_time n) (time_tokens n) TimeFits (other n)
unfolding optional_time
optional_time_piece n = said_so (optional_piece n (is_that n) (is_own n) transition_time_piece) (time_tokens n) TimeFits (time_named n) there_time time_there

-- 0 where it is left out

positive_not_0 : (x : ℕ) → 1 ≤ x → nat_eq x 0 ≡ false
positive_not_0 x h = ne_eqb x 0 (λ e. omega (arith, h, e))

or_0_tokens : (n : Name) (x : Option ℕ) → IfThere Positive x → positive_byte_tokens n (or_0 x) ≡ named n (λ a. token.Number a ∷ []) x
or_0_tokens n (Some x) h = rw (positive_not_0 x h.0) refl
or_0_tokens n None h = refl

or_0_fits : (x : Option ℕ) → IfThere Positive x → Byte (or_0 x)
or_0_fits (Some x) h = h.1
or_0_fits None h = omega arith

or_0_from : (x : ℕ) → Byte x → From or_0 (IfThere Positive) x
or_0_from zero h = record { value = None; fits = tt; makes = refl }
or_0_from (suc x) h = record { value = Some (suc x); fits = (omega arith, h); makes = refl }

pub named_byte_piece : (n : Name) → Piece (named_byte n) (positive_byte_tokens n) Byte (other n)
unfolding named_byte
named_byte_piece n = made_piece or_0 (optional_piece n (is_that n) (is_own n) positive_byte_piece) (positive_byte_tokens n) Byte (or_0_tokens n) or_0_fits or_0_from

no_time_tokens : (n : Name) (x : Option Tenths) → IfThere PositiveTenths x → positive_time_tokens n (or_no_time x) ≡ named n (λ a. tenths_token a ∷ []) x
no_time_tokens n (Some x) h = rw (positive_not_0 x.0 h.0) refl
no_time_tokens n None h = refl

no_time_fits : (x : Option Tenths) → IfThere PositiveTenths x → TenthsFit (or_no_time x)
no_time_fits (Some x) h = h.1
no_time_fits None h = omega arith

no_time_of : (x : ℕ) → x < 2 ^ 16 → From or_no_time (IfThere PositiveTenths) (tenths x)
no_time_of zero h = record { value = None; fits = tt; makes = refl }
no_time_of (suc x) h = record { value = Some (tenths (suc x)); fits = (omega arith, h); makes = refl }

no_time_from : (x : Tenths) → TenthsFit x → From or_no_time (IfThere PositiveTenths) x
no_time_from x h = no_time_of x.0 h

pub named_time_piece : (n : Name) → Piece (named_time n) (positive_time_tokens n) TenthsFit (other n)
unfolding named_time
named_time_piece n =
    made_piece or_no_time (optional_piece n (is_that n) (is_own n) positive_time_piece) (positive_time_tokens n) TenthsFit (no_time_tokens n) no_time_fits no_time_from
