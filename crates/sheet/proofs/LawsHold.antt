-- The laws of specs/Laws.antt. Assumes nothing.
use Rattle.std.specs.Prelude.{Result, Ok, Err}
use Prim.Native.Nat.{ℕ, zero, suc, ◌+◌, ◌-◌, ◌/◌, ◌%◌, ◌<◌, ◌≤◌, min}
use mathlib.Core.Bool.{Bool, true, false, false≢true, cond}
use mathlib.Core.Path.{◌≡◌, refl, sym, ap, subst, ◌∙◌}
use mathlib.Core.List.{List, [], ◌∷◌, ◌++◌}
use mathlib.Core.Logic.{◌↔◌, ◌⊎◌, inl, inr, ⊎_elim}
use native.Mathlib.Nat.{zero-add}
use native.Mathlib.Omega.{arith}
use borrow.Author.Tests.{lt-ltb, le-ltb, le-leb, lt-leb, leb-true, eqb-true, eq-eqb}
use lib.Dec.{leb}
use lib.IntN.{ℤ, pos, negsuc}
use lib.ListN.{length, take, drop, length-append, length-drop, drop_of_length-le}
use lib.Seq.{sets, sets-eq, take_at, take_all, drop_at, length-take-le}
use Rattle.std.proofs.lemmas.Bool.{cases_lt}
use Rattle.std.proofs.lemmas.List.{append-nil}
use Rattle.text.specs.Text.{ascii, digits, digits_within}
use Rattle.records.specs.SettingsRecord.{settings_read, settings_read_number}
use Rattle.records.specs.declared.refusal.RecordRefusal.{RecordRefusal}
use Rattle.records.specs.declared.refusal.RecordRefusal.TheVariants.{RecordWrong, MaxAbove254, MinAboveMax, LightingMin0}
use Rattle.transitions.specs.declared.settings.Settings.{Settings}
use Rattle.level_control.specs.Answer.{Outcome}
use Rattle.level_control.specs.State.{new_state}
use Rattle.level_control.specs.declared.state.LevelControlState.{LevelControlState}
use Rattle.sheet.specs.Laws.{Laws}
use Rattle.sheet.specs.Lines.{record_outcome, records_of, outcomes_of, outcome_line, lines_from, text_of}
use Rattle.sheet.specs.Play.{length_ok, fitted, play_with, play_of, number_of, result, returned, refusal_text, shown, key_of, printed}
use Rattle.sheet.specs.declared.refusal.PlayRefusal.{PlayRefusal}
use Rattle.sheet.specs.declared.refusal.PlayRefusal.TheVariants.{Record as RecordRefused, TextTooLong}
use Rattle.sheet.proofs.SheetLaws.{at_least, at_most, front_set}

twenties : (n : ℕ) → length_ok n ≡ true → n % 20 ≡ 0
unfolding length_ok
twenties n e = eqb-true (n % 20) 0 (rw (le-ltb n 20 (at_least n e), le-ltb 5120 n (at_most n e)) at e)

right : (n : ℕ) → (20 ≤ n) × (n ≤ 5120) × (n % 20 ≡ 0) → length_ok n ≡ true
unfolding length_ok
right n h = rw (le-ltb n 20 h.0, le-ltb 5120 n h.1) (eq-eqb (n % 20) 0 h.2)

-- a call that is refused keeps the output, and every call its length
abbrev Keeps : Result ℕ PlayRefusal × List ℕ → List ℕ → Type 0
Keeps p out = ((why : PlayRefusal) → p.0 ≡ Err why → p.1 ≡ out) × (length p.1 ≡ length out)

abbrev is_text : Result ℕ PlayRefusal → Bool
is_text (Ok n) = true
is_text (Err why) = false

refusal : (why : PlayRefusal) (out : List ℕ) → Keeps (Err why, out) out
refusal why out = (λ w e. refl, refl)

either : (b : Bool) (p q : Result ℕ PlayRefusal × List ℕ) (out : List ℕ) → (b ≡ true → Keeps p out) → Keeps q out → Keeps (cond b p q) out
either true p q out f g = f refl
either false p q out f g = g

fitted_keeps : (text out : List ℕ) → Keeps (fitted text out) out
unfolding fitted
fitted_keeps text out = either (leb (length text) (length out)) _ _ out
    (λ e. (
      λ why t. absurd (false≢true (sym (ap is_text t))),
      length-append text (drop (length text) out) ∙ (rw (length-drop (length text) out) (omega (arith, leb-true (length text) (length out) e))),
    ))
    (refusal _ out)

with_keeps : (r : Result Settings RecordRefusal) (events out : List ℕ) → Keeps (play_with r events out) out
unfolding play_with
with_keeps (Ok settings) events out = fitted_keeps (text_of (new_state settings) events) out
with_keeps (Err why) events out = refusal _ out

keeps : (records out : List ℕ) → Keeps (play_of records out) out
unfolding play_of
keeps records out = either (length_ok (length records)) _ _ out
    (λ e. with_keeps (settings_read (take 20 records)) (drop 20 records) out)
    (refusal _ out)

stands : (records out : List ℕ) (settings : Settings)
    → length_ok (length records) ≡ true → settings_read (take 20 records) ≡ Ok settings
    → length (text_of (new_state settings) (drop 20 records)) ≤ length out
    → let text = text_of (new_state settings) (drop 20 records) in
    returned (play_of records out) ≡ (pos (length text), text ++ drop (length text) out)
unfolding play_of play_with fitted
stands records out settings l r h = rw (l, r, le-leb _ _ h)

short : (records out : List ℕ) (settings : Settings)
    → length_ok (length records) ≡ true → settings_read (take 20 records) ≡ Ok settings
    → length out < length (text_of (new_state settings) (drop 20 records))
    → returned (play_of records out) ≡ (negsuc 15, out)
unfolding play_of play_with fitted
short records out settings l r h = rw (l, r, lt-leb _ _ h)

-- minus n + 1, for a number below 16: a wrong length, or the settings' own number

abbrev is_minus : ℤ → Bool
is_minus (pos n) = false
is_minus (negsuc n) = true

abbrev less_one : ℤ → ℕ
less_one (pos n) = 0
less_one (negsuc n) = n

-- a refusal of the call itself
given : (why : PlayRefusal) (out : List ℕ) (n : ℕ) → 1 ≤ number_of why → (returned (Err why, out) ≡ (negsuc n, out)) ↔ (number_of why ≡ n + 1)
given why out n h = (
  λ e. let same : number_of why - 1 ≡ n = ap (λ (p : ℤ × List ℕ). less_one p.0) e in omega arith,
  λ e. let same : number_of why - 1 ≡ n = omega arith in rw same refl,
)

-- no text, and none that is too long, gives such a number
not_fitted : (text out : List ℕ) (n : ℕ) → n ≤ 3 → (returned (fitted text out) ≡ (negsuc n, out)) ↔ (0 ≡ n + 1)
unfolding fitted
not_fitted text out n h = go (leb (length text) (length out))
  where
    go : (b : Bool) → (returned (cond b (Ok (length text), text ++ drop (length text) out) (Err TextTooLong, out)) ≡ (negsuc n, out)) ↔ (0 ≡ n + 1)
    go true = (λ e. absurd (false≢true (ap (λ (p : ℤ × List ℕ). is_minus p.0) e)), λ e. absurd (omega arith))
    go false = (
      λ e. absurd (let same : 15 ≡ n = ap (λ (p : ℤ × List ℕ). less_one p.0) e in omega arith),
      λ e. absurd (omega arith),
    )

minus_with : (r : Result Settings RecordRefusal) (events out : List ℕ) (n : ℕ) → n ≤ 3
    → (returned (play_with r events out) ≡ (negsuc n, out)) ↔ (settings_read_number r ≡ n + 1)
unfolding play_with
minus_with (Ok settings) events out n h = not_fitted (text_of (new_state settings) events) out n h
minus_with (Err RecordWrong) events out n h = given (RecordRefused RecordWrong) out n (omega arith)
minus_with (Err MaxAbove254) events out n h = given (RecordRefused MaxAbove254) out n (omega arith)
minus_with (Err MinAboveMax) events out n h = given (RecordRefused MinAboveMax) out n (omega arith)
minus_with (Err LightingMin0) events out n h = given (RecordRefused LightingMin0) out n (omega arith)

minus_1 : (records out : List ℕ)
    → (returned (play_of records out) ≡ (negsuc 0, out))
    ↔ ((length_ok (length records) ≡ false) ⊎ (settings_read_number (settings_read (take 20 records)) ≡ 1))
unfolding play_of
minus_1 records out = go (length_ok (length records))
  where
    go : (ok : Bool)
        → (returned (cond ok (play_with (settings_read (take 20 records)) (drop 20 records) out) (Err (RecordRefused RecordWrong), out)) ≡ (negsuc 0, out))
        ↔ ((ok ≡ false) ⊎ (settings_read_number (settings_read (take 20 records)) ≡ 1))
    go true =
        let both = minus_with (settings_read (take 20 records)) (drop 20 records) out 0 (omega arith) in
        (λ e. inr (both.0 e), ⊎_elim (λ f. absurd (false≢true (sym f))) both.1)
    go false = (λ e. inl refl, λ h. refl)

minus_2_3_4 : (records out : List ℕ) (n : ℕ) → 1 ≤ n → n ≤ 3
    → (returned (play_of records out) ≡ (negsuc n, out))
    ↔ ((length_ok (length records) ≡ true) × (settings_read_number (settings_read (take 20 records)) ≡ n + 1))
unfolding play_of
minus_2_3_4 records out n low high = go (length_ok (length records))
  where
    go : (ok : Bool)
        → (returned (cond ok (play_with (settings_read (take 20 records)) (drop 20 records) out) (Err (RecordRefused RecordWrong), out)) ≡ (negsuc n, out))
        ↔ ((ok ≡ true) × (settings_read_number (settings_read (take 20 records)) ≡ n + 1))
    go true =
        let both = minus_with (settings_read (take 20 records)) (drop 20 records) out n high in
        (λ e. (refl, both.0 e), λ h. both.1 h.1)
    go false = (
      λ e. absurd (let same : 0 ≡ n = ap (λ (p : ℤ × List ℕ). less_one p.0) e in omega arith),
      λ h. absurd (false≢true h.0),
    )

-- What keysheet prints

-- a text at the front, cut off where it ends
cut : (text out : List ℕ) → length text ≤ length out → printed (length text, text ++ drop (length text) out) ≡ text
cut text out h =
    let whole : length (text ++ drop (length text) out) ≡ length out = length-append text (drop (length text) out) ∙ rw (length-drop (length text) out) (omega arith) in
    let least : min (length text) (length (text ++ drop (length text) out)) ≡ length text = rw whole (omega arith) in
    ap (λ (k : ℕ). take k (text ++ drop (length text) out)) least ∙ take_at text (drop (length text) out) (length text) refl

prints_text : (records out : List ℕ) (settings : Settings)
    → length_ok (length records) ≡ true → settings_read (take 20 records) ≡ Ok settings
    → length (text_of (new_state settings) (drop 20 records)) ≤ length out
    → let text = text_of (new_state settings) (drop 20 records) in
    (key_of records out ≡ (length text, text ++ drop (length text) out)) × (printed (key_of records out) ≡ text)
unfolding key_of shown play_of play_with fitted
prints_text records out settings l r h = rw (l, r, le-leb _ _ h) (refl, cut (text_of (new_state settings) (drop 20 records)) out h)

abbrev line : ℕ → List ℕ
line n = ascii "0 " ++ digits n ++ ascii "\n"

refusal_lines : (refusal_text (RecordRefused RecordWrong) ≡ 48 ∷ 32 ∷ 49 ∷ 10 ∷ [])
    × (refusal_text (RecordRefused MaxAbove254) ≡ 48 ∷ 32 ∷ 50 ∷ 10 ∷ [])
    × (refusal_text (RecordRefused MinAboveMax) ≡ 48 ∷ 32 ∷ 51 ∷ 10 ∷ [])
    × (refusal_text (RecordRefused LightingMin0) ≡ 48 ∷ 32 ∷ 52 ∷ 10 ∷ [])
    × (refusal_text TextTooLong ≡ 48 ∷ 32 ∷ 49 ∷ 54 ∷ 10 ∷ [])
unfolding refusal_text digits digits_within
refusal_lines = (refl, refl, refl, refl, refl)

short_line : (why : PlayRefusal) → length (refusal_text why) ≤ 5
unfolding refusal_text digits digits_within
short_line (RecordRefused RecordWrong) = omega arith
short_line (RecordRefused MaxAbove254) = omega arith
short_line (RecordRefused MinAboveMax) = omega arith
short_line (RecordRefused LightingMin0) = omega arith
short_line TextTooLong = omega arith

line_is : (why : PlayRefusal) → refusal_text why ≡ line (number_of why)
unfolding refusal_text
line_is why = refl

above_0 : (why : PlayRefusal) → 1 ≤ number_of why
above_0 (RecordRefused RecordWrong) = omega arith
above_0 (RecordRefused MaxAbove254) = omega arith
above_0 (RecordRefused MinAboveMax) = omega arith
above_0 (RecordRefused LightingMin0) = omega arith
above_0 TextTooLong = omega arith

-- a line that fits, put at the front
put_line : (text out : List ℕ) → length text ≤ 5 → length text ≤ length out
    → ◌≡◌ {A = ℕ × List ℕ} (min (length text) 18446744073709551615, sets out 0 text) (length text, text ++ drop (length text) out)
put_line text out s h =
    let least : min (length text) 18446744073709551615 ≡ length text = omega arith in
    let stands : sets out 0 text ≡ text ++ drop (length text) out = sets-eq text out 0 (omega arith) ∙ rw zero-add in
    rw (least, stands) refl

prints : (p : Result ℕ PlayRefusal × List ℕ) (out : List ℕ) (n : ℕ) → Keeps p out → result p.0 ≡ negsuc n → length (line (n + 1)) ≤ length out
    → (shown p ≡ (length (line (n + 1)), line (n + 1) ++ drop (length (line (n + 1))) out)) × (printed (shown p) ≡ line (n + 1))
unfolding shown
prints (Ok m, q) out n k e h = absurd (false≢true (ap is_minus e))
prints (Err why, q) out n k e h =
    let number : number_of why ≡ n + 1 = omega (arith, ap less_one e, above_0 why) in
    let text : refusal_text why ≡ line (n + 1) = line_is why ∙ ap line number in
    let kept : q ≡ out = k.0 why refl in
    let short : length (line (n + 1)) ≤ 5 = subst (λ (t : List ℕ). length t ≤ 5) text (short_line why) in
    let it = put_line (line (n + 1)) out short h in
    rw (kept, text) (it, ap printed it ∙ cut (line (n + 1)) out h)

prints_number : (records out : List ℕ) (n : ℕ) → (returned (play_of records out)).0 ≡ negsuc n
    → length (line (n + 1)) ≤ length out
    → (key_of records out ≡ (length (line (n + 1)), line (n + 1) ++ drop (length (line (n + 1))) out)) × (printed (key_of records out) ≡ line (n + 1))
unfolding key_of
prints_number records out n e h = prints (play_of records out) out n (keeps records out) e h

-- a line that does not fit, as much of it as does
part_line : (text out : List ℕ) → length text ≤ 5 → length out ≤ length text
    → ◌≡◌ {A = ℕ × List ℕ} (min (length text) 18446744073709551615, sets out 0 text) (length text, take (length out) text)
part_line text out s h =
    let least : min (length text) 18446744073709551615 ≡ length text = omega arith in
    let rest : drop (length out) out ≡ [] = drop_of_length-le out {i = length out} (omega arith) in
    let part : sets out 0 text ≡ take (length out) text = front_set text out (length out) (omega arith) ∙ rw (rest, append-nil) refl in
    rw (least, part) refl

prints_short : (p : Result ℕ PlayRefusal × List ℕ) (out : List ℕ) (n : ℕ) → Keeps p out → result p.0 ≡ negsuc n → length out ≤ length (line (n + 1))
    → shown p ≡ (length (line (n + 1)), take (length out) (line (n + 1)))
unfolding shown
prints_short (Ok m, q) out n k e h = absurd (false≢true (ap is_minus e))
prints_short (Err why, q) out n k e h =
    let number : number_of why ≡ n + 1 = omega (arith, ap less_one e, above_0 why) in
    let text : refusal_text why ≡ line (n + 1) = line_is why ∙ ap line number in
    let kept : q ≡ out = k.0 why refl in
    let short : length (line (n + 1)) ≤ 5 = subst (λ (t : List ℕ). length t ≤ 5) text (short_line why) in
    rw (kept, text) (part_line (line (n + 1)) out short h)

prints_part : (records out : List ℕ) (n : ℕ) → (returned (play_of records out)).0 ≡ negsuc n
    → length out ≤ length (line (n + 1)) → key_of records out ≡ (length (line (n + 1)), take (length out) (line (n + 1)))
unfolding key_of
prints_part records out n e h = prints_short (play_of records out) out n (keeps records out) e h

-- the first 20 bytes are the first record
first_line : (start : LevelControlState) (bytes rest : List ℕ) → length bytes ≡ 20
    → text_of start (bytes ++ rest)
    ≡ outcome_line 1 (record_outcome start bytes) ++ lines_from 2 (outcomes_of (record_outcome start bytes).state (records_of (length rest / 20) rest))
unfolding text_of records_of outcomes_of lines_from
first_line start bytes rest h =
    let whole : length (bytes ++ rest) ≡ 20 + length rest = length-append bytes rest ∙ ap (λ (n : ℕ). n + length rest) h in
    let more : length (bytes ++ rest) / 20 ≡ suc (length rest / 20) = omega (arith, whole) in
    ap (λ (n : ℕ). lines_from 1 (outcomes_of start (records_of n (bytes ++ rest)))) more
    ∙ ap (λ (b : List ℕ). outcome_line 1 (record_outcome start b) ++ lines_from 2 (outcomes_of (record_outcome start b).state (records_of (length rest / 20) (drop 20 (bytes ++ rest)))))
    (take_at bytes rest 20 h)
    ∙ ap (λ (b : List ℕ). outcome_line 1 (record_outcome start bytes) ++ lines_from 2 (outcomes_of (record_outcome start bytes).state (records_of (length rest / 20) b)))
    (drop_at bytes rest 20 h)

next_line : (index : ℕ) (o : Outcome) (more : List Outcome) → lines_from index (o ∷ more) ≡ outcome_line index o ++ lines_from (index + 1) more
unfolding lines_from
next_line index o more = refl

line_each : (start : LevelControlState) (k : ℕ) (bytes : List ℕ) → length (outcomes_of start (records_of k bytes)) ≡ k
unfolding outcomes_of records_of
line_each start zero bytes = refl
line_each start (suc k) bytes = ap suc (line_each (record_outcome start (take 20 bytes)).state k (drop 20 bytes))

-- more than a play may have

too_many : (n : ℕ) → 5120 < n → length_ok n ≡ false
unfolding length_ok
too_many n h = rw (le-ltb n 20 (omega arith), lt-ltb 5120 n h) refl

refused_long : (records out : List ℕ) → 5120 < length records → play_of records out ≡ (Err (RecordRefused RecordWrong), out)
unfolding play_of
refused_long records out h = rw (too_many (length records) h) refl

reads_enough : (input out : List ℕ) → play_of (take 5121 input) out ≡ play_of input out
reads_enough input out = ⊎_elim
    (λ h. refused_long (take 5121 input) out (rw (length-take-le 5121 input (omega arith)) (omega arith)) ∙ sym (refused_long input out (omega arith)))
    (λ h. ap (λ (r : List ℕ). play_of r out) (take_all 5121 input h)) (cases_lt 5121 (length input))

pub sheet_laws : Laws
sheet_laws = record {
  length_right = λ n. (λ e. (at_least n e, at_most n e, twenties n e), right n);
  refused_keeps = λ records out why e. (keeps records out).0 why e;
  text_stands = stands;
  too_short = short;
  minus_1 = minus_1;
  minus_2_3_4 = minus_2_3_4;
  prints_text = prints_text;
  prints_number = prints_number;
  prints_part = prints_part;
  refusal_lines = refusal_lines;
  reads_enough = reads_enough;
  same_length = λ records out. (keeps records out).1;
  first_line = first_line;
  next_line = next_line;
  a_line_each = line_each;
}
