-- Laws of the sheet: one event more, a part of the output that was lent, and a text that fits. Assumes nothing.
use Rattle.std.specs.Prelude.{Ok, Err}
use Prim.Native.Nat.{ℕ, suc, ◌+◌, ◌/◌, ◌<◌, ◌≤◌, min}
use mathlib.Core.Path.{◌≡◌, sym, ap, ◌∙◌}
use mathlib.Core.List.{List, [], ◌++◌}
use mathlib.Core.Logic.{⊎_elim}
use mathlib.Core.Bool.{Bool, true, false≢true}
use native.Mathlib.Omega.{arith}
use native.Mathlib.Nat.{zero-add}
use borrow.Author.Tests.{leb-true, lt-ltb, le-ltb, le-leb, lt-leb}
use lib.Dec.{leb}
use lib.ListN.{length, take, drop, length-append, length-drop, take-append-drop}
use lib.Seq.{length-take-le, take_at, drop_at, length-sets, sets, sets-eq}
use Rattle.std.proofs.lemmas.Bool.{cases_lt}
use Rattle.std.proofs.lemmas.List.{nil_from_length}
use Rattle.text.specs.Text.{Room, Wrote, most, put_whole}
use Rattle.text.proofs.WriteLaws.{sets_append, sets_out, then, first_room, whole_next, whole_wrote}
use Rattle.level_control.specs.declared.state.LevelControlState.{LevelControlState}
use Rattle.sheet.specs.Lines.{record_outcome, records_of, outcomes_of, outcome_line, lines_from}
use Rattle.sheet.specs.Play.{fitted, length_ok}
use Rattle.sheet.specs.declared.refusal.PlayRefusal.TheVariants.{TextTooLong}

-- the lines that are left: those of the whole records of some bytes
abbrev pub rest : ℕ → LevelControlState → List ℕ → List ℕ
rest index state bytes = lines_from index (outcomes_of state (records_of (length bytes / 20) bytes))

-- one record fewer
pub counted : (bytes first more : List ℕ) → bytes ≡ first ++ more → length first ≡ 20 → length bytes / 20 ≡ suc (length more / 20)
counted bytes first more whole h =
    let sum : length bytes ≡ 20 + length more = ap (λ (l : List ℕ). length l) whole ∙ length-append first more ∙ ap (λ (n : ℕ). n + length more) h in
    omega (arith, sum)

-- the first of them, and then the others
pub turn_lines : (index : ℕ) (s : LevelControlState) (bytes first more : List ℕ) → bytes ≡ first ++ more → length first ≡ 20
    → rest index s bytes ≡ outcome_line index (record_outcome s first) ++ rest (index + 1) (record_outcome s first).state more
unfolding lines_from outcomes_of records_of
turn_lines index s bytes first more whole h =
    let one = counted bytes first more whole h in
    ap (λ (k : ℕ). lines_from index (outcomes_of s (records_of k bytes))) one
    ∙ rw (whole, take_at first more 20 h, drop_at first more 20 h)

-- A line that was put, and the others after it.
module _ (line rest out : List ℕ) (at : ℕ) {mid : List ℕ} {q : ℕ} (put : (q, mid) ≡ put_whole out at line) where
  -- the position past both is the same
  pub turn_next : min (q + length rest) most ≡ min (at + length (line ++ rest)) most
  turn_next = rw (length-append line rest) (omega (arith, whole_next out at line put))

  -- where both have room, the line was written
  pub turn_wrote : {new : List ℕ} {r : ℕ} → length out ≤ most → Room out at (line ++ rest) → Wrote mid q rest new r → Wrote out at (line ++ rest) new r
  turn_wrote o room w = then o (whole_wrote out at line (first_room rest room) put) w

-- no line is left
pub none_left : (index : ℕ) (s : LevelControlState) (bytes : List ℕ) → length bytes < 20 → rest index s bytes ≡ []
unfolding lines_from outcomes_of records_of
none_left index s bytes h =
    let e : length bytes / 20 ≡ 0 = omega arith in
    rw e

pub at_least : (n : ℕ) → length_ok n ≡ true → 20 ≤ n
unfolding length_ok
at_least n e = ⊎_elim (λ h. absurd (false≢true (rw (lt-ltb n 20 h) at e))) (λ h. h) (cases_lt n 20)

pub at_most : (n : ℕ) → length_ok n ≡ true → n ≤ 5120
unfolding length_ok
at_most n e = ⊎_elim (λ h. absurd (false≢true (rw (le-ltb n 20 (omega arith), lt-ltb 5120 n h) at e))) (λ h. h) (cases_lt 5120 n)

-- lines that are said to fit surely
pub sure : (bytes room : ℕ) {test : Bool} → test ≡ leb bytes room → test ≡ true → bytes ≤ room
sure bytes room e h = leb-true bytes room (sym e ∙ h)

-- a text at the front of out, as far as out reaches
pub front_set : (text out : List ℕ) (k : ℕ) → k ≡ min (length text) (length out) → sets out 0 text ≡ take k text ++ drop k out
front_set text out k e =
    let front = take k text in
    let long : length front ≡ k = length-take-le k text (omega arith) in
    let whole : sets out 0 text ≡ sets (sets out 0 front) k (drop k text) =
    ap (λ (t : List ℕ). sets out 0 t) (sym (take-append-drop k text)) ∙ sym (sets_append out 0 front (drop k text)) ∙ rw (long, zero-add) in
    let none : sets (sets out 0 front) k (drop k text) ≡ sets out 0 front = ⊎_elim
    (λ less. rw (nil_from_length (drop k text) (omega (arith, length-drop k text))))
    (λ all. sets_out (sets out 0 front) k (drop k text) (omega (arith, length-sets out 0 front))) (cases_lt k (length out)) in
    whole ∙ none ∙ sets-eq front out 0 (omega arith) ∙ rw (long, zero-add)

-- a text that out cannot hold, and one that was written in it

pub fit_no : (text out : List ℕ) {need : ℕ} → need ≡ min (length text) most → length out < need → (Err TextTooLong, out) ≡ fitted text out
unfolding fitted
fit_no text out measured h = rw (lt-leb (length text) (length out) (omega arith))

pub fit_yes : (text out new : List ℕ) {need : ℕ} → length out < most → need ≡ min (length text) most → need ≤ length out
    → (Room out 0 text → Wrote out 0 text new need) → (Ok need, new) ≡ fitted text out
unfolding fitted
fit_yes text out new {need} o measured h wrote =
    let e : need ≡ length text = omega arith in
    let w = wrote (record { fits = omega arith }) in
    let stands : new ≡ text ++ drop (length text) out = w.bytes ∙ sets-eq text out 0 (omega arith) ∙ rw zero-add in
    rw (le-leb (length text) (length out) (omega arith), stands, e)
