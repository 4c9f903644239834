-- Proofs of specs/Laws.antt. Assumes nothing.
use Prim.Native.Nat.{ℕ, ◌+◌, ◌≤◌, ◌<◌, min}
use mathlib.Core.Path.{◌≡◌, refl, ◌∙◌}
use mathlib.Core.Logic.{◌↔◌}
use mathlib.Core.List.{List, ◌++◌}
use native.Mathlib.Omega.{arith}
use borrow.Author.Tests.{le-leb, lt-leb}
use lib.ListN.{length, take, drop}
use lib.Seq.{sets-eq}
use Rattle.text.specs.Text.{most, Wrote, digits, digits_within, put_whole}
use Rattle.text.specs.Line.{level_text, action_text, actions_text, line_of}
use Rattle.text.specs.Laws.{Laws}
use Rattle.text.proofs.DigitLaws.{digits_decimal, digits_read, digits_only, first_digit, digits_below}
use Rattle.text.proofs.LineLaws.{line_length}
use Rattle.text.proofs.ShowLaws.{line_shows, refusal_shows}

stands : (old : List ℕ) (at : ℕ) (text new : List ℕ) (r : ℕ) → length old ≤ most → Wrote old at text new r → at + length text ≤ length old
    → (new ≡ take at old ++ text ++ drop (at + length text) old) × (r ≡ at + length text)
stands old at text new r h w f = (w.bytes ∙ sets-eq text old at f, omega (arith, w.next))

too_long : (old : List ℕ) (at : ℕ) (text new : List ℕ) (r : ℕ) → length old < most → Wrote old at text new r
    → (length old < r) ↔ (length old < at + length text)
too_long old at text new r h w = (λ l. omega (arith, w.next), λ l. omega (arith, w.next))

whole_stands : (old : List ℕ) (at : ℕ) (text : List ℕ) → length old ≤ most → at + length text ≤ length old
    → ((put_whole old at text).0 ≡ at + length text) × ((put_whole old at text).1 ≡ take at old ++ text ++ drop (at + length text) old)
unfolding put_whole
whole_stands old at text h f = (omega arith, rw (le-leb (at + length text) (length old) f) (sets-eq text old at f))

whole_keeps : (old : List ℕ) (at : ℕ) (text : List ℕ) → length old < at + length text
    → ((put_whole old at text).0 ≡ min (at + length text) most) × ((put_whole old at text).1 ≡ old)
unfolding put_whole
whole_keeps old at text f = (refl, rw (lt-leb (at + length text) (length old) f))

pub text_laws : Laws
unfolding line_of level_text action_text actions_text digits digits_within
text_laws = record {
  digits_decimal = digits_decimal;
  digits_read = digits_read;
  digits_only = digits_only;
  no_leading_zero = first_digit;
  digits_length = digits_below;
  line_shows = line_shows;
  line_length = line_length;
  sheet = refl;
  other_letters = refl;
  refusal_shows = refusal_shows;
  refusals = (refl, refl, refl, refl, refl);
  stands = stands;
  too_long = too_long;
  whole_stands = whole_stands;
  whole_keeps = whole_keeps;
}
