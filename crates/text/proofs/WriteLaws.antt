-- Laws of `Wrote`, `Room` and `put_whole`: one text after another, and a text that is written whole or not at all. Assumes nothing.
use Prim.Native.Nat.{ℕ, suc, ◌+◌, ◌-◌, ◌≤◌, ◌<◌, min}
use mathlib.Core.Path.{◌≡◌, refl, sym, ap, ◌∙◌}
use mathlib.Core.List.{List, [], ◌∷◌, ◌++◌, append_assoc}
use native.Mathlib.Nat.{add-zero, add-suc, suc-add}
use native.Mathlib.Omega.{arith, min_cases}
use borrow.Author.Tests.{le-leb, lt-leb}
use lib.ListN.{length, set, take, drop, length-append, length-take, take-append-drop}
use lib.Seq.{sets, sets-eq, length-sets, set_out, drop-drop}
use borrow.Rule.Slice.PartMut.{put_mid}
use Rattle.std.proofs.lemmas.Grind.{common_steps}
use Rattle.std.proofs.lemmas.List.{drop_all}
use Rattle.text.specs.Text.{Room, Wrote, most, put_whole}

-- past the end nothing is written
pub sets_out : (l : List ℕ) (i : ℕ) (vs : List ℕ) → length l ≤ i → sets l i vs ≡ l
sets_out l i [] h = refl
sets_out l i (v ∷ vs) h = rw (set_out l i v h) (sets_out l (suc i) vs (omega arith))

pub sets_append : (l : List ℕ) (i : ℕ) (a b : List ℕ) → sets (sets l i a) (i + length a) b ≡ sets l i (a ++ b)
sets_append l i [] b = rw add-zero
sets_append l i (v ∷ a) b = rw (add-suc, ← suc-add) (sets_append (set l i v) (suc i) a b)

-- one text after another is their concatenation
pub then : {old : List ℕ} {at : ℕ} {a mid : List ℕ} {p : ℕ} {b new : List ℕ} {r : ℕ}
    → length old ≤ most → Wrote old at a mid p → Wrote mid p b new r → Wrote old at (a ++ b) new r
then {old} {at} {a} {mid} {p} {b} {new} {r} h w v = record {
  bytes = both;
  next = simp length-append (omega (arith, w.next, v.next));
}
  where
    both : new ≡ sets old at (a ++ b)
    both = min_cases (at + length a) most (new ≡ sets old at (a ++ b))
        (λ g e. v.bytes ∙ rw (w.bytes, w.next, e) (sets_append old at a b))
        (λ g e. v.bytes ∙ rw (w.bytes, w.next, e) (sets_out (sets old at a) most b (simp length-sets h)
        ∙ sym (sets_out (sets old at a) (at + length a) b (simp length-sets (omega arith)))
        ∙ sets_append old at a b))

-- nothing written
pub none_wrote : {old : List ℕ} {at : ℕ} → at ≤ most → Wrote old at [] old at
none_wrote h = record { bytes = refl; next = omega arith }

-- as much of a text as the slice reaches, copied into its part
pub part_put : (old text new : List ℕ) (at k : ℕ) → at < length old → k ≡ min (length text) (length old - at) → new ≡ take k text
    → put_mid at (at + k - at) old new ≡ sets old at text
part_put old text new at k h e n =
    let size : length (take k text) ≡ k = length-take k text ∙ omega (arith, e) in
    let taken : at + k - at ≡ k = omega arith in
    let within : at + length (take k text) ≤ length old = omega (arith, e, size) in
    let more : sets (sets old at (take k text)) (at + length (take k text)) (drop k text) ≡ sets old at (take k text) =
    min_cases (length text) (length old - at) (sets (sets old at (take k text)) (at + length (take k text)) (drop k text) ≡ sets old at (take k text))
    (λ g m. rw (drop_all k text (omega (arith, e, m))) refl)
    (λ g m. sets_out (sets old at (take k text)) (at + length (take k text)) (drop k text) (simp length-sets (omega (arith, e, m, size)))) in
    let whole : sets old at text ≡ sets old at (take k text) =
    ap (sets old at) (sym (take-append-drop k text)) ∙ sym (sets_append old at (take k text) (drop k text)) ∙ more in
    rw (n, taken, whole, sets-eq (take k text) old at within, size, drop-drop k at old)
    (sym (append_assoc (take at old) (take k text) (drop (at + k) old)))

pub ruleset parts = (part_put, sets_out, common_steps)

-- Texts where they have room.

-- the first of two has it where both have
pub first_room : {old : List ℕ} {at : ℕ} {a : List ℕ} (b : List ℕ) → Room old at (a ++ b) → Room old at a
first_room {a = a} b room = record { fits = omega (arith, rw (length-append a b) at room.fits) }

-- A text that is written whole or not at all.
module _ (old : List ℕ) (at : ℕ) (text : List ℕ) where
  -- copied into the part of the slice that it has
  pub copied : (end : ℕ) → end ≡ at + length text → end ≤ length old → length old ≤ most → (end, put_mid at (end - at) old text) ≡ put_whole old at text
  unfolding put_whole
  copied end e fits o =
      let taken : end - at ≡ length text = omega arith in
      let first : at + length text ≡ min (at + length text) most = omega arith in
      let within : at + length text ≤ length old = omega arith in
      let same : put_mid at (length text) old text ≡ sets old at text = rw (drop-drop (length text) at old) (sym (sets-eq text old at within ∙ append_assoc (take at old) text (drop (at + length text) old))) in
      rw (taken, e, le-leb (at + length text) (length old) within, same, ← first)

  pub not_put : {r : ℕ} → length old < at + length text → r ≡ min (at + length text) most → (r, old) ≡ put_whole old at text
  unfolding put_whole
  not_put full e = rw (lt-leb (at + length text) (length old) full, e)

  -- for callers: the position counts on
  pub whole_next : {new : List ℕ} {r : ℕ} → (r, new) ≡ put_whole old at text → r ≡ min (at + length text) most
  unfolding put_whole
  whole_next e = ap (λ (p : ℕ × List ℕ). p.0) e

  -- for callers: where it has room, it was written
  pub whole_wrote : {new : List ℕ} {r : ℕ} → Room old at text → (r, new) ≡ put_whole old at text → Wrote old at text new r
  unfolding put_whole
  whole_wrote {new} {r} room e =
      let put : ℕ × List ℕ = (min (at + length text) most, sets old at text) in
      let there : (r, new) ≡ put = e ∙ rw (le-leb (at + length text) (length old) room.fits) in
      record { bytes = ap (λ (p : ℕ × List ℕ). p.1) there; next = whole_next e }

pub ruleset wholes = (copied, not_put, common_steps)
