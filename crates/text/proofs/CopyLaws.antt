-- Laws of a text that is copied in two blocks, its first bytes and its last. Assumes nothing.
use Prim.Native.Nat.{ℕ, ◌-◌, ◌*◌, ◌≤◌}
use mathlib.Core.Path.{◌≡◌, refl, ◌∙◌}
use mathlib.Core.List.{List, [], ◌++◌, append-nil}
use native.Mathlib.Omega.{arith}
use lib.ListN.{length, take, drop, length-append, length-take, length-drop, take-append-drop}
use lib.Seq.{take-take, take-append-le, take_all}
use borrow.Rule.Slice.PartMut.{put_mid}
use Rattle.std.proofs.lemmas.List.{drop_all}

-- the last n bytes over what has the first n
pub ends_meet : (n : ℕ) (text old front back : List ℕ) → n ≤ length text → length text ≤ 2 * n → length old ≡ length text
    → front ≡ take n text → back ≡ take (length text - (length text - n)) (drop (length text - n) text)
    → put_mid (length text - n) (length old - (length text - n)) (front ++ drop n old) back ≡ text
ends_meet n text old front back least most same f b =
    let at : ℕ = length text - n in
    let size : length (take n text) ≡ n = length-take n text ∙ omega arith in
    let rest : length text - at ≡ n = omega arith in
    let before : take at (take n text ++ drop n old) ≡ take at text = take-append-le at (take n text) (drop n old) (omega (arith, size)) ∙ take-take at n text (omega arith) in
    let last : take n (drop at text) ≡ drop at text = take_all n (drop at text) (omega (arith, length-drop at text)) in
    let none : drop n (drop at (take n text ++ drop n old)) ≡ [] = drop_all n (drop at (take n text ++ drop n old))
    (omega (arith, length-drop at (take n text ++ drop n old), length-append (take n text) (drop n old), length-drop n old, size)) in
    rw (f, b, same, rest, last, before, none, append-nil, take-append-drop) refl
