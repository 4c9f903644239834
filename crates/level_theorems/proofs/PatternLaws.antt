-- Lists of actions and the patterns that they leave entries out of. Assumes nothing.
use Rattle.std.specs.Prelude.{Option, Some, None, Bool}
use Prim.Native.Nat.{ℕ, suc, ◌≤◌}
use mathlib.Core.Bool.{Bool, true, false, cond, ◌&&◌}
use mathlib.Core.Path.{◌≡◌, refl, ap}
use mathlib.Core.List.{List, [], ◌∷◌, ◌++◌}
use native.Mathlib.Omega.{arith}
use borrow.Author.Tests.{leb-true}
use lib.Dec.{leb}
use lib.ListN.{length}
use Rattle.std.proofs.lemmas.Bool.{and_parts}
use Rattle.transitions.specs.Actions.{act, act_if, act_coupled}
use Rattle.transitions.specs.declared.actions.Action.{Action}
use Rattle.transitions.specs.declared.actions.ActionKind.{ActionKind}
use Rattle.transitions.specs.declared.actions.ActionKind.TheVariants.{C}
use Rattle.level_theorems.specs.Orders.{kinds_of, LeavesOut, end, takes, leaves, OneOf, this, later}

-- actions whose kinds a pattern leads to
pub record Fits (pattern : List ActionKind) (l : List Action) : Type 0 where
  pub kinds : LeavesOut pattern (kinds_of l)

-- all of a pattern may be left out
pub none : (pattern : List ActionKind) → LeavesOut pattern []
none [] = end
none (k ∷ pattern) = leaves (none pattern)

kinds_append : (l r : List Action) → kinds_of (l ++ r) ≡ kinds_of l ++ kinds_of r
kinds_append [] r = refl
kinds_append (a ∷ l) r = ap (λ (x : List ActionKind). a.kind ∷ x) (kinds_append l r)

leaves_append : {p k : List ActionKind} (q m : List ActionKind) → LeavesOut p k → LeavesOut q m → LeavesOut (p ++ q) (k ++ m)
leaves_append q m end h = h
leaves_append q m (takes g) h = takes (leaves_append q m g h)
leaves_append q m (leaves g) h = leaves (leaves_append q m g h)

pub both : {p q : List ActionKind} (l r : List Action) → Fits p l → Fits q r → Fits (p ++ q) (l ++ r)
both {p} {q} l r g h = record { kinds = rw kinds_append (leaves_append q (kinds_of r) g.kinds h.kinds) }

pub one : (k : ActionKind) (v : ℕ) → Fits (k ∷ []) (act k v)
one k v = record { kinds = takes end }

pub one_if : (test : Bool) (k : ActionKind) → Fits (k ∷ []) (act_if test k)
one_if true k = one k 0
one_if false k = record { kinds = leaves end }

pub one_coupled : (c : Option Bool) → Fits (C ∷ []) (act_coupled c)
one_coupled (Some wanted) = one C (cond wanted 1 0)
one_coupled None = record { kinds = leaves end }

-- nothing that is left out makes a list longer

not_longer : {p k : List ActionKind} → LeavesOut p k → length k ≤ length p
not_longer end = omega arith
not_longer (takes h) = let g = not_longer h in omega arith
not_longer (leaves h) = let g = not_longer h in omega arith

kinds_length : (l : List Action) → length (kinds_of l) ≡ length l
kinds_length [] = refl
kinds_length (a ∷ l) = ap suc (kinds_length l)

-- patterns of at most seven entries
abbrev pub short : List (List ActionKind) → Bool
short [] = true
short (p ∷ ps) = leb (length p) 7 && short ps

kinds_at_most_seven : (ps : List (List ActionKind)) (k : List ActionKind) → OneOf ps k → short ps ≡ true → length k ≤ 7
kinds_at_most_seven [] k h e = elim h [ ]
kinds_at_most_seven (p ∷ ps) k (this h) e =
    let few = leb-true (length p) 7 (and_parts (leb (length p) 7) (short ps) e).0 in
    let g = not_longer h in
    omega arith
kinds_at_most_seven (p ∷ ps) k (later h) e = kinds_at_most_seven ps k h (and_parts (leb (length p) 7) (short ps) e).1

pub at_most_seven_of : (ps : List (List ActionKind)) (l : List Action) → OneOf ps (kinds_of l) → short ps ≡ true → length l ≤ 7
at_most_seven_of ps l h e = let g = kinds_at_most_seven ps (kinds_of l) h e in let m = kinds_length l in omega arith
