-- The path from one level to another: its length, its entries, its end. Assumes nothing.
use Prim.Native.Nat.{ℕ, zero, suc, ◌+◌, ◌-◌, ◌≤◌, ◌<◌}
use mathlib.Core.Bool.{Bool, true, false}
use mathlib.Core.Path.{◌≡◌, refl, ◌∙◌}
use native.Mathlib.Omega.{arith}
use native.Mathlib.Nat.{le_of_lt}
use borrow.Author.Tests.{ltb-true, ltb-false}
use lib.Dec.{ltb}
use lib.ListN.{get_or}
use Rattle.level_control.specs.Path.{above, below, path}
use Rattle.level_control.specs.Starts.{distance}
use Rattle.level_theorems.specs.FadeTheorems.{PathIs}
use Rattle.level_control.proofs.PathLaws.{path_up, path_down, length_path}

above_at : (k c i : ℕ) → i < k → get_or (above c k) i 0 ≡ c + (i + 1)
above_at zero c i h = absurd (omega arith)
above_at (suc k) c zero h = omega arith
above_at (suc k) c (suc i) h = above_at k (c + 1) i (omega arith) ∙ omega arith

below_at : (k c i : ℕ) → i < k → get_or (below c k) i 0 ≡ c - (i + 1)
below_at zero c i h = absurd (omega arith)
below_at (suc k) c zero h = omega arith
below_at (suc k) c (suc i) h = below_at k (c - 1) i (omega arith) ∙ omega arith

module _ (c t : ℕ) where
  goes_up : (i : ℕ) → c < t → i < distance t c → get_or (path c t) i 0 ≡ c + (i + 1)
  goes_up i h less = rw (path_up c t (le_of_lt h)) (above_at (t - c) c i (omega arith))

  goes_down : (i : ℕ) → t < c → i < distance t c → get_or (path c t) i 0 ≡ c - (i + 1)
  goes_down i h less = rw (path_down c t (le_of_lt h)) (below_at (c - t) c i (omega arith))

  ends_at : (c ≡ t → ⊥) → get_or (path c t) (distance t c - 1) 0 ≡ t
  ends_at ne = go (ltb c t) refl
    where
      go : (b : Bool) → ltb c t ≡ b → get_or (path c t) (distance t c - 1) 0 ≡ t
      go true e = let h : c < t = ltb-true c t e in goes_up (distance t c - 1) h (omega arith) ∙ omega arith
      go false e =
          let le : t ≤ c = ltb-false c t e in
          let h : t < c = omega arith in
          goes_down (distance t c - 1) h (omega arith) ∙ omega arith

pub path_is : PathIs
path_is c t = record { entries = length_path c t; up = goes_up c t; down = goes_down c t; last = ends_at c t }
