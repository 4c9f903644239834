-- The path between two levels, one step at a time, and that a fade's counter takes these steps. Assumes nothing.
use Prim.Native.Nat.{ℕ, zero, suc, ◌+◌, ◌-◌, ◌≤◌, ◌<◌}
use mathlib.Core.Bool.{Bool, true, false, cond}
use mathlib.Core.Path.{◌≡◌, refl, ap}
use mathlib.Core.List.{[], ◌∷◌}
use native.Mathlib.Omega.{arith}
use native.Mathlib.Nat.{le_of_lt}
use borrow.Author.Tests.{ltb-true, ltb-false, le-ltb}
use lib.Dec.{ltb}
use lib.ListN.{length}
use Rattle.units.specs.declared.Tenths.{Tenths}
use Rattle.transitions.specs.Fade.{next_level}
use Rattle.transitions.proofs.RuleLaws.{moves_up, moves_down}
use Rattle.level_control.specs.Path.{above, below, path}
use Rattle.level_control.specs.Starts.{distance}

pub path_up : (c t : ℕ) → c ≤ t → path c t ≡ above c (t - c)
unfolding path
path_up c t h = go (ltb c t) refl
  where
    go : (b : Bool) → ltb c t ≡ b → cond b (above c (t - c)) (below c (c - t)) ≡ above c (t - c)
    go true e = refl
    go false e =
        let le : t ≤ c = ltb-false c t e in
        let x : c - t ≡ 0 = omega arith in
        let y : t - c ≡ 0 = omega arith in
        rw (x, y) refl

pub path_down : (c t : ℕ) → t ≤ c → path c t ≡ below c (c - t)
unfolding path
path_down c t h = simp (le-ltb c t h)

step_up : (c t : ℕ) (T : Tenths) → 1 ≤ T.0 → c < t → path c t ≡ next_level c t T ∷ path (next_level c t T) t
step_up c t T pos h =
    let d : t - c ≡ suc (t - (c + 1)) = omega arith in
    let g : c + 1 ≤ t = omega arith in
    rw (moves_up c t T pos h, path_up c t (le_of_lt h), path_up (c + 1) t g, d) refl

step_down : (c t : ℕ) (T : Tenths) → 1 ≤ T.0 → t < c → path c t ≡ next_level c t T ∷ path (next_level c t T) t
step_down c t T pos h =
    let d : c - t ≡ suc (c - 1 - t) = omega arith in
    let g : t ≤ c - 1 = omega arith in
    rw (moves_down c t T pos h, path_down c t (le_of_lt h), path_down (c - 1) t g, d) refl

-- the path goes on with the level that the counter moves to
pub path_step : (c t : ℕ) (T : Tenths) → 1 ≤ T.0 → (c ≡ t → ⊥) → path c t ≡ next_level c t T ∷ path (next_level c t T) t
path_step c t T pos ne = go (ltb c t) refl
  where
    go : (b : Bool) → ltb c t ≡ b → path c t ≡ next_level c t T ∷ path (next_level c t T) t
    go true e = step_up c t T pos (ltb-true c t e)
    go false e =
        let le : t ≤ c = ltb-false c t e in
        let lt : t < c = omega arith in
        step_down c t T pos lt

-- at the target nothing is left
pub path_end : (t : ℕ) → path t t ≡ []
path_end t =
    let d : t - t ≡ 0 = omega arith in
    rw (path_up t t (omega arith), d) refl

length_above : (k c : ℕ) → length (above c k) ≡ k
length_above zero c = refl
length_above (suc k) c = ap suc (length_above k (c + 1))

length_below : (k c : ℕ) → length (below c k) ≡ k
length_below zero c = refl
length_below (suc k) c = ap suc (length_below k (c - 1))

pub length_path : (c t : ℕ) → length (path c t) ≡ distance t c
length_path c t = go (ltb c t) refl
  where
    go : (b : Bool) → ltb c t ≡ b → length (path c t) ≡ distance t c
    go true e =
        let h : c < t = ltb-true c t e in
        rw (path_up c t (le_of_lt h), length_above (t - c) c) (omega arith)
    go false e =
        let h : t ≤ c = ltb-false c t e in
        rw (path_down c t h, length_below (c - t) c) (omega arith)
