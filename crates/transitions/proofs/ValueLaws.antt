-- Levels, rates and targets in the words of docs/RULES.md: proofs for specs/Laws.antt. Assumes nothing.
use Rattle.std.specs.Prelude.{Some, None}
use Prim.Native.Nat.{ℕ, ◌+◌, ◌≤◌, ◌<◌}
use mathlib.Core.Bool.{true, ◌&&◌, false≢true}
use mathlib.Core.Path.{◌≡◌, refl, sym, ap}
use mathlib.Core.Logic.{◌↔◌, ◌⊎◌, inl, inr, ⊎_elim}
use native.Mathlib.Omega.{arith}
use borrow.Author.Tests.{lt-ltb, ltb-true, eqb-true, eq-eqb, leb-true, le-leb}
use lib.Dec.{ltb, leb}
use Rattle.std.proofs.lemmas.Bool.{and_from, and_parts, or_cases, or_left, or_right}
use Rattle.std.proofs.lemmas.Option.{none-some, same_Some}
use Rattle.transitions.specs.Types.{same_level, is_within, is_outside, is_zero_rate}
use Rattle.transitions.specs.Commands.{step_level}
use Rattle.transitions.specs.Types.{Level}
use Rattle.transitions.specs.declared.types.LevelRange.{LevelRange}
use Rattle.transitions.specs.declared.types.Mode.TheVariants.{Up, Down}
use Rattle.transitions.specs.Types.{Rate}

pub same_level_means : (a b : Level) → (same_level a b ≡ true) ↔ (a ≡ b)
unfolding same_level
same_level_means (Some a) (Some b) = (λ e. ap Some (eqb-true a b e), λ h. eq-eqb a b (same_Some a b h))
same_level_means (Some a) None = (λ e. absurd (false≢true e), λ h. absurd (none-some a (sym h)))
same_level_means None (Some b) = (λ e. absurd (false≢true e), λ h. absurd (none-some b h))
same_level_means None None = (λ e. refl, λ h. refl)

pub within : (range : LevelRange) (level : ℕ) → (is_within range level ≡ true) ↔ ((range.min ≤ level) × (level ≤ range.max))
within range level = (
  (λ e. let two = and_parts (leb range.min level) (leb level range.max) e in (leb-true range.min level two.0, leb-true level range.max two.1)),
  (λ h. and_from (leb range.min level) (leb level range.max) (le-leb range.min level h.0) (le-leb level range.max h.1)),
)

pub outside : (level : Level) (lo hi : ℕ) → (is_outside level lo hi ≡ true) ↔ ((c : ℕ) × (level ≡ Some c) × ((c < lo) ⊎ (hi < c)))
outside (Some c) lo hi = (
  λ e. (c, refl, ⊎_elim (λ f. inl (ltb-true c lo f)) (λ f. inr (ltb-true hi c f)) (or_cases (ltb c lo) (ltb hi c) e)),
  λ h.
      let same : c ≡ h.0 = same_Some c h.0 h.1 in
      ⊎_elim
      (λ g. or_left (ltb c lo) (ltb hi c) (lt-ltb c lo (omega (arith, same))))
      (λ g. or_right (ltb c lo) (ltb hi c) (lt-ltb hi c (omega (arith, same))))
      h.2,
)
outside None lo hi = (λ e. absurd (false≢true e), λ h. absurd (none-some h.0 h.1))

pub rate_0 : (r : Rate) → (is_zero_rate r ≡ true) ↔ (r ≡ Some 0)
rate_0 (Some r) = (λ e. ap Some (eqb-true r 0 e), λ h. eq-eqb r 0 cc)
rate_0 None = (λ e. absurd (false≢true e), λ h. absurd (let z : ◌≡◌ {A = ℕ} 0 1 = cc in omega arith))

-- Steps

pub step_up : (level size lo hi : ℕ) → hi ≤ 255
    → (level + size ≤ hi → step_level Up level size lo hi ≡ level + size) × (hi ≤ level + size → step_level Up level size lo hi ≡ hi)
unfolding step_level
step_up level size lo hi h = (λ g. omega arith, λ g. omega arith)

pub step_down : (level size lo hi : ℕ)
    → (lo + size ≤ level → step_level Down level size lo hi + size ≡ level) × (level ≤ lo + size → step_level Down level size lo hi ≡ lo)
unfolding step_level
step_down level size lo hi = (λ g. omega arith, λ g. omega arith)
