-- The remaining time of a fade lies near its exact value. `omega` multiplies out; the facts that are multiplied are handed to it. Assumes nothing.
use Prim.Native.Nat.{ℕ, ◌+◌, ◌-◌, ◌*◌, ◌/◌, ◌≤◌}
use mathlib.Core.Path.{◌≡◌, ap}
use native.Mathlib.Omega.{arith}
use native.Mathlib.Nat.{div-mul-le_self, lt-div-mul-add, mul-le-mul_left, mul-le-mul_right}
use Rattle.units.specs.Units.{millis, tenths_up}

-- the tenths shown of some milliseconds, where 16 bits hold them
abbrev pub shown_of : ℕ → ℕ
shown_of left = (tenths_up (millis left)).0

module _ (T n k left : ℕ) (small : T ≤ 65535) (whole : left + k * (T * 100 / n) ≡ T * 100) where
  -- k periods gone of 100·T milliseconds: what is left, in tenths, is not too little
  pub low : 1 ≤ n → 100 * T * n ≤ 100 * n * shown_of left + 100 * T * k
  low pos =
      let fits : left ≤ 6553500 = omega arith in
      let up : left ≤ 100 * shown_of left = omega arith in
      omega (arith, ap (λ (x : ℕ). x * n) whole, mul-le-mul_left k (div-mul-le_self (T * 100) n), mul-le-mul_left n up)

  -- nor too much
  pub high : 1 ≤ n → 100 * n * shown_of left + 100 * T * k + k ≤ 100 * T * n + k * n + 99 * n
  high pos =
      let fits : left ≤ 6553500 = omega arith in
      let down : 100 * shown_of left ≤ left + 99 = omega arith in
      omega (arith, ap (λ (x : ℕ). x * n) whole, mul-le-mul_left k (lt-div-mul-add {a = T * 100} pos), mul-le-mul_left n down)

  -- as long as levels are left, so is a whole period, and it goes
  pub falls : k + 1 ≤ n → left - T * 100 / n + (k + 1) * (T * 100 / n) ≡ T * 100
  falls more = omega (arith, mul-le-mul_right (T * 100 / n) more, div-mul-le_self (T * 100) n)

-- at the end nothing is left, which is neither too little nor too much
pub low_end : (T n : ℕ) → 100 * T * n ≤ 100 * n * 0 + 100 * T * n
low_end T n = omega arith

pub high_end : (T n : ℕ) → 100 * n * 0 + 100 * T * n + n ≤ 100 * T * n + n * n + 99 * n
high_end T n = omega arith
