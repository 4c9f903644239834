-- Units: helpers on plain numbers. The library's `-` on ℕ stops at 0, and its `/ 0` is 0.
use Rattle.std.specs.Prelude.{ℕ, ◌+◌, ◌-◌, ◌/◌, min, max}

-- |a − b|
abbrev pub apart : ℕ → ℕ → ℕ
apart a b = (a - b) + (b - a)

-- the sum, held to 8 bits
abbrev pub sum_to255 : ℕ → ℕ → ℕ
sum_to255 a b = min 255 (a + b)

-- a ÷ b rounded up
abbrev pub div_ceil : ℕ → ℕ → ℕ
div_ceil a b = (a + (b - 1)) / b

-- x held to lo..hi
abbrev pub held_to : ℕ → ℕ → ℕ → ℕ
held_to lo hi x = min hi (max lo x)
