-- Moves: the period of `move_transition`.
use Rattle.std.specs.Prelude.{ℕ, ◌+◌, ◌/◌}
use Rattle.units.specs.Units.{micros}
use Rattle.units.specs.declared.Micros.{Micros}

-- (1,000,000 + rate ÷ 2) ÷ rate µs, both divisions rounded down: of all periods the product with the rate is nearest to 1,000,000
unfoldable pub move_period : ℕ → Micros
move_period rate = micros ((1000000 + rate / 2) / rate)
