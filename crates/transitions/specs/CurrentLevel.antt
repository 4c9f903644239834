-- Level reports: the L of `set_level`.
use Rattle.std.specs.Prelude.{Bool, ◌||◌}
use Rattle.units.specs.Units.{micros, at_most, elapsed}
use Rattle.units.specs.declared.Micros.{Micros}
use Rattle.transitions.specs.Types.{is_missing}
use Rattle.transitions.specs.Types.{Level}

-- the least gap between two reports: 1,000,000 µs
abbrev pub second : Micros
second = micros 1000000

-- due if the gap or more has passed since the last-report time, or at an end, or where the old level or the new one is missing
unfoldable pub current_level_due : Micros → Micros → Micros → Bool → Level → Level → Bool
current_level_due gap last now end old new = at_most gap (elapsed last now) || end || is_missing old || is_missing new
