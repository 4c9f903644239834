-- Remaining time: the R of `write_remaining_time_quietly`.
use Rattle.std.specs.Prelude.{Bool, ◌&&◌, ◌||◌, not}
use Rattle.units.specs.Units.{tenths, is_zero, exceeds, tenths_apart}
use Rattle.units.specs.declared.Tenths.{Tenths}

-- due if a non-zero time becomes 0, or 0 becomes more than 10, or it changes by more than 10, up or down, at the start of a fade
unfoldable pub remaining_time_due : Tenths → Tenths → Bool → Bool
remaining_time_due previous next start =
    (is_zero next && not (is_zero previous))
    || (is_zero previous && exceeds next (tenths 10))
    || (exceeds (tenths_apart next previous) (tenths 10) && start)
