-- Coupling, on the state.
use Rattle.std.specs.Prelude.{ℕ, Bool, Option}
use Rattle.transitions.specs.Coupling.{coupled_on_off}
use Rattle.level_control.specs.declared.state.LevelControlState.{LevelControlState}

-- with the settings of the state
unfoldable pub coupled_by : LevelControlState → ℕ → Bool → Bool → Option Bool
coupled_by s level with_on_off on = coupled_on_off with_on_off s.settings.coupled on s.settings.range.min level
