-- Settings and reset: what a setter leaves, and a reset.
use Rattle.transitions.specs.Actions.{act}
use Rattle.transitions.specs.declared.actions.ActionKind.TheVariants.{K, X}
use Rattle.transitions.specs.Types.{Level}
use Rattle.transitions.specs.Types.{Rate}
use Rattle.level_control.specs.State.{reset_state, with_attributes}
use Rattle.level_control.specs.Answer.{Outcome, done}
use Rattle.level_control.specs.declared.state.LevelControlState.{LevelControlState}

-- a setter, past its refusal. K is told also where the value stays the same

unfoldable pub on_level_set : LevelControlState → Level → Outcome
on_level_set s level = done (with_attributes s (record s.attributes { on_level = level })) (act K 0)

unfoldable pub default_move_rate_set : LevelControlState → Rate → Outcome
default_move_rate_set s rate = done (with_attributes s (record s.attributes { default_move_rate = rate })) (act K 0)

unfoldable pub start_up_current_level_set : LevelControlState → Level → Outcome
start_up_current_level_set s level = done (with_attributes s (record s.attributes { start_up_current_level = level })) (act K 0)

-- reset: X alone
unfoldable pub reset_all : LevelControlState → Outcome
reset_all s = done (reset_state s) (act X 0)
