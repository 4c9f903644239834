-- Start-up: what the device is asked for, and what its answer leaves.
use Rattle.std.specs.Prelude.{not, [], Some, None}
use Rattle.units.specs.Numbers.{held_to}
use Rattle.transitions.specs.Types.{same_level}
use Rattle.transitions.specs.Actions.{act, act_if}
use Rattle.transitions.specs.declared.actions.ActionKind.TheVariants.{D, P}
use Rattle.transitions.specs.declared.events.DeviceAnswer.{DeviceAnswer}
use Rattle.transitions.specs.declared.events.DeviceAnswer.TheVariants as device
use Rattle.transitions.specs.declared.tasks.Task.TheVariants as task
use Rattle.transitions.specs.Types.{Level}
use Rattle.level_control.specs.State.{with_level, with_task}
use Rattle.level_control.specs.Answer.{Outcome, done}
use Rattle.level_control.specs.declared.state.LevelControlState.{LevelControlState}

-- Start-up: the device is asked for the start-up level held to MIN..MAX, else for the stored level as it is, else for nothing

abbrev pub start_up_or : Level → LevelControlState → Level
start_up_or (Some level) s = Some (held_to s.settings.range.min s.settings.range.max level)
start_up_or None s = s.current_level

unfoldable pub start_up_level : LevelControlState → Level
start_up_level s = start_up_or s.attributes.start_up_current_level s

abbrev pub start_up_at : Level → LevelControlState → Outcome
start_up_at (Some level) s = done (with_task s task.StartUp) (act D level)
start_up_at None s = done s []

unfoldable pub started_up : LevelControlState → Outcome
started_up s = start_up_at (start_up_level s) s

-- an answer, missing too, is stored, with P if the level changed; a failed one changes nothing

unfoldable pub stored_start_up : LevelControlState → Level → Outcome
stored_start_up s level = done (with_task (with_level s level) task.Rest) (act_if (not (same_level s.current_level level)) P)

unfoldable pub start_up_answered : LevelControlState → DeviceAnswer → Outcome
start_up_answered s (device.Level level) = stored_start_up s (Some level)
start_up_answered s device.Missing = stored_start_up s None
start_up_answered s device.Failed = done (with_task s task.Rest) []
