-- Reactions, on the state: on and off.
use Rattle.std.specs.Prelude.{Bool, true, false, cond, ◌++◌, Some, None}
use Rattle.units.specs.declared.Micros.{Micros}
use Rattle.units.specs.declared.Tenths.{Tenths}
use Rattle.transitions.specs.Types.{level_or, time_or}
use Rattle.transitions.specs.Actions.{act}
use Rattle.transitions.specs.declared.actions.ActionKind.TheVariants.{D, E}
use Rattle.transitions.specs.declared.events.DeviceAnswer.{DeviceAnswer}
use Rattle.transitions.specs.declared.events.DeviceAnswer.TheVariants as device
use Rattle.transitions.specs.declared.tasks.OnReaction.{OnReaction}
use Rattle.transitions.specs.declared.tasks.Task.TheVariants as task
use Rattle.transitions.specs.Types.{Level}
use Rattle.level_control.specs.State.{with_task}
use Rattle.transitions.specs.Actions.{reports_of}
use Rattle.level_control.specs.Answer.{Outcome, done}
use Rattle.level_control.specs.Reports.{told_level}
use Rattle.level_control.specs.Targets.{quiet, request_to, go_to}
use Rattle.level_control.specs.Fades.{device_failed}
use Rattle.level_control.specs.Moves.{move_missing}
use Rattle.level_control.specs.Reports.{Told}
use Rattle.level_control.specs.declared.state.LevelControlState.{LevelControlState}

-- the on time or the off time, else the common time

unfoldable pub on_time : LevelControlState → Tenths
on_time s = time_or s.attributes.on_transition_time s.attributes.on_off_transition_time

unfoldable pub off_time : LevelControlState → Tenths
off_time s = time_or s.attributes.off_transition_time s.attributes.on_off_transition_time

-- on: the device is asked for MIN, and the level before is kept with the task
unfoldable pub turned_on : LevelControlState → Outcome
turned_on s = done (with_task s (task.OnReaction (record { before = s.current_level }))) (act D s.settings.range.min)

-- then the on level, else the level before, is a target; with both missing, E15
abbrev pub on_to : Level → Told → Micros → Bool → Outcome
on_to (Some level) t at on = go_to t (request_to t.state level (on_time t.state) true false false) at on
on_to None t at on = done (with_task t.state task.Rest) (reports_of t.reports ++ act E 15)

unfoldable pub on_goes_on : Told → OnReaction → Micros → Bool → Outcome
on_goes_on t r at on = on_to (level_or t.state.attributes.on_level r.before) t at on

unfoldable pub on_answered : LevelControlState → OnReaction → Micros → Bool → DeviceAnswer → Outcome
on_answered s r at on (device.Level level) = on_goes_on (told_level s (Some level) at false) r at on
on_answered s r at on device.Missing = move_missing s false at
on_answered s r at on device.Failed = device_failed s

-- off: MIN is the target, from the current level
unfoldable pub turned_off : LevelControlState → Micros → Bool → Outcome
turned_off s at on = go_to (quiet s) (request_to s s.settings.range.min (off_time s) true false true) at on

-- the event's own value says on or off; C is compared with the on/off value that every event carries
unfoldable pub switched : LevelControlState → Bool → Micros → Bool → Outcome
switched s value at on = cond value (turned_on s) (turned_off s at on)
