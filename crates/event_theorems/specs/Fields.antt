-- Every event: what an accepted one that no options stop leaves in each field of the state. The machine uses nothing of this page.
use Rattle.std.specs.Prelude.{◌-◌, Bool, true, false, cond, ◌||◌, eqb, leb, None}
use Rattle.units.specs.Units.{tenths, millis, micros, tenths_up}
use Rattle.units.specs.declared.Micros.{Micros}
use Rattle.units.specs.declared.Tenths.{Tenths}
use Rattle.transitions.specs.Types.{is_missing, level_or}
use Rattle.transitions.specs.declared.events.DeviceAnswer.{DeviceAnswer}
use Rattle.transitions.specs.declared.events.DeviceAnswer.TheVariants as device
use Rattle.transitions.specs.declared.settings.Attributes.{Attributes}
use Rattle.transitions.specs.declared.tasks.Fade.{Fade}
use Rattle.transitions.specs.declared.tasks.Task.{Task}
use Rattle.transitions.specs.declared.tasks.Task.TheVariants as task
use Rattle.transitions.specs.Types.{Level}
use Rattle.level_control.specs.declared.state.LevelControlState.{LevelControlState}
use Rattle.event_theorems.specs.Brings.{Brings, Tells, Nothing, Told, Failure, AtStartUp, tells, put_back_by}
use Rattle.event_theorems.specs.Brings as bring
use Rattle.event_theorems.specs.TaskAfter.{task_after, task_on}

-- The level.

abbrev pub level_told : Tells → Level → Level
level_told Nothing before = before
level_told (Told level end) before = level
level_told Failure before = before
level_told (AtStartUp level) before = level

-- what the device tells, but for what an off fade puts back
abbrev pub level_after : LevelControlState → Brings → Level
level_after s b = level_or (put_back_by s b) (level_told (tells s b) s.current_level)

-- The noted previous level.

abbrev pub noted : Tells → LevelControlState → Level
noted Nothing s = s.previous_current_level
noted (Told level end) s = s.current_level
noted Failure s = s.current_level
noted (AtStartUp level) s = s.previous_current_level

-- a reset makes it missing
abbrev pub previous_after : LevelControlState → Brings → Level
previous_after s (bring.Runs c) = noted (tells s (bring.Runs c)) s
previous_after s bring.Stops = noted (tells s bring.Stops) s
previous_after s (bring.Answers a) = noted (tells s (bring.Answers a)) s
previous_after s (bring.Updates level) = noted (tells s (bring.Updates level)) s
previous_after s (bring.Sets a) = noted (tells s (bring.Sets a)) s
previous_after s bring.Resets = None

-- The last-report time.

-- Level reports: due if 1,000,000 µs or more have passed since the last-report time, or at an end, or where the old level or the new one is missing
abbrev pub report_due : Tells → LevelControlState → Micros → Bool
report_due Nothing s now = false
report_due (Told level end) s now =
    leb 1000000 (now.0 - s.last_current_level_notification.0) || end || is_missing s.current_level || is_missing level
report_due Failure s now = false
report_due (AtStartUp level) s now = false

-- then the last-report time becomes now. It is 0 at first
abbrev pub reported_at : LevelControlState → Brings → Micros → Micros
reported_at s b now = cond (report_due (tells s b) s now) now s.last_current_level_notification

abbrev pub reported_after : LevelControlState → Brings → Micros → Micros
reported_after s (bring.Runs c) now = reported_at s (bring.Runs c) now
reported_after s bring.Stops now = reported_at s bring.Stops now
reported_after s (bring.Answers a) now = reported_at s (bring.Answers a) now
reported_after s (bring.Updates level) now = reported_at s (bring.Updates level) now
reported_after s (bring.Sets a) now = reported_at s (bring.Sets a) now
reported_after s bring.Resets now = micros 0

-- The remaining time.

-- Fades: the unrounded remaining time falls by the period at each answer before the end, and is 0 at the end. It is written in tenths, rounded up
abbrev pub fade_time : DeviceAnswer → Fade → Tenths → Tenths
fade_time (device.Level v) f before = cond (eqb f.counter f.target) (tenths 0) (tenths_up (millis (f.remaining.0 - f.period.0)))
fade_time device.Missing f before = before
fade_time device.Failed f before = before

-- a move never writes it
abbrev pub answer_time : Task → DeviceAnswer → Tenths → Tenths
answer_time task.Rest a before = before
answer_time task.StartUp a before = before
answer_time (task.Fade f) a before = fade_time a f before
answer_time (task.Move m) a before = before
answer_time (task.OnReaction r) a before = before

-- a stop, a device's update and a reset write 0; a task that is replaced leaves the time as it was
abbrev pub time_after : LevelControlState → Brings → Tenths
time_after s (bring.Runs c) = s.remaining_time
time_after s bring.Stops = tenths 0
time_after s (bring.Answers a) = answer_time s.task a s.remaining_time
time_after s (bring.Updates level) = tenths 0
time_after s (bring.Sets a) = s.remaining_time
time_after s bring.Resets = tenths 0

-- The attributes: a reset puts them back to the configured.
abbrev pub attributes_after : LevelControlState → Brings → Attributes
attributes_after s (bring.Runs c) = s.attributes
attributes_after s bring.Stops = s.attributes
attributes_after s (bring.Answers a) = s.attributes
attributes_after s (bring.Updates level) = s.attributes
attributes_after s (bring.Sets a) = a
attributes_after s bring.Resets = s.settings.attributes

unfoldable pub next_state : LevelControlState → Brings → Micros → LevelControlState
next_state s b now = record {
  settings = s.settings;
  attributes = attributes_after s b;
  current_level = level_after s b;
  remaining_time = time_after s b;
  previous_current_level = previous_after s b;
  last_current_level_notification = reported_after s b now;
  last_accepted = now;
  started = true;
  task = task_on (task_after s b now) s.task;
}
