-- Every event: what an accepted one that no options stop brings, as the fields and the letters tell events apart. The machine uses nothing of this page.
use Rattle.std.specs.Prelude.{ℕ, ◌/◌, min, Bool, true, false, ◌||◌, eqb, Option, Some, None}
use Rattle.transitions.specs.declared.events.DeviceAnswer.{DeviceAnswer}
use Rattle.transitions.specs.declared.events.DeviceAnswer.TheVariants as device
use Rattle.transitions.specs.declared.events.EventKind.{EventKind}
use Rattle.transitions.specs.declared.events.EventKind.TheVariants as kind
use Rattle.transitions.specs.declared.events.MoveRequest.{MoveRequest}
use Rattle.transitions.specs.declared.events.StepRequest.{StepRequest}
use Rattle.transitions.specs.declared.settings.Attributes.{Attributes}
use Rattle.transitions.specs.declared.settings.Settings.{Settings}
use Rattle.transitions.specs.declared.tasks.Task.{Task}
use Rattle.transitions.specs.declared.tasks.Task.TheVariants as task
use Rattle.transitions.specs.Types.{Level}
use Rattle.transitions.specs.Types.{Rate}
use Rattle.level_control.specs.Starts.{distance, given_or, step_in, step_to, target}
use Rattle.level_control.specs.declared.state.LevelControlState.{LevelControlState}
use Rattle.transitions.specs.declared.events.Command.TheVariants as command

-- what begins a task, or goes on with one
pub data TaskEvent : Type 0 where
  StartUp : TaskEvent
  -- a target and the tenths to it; with on/off; of a scene; the level before it is put back afterwards
  Target : ℕ → ℕ → Bool → Bool → Bool → TaskEvent
  -- a scene without a value. A step from a missing level is refused
  NoTarget : TaskEvent
  Move : MoveRequest → TaskEvent
  On : TaskEvent
  Wake : TaskEvent

pub data Brings : Type 0 where
  Runs : TaskEvent → Brings
  Stops : Brings
  Answers : DeviceAnswer → Brings
  Updates : ℕ → Brings
  Sets : Attributes → Brings
  Resets : Brings

-- Steps: the result is then a target
abbrev pub step_target : Level → LevelControlState → StepRequest → TaskEvent
step_target (Some c) s r =
    Target (target s (step_to r.mode s c r.step_size))
    (step_in r.transition_time (distance (step_to r.mode s c r.step_size) c) r.step_size)
    r.options.with_on_off false false
step_target None s r = NoTarget

-- Scenes: the time is milliseconds ÷ 100 rounded down, at most 65,535
abbrev pub scene_target : Level → LevelControlState → ℕ → TaskEvent
scene_target (Some level) s ms = Target (target s level) (min 65535 (ms / 100)) false true false
scene_target None s ms = NoTarget

-- Reactions: on asks the device for MIN; of off MIN is the target, and the level before may be put back
abbrev pub turned : Bool → LevelControlState → TaskEvent
turned true s = On
turned false s =
    Target (target s s.settings.range.min)
    (given_or s.attributes.off_transition_time s.attributes.on_off_transition_time.0)
    true false true

-- attributes of which a setter sets one
abbrev pub attributes_with : Attributes → Level → Rate → Level → Attributes
attributes_with a on rate start = record a { on_level = on; default_move_rate = rate; start_up_current_level = start }

abbrev pub brings : LevelControlState → EventKind → Brings
brings s kind.StartUp = Runs StartUp
brings s (kind.Command (command.MoveToLevel r)) = Runs (Target (target s r.level) (given_or r.transition_time 0) r.options.with_on_off false false)
brings s (kind.Command (command.Move r)) = Runs (Move r)
brings s (kind.Command (command.Step r)) = Runs (step_target s.current_level s r)
brings s (kind.Command (command.Stop r)) = Stops
brings s (kind.Answer a) = Answers a
brings s kind.Wake = Runs Wake
brings s (kind.Command (command.OnOffChanged value)) = Runs (turned value s)
brings s (kind.Command (command.Scene r)) = Runs (scene_target r.level s r.transition_time.0)
brings s (kind.Command (command.DeviceUpdate level)) = Updates level
brings s (kind.Command command.DeviceStop) = Stops
brings s (kind.Command (command.SetOnLevel level)) =
    Sets (attributes_with s.attributes level s.attributes.default_move_rate s.attributes.start_up_current_level)
brings s (kind.Command (command.SetDefaultMoveRate rate)) =
    Sets (attributes_with s.attributes s.attributes.on_level rate s.attributes.start_up_current_level)
brings s (kind.Command (command.SetStartUpCurrentLevel level)) =
    Sets (attributes_with s.attributes s.attributes.on_level s.attributes.default_move_rate level)
brings s (kind.Command command.FactoryReset) = Resets

-- What the device tells of its level.

pub data Tells : Type 0 where
  Nothing : Tells
  -- Level reports: a level, or that it is missing; and whether this is an end
  Told : Level → Bool → Tells
  -- a failed device
  Failure : Tells
  -- Start-up: an answer to it
  AtStartUp : Level → Tells

abbrev pub answer_tells : DeviceAnswer → Bool → Tells
answer_tells (device.Level v) end = Told (Some v) end
answer_tells device.Missing end = Told None end
answer_tells device.Failed end = Failure

abbrev pub start_up_tells : DeviceAnswer → Tells
start_up_tells (device.Level v) = AtStartUp (Some v)
start_up_tells device.Missing = AtStartUp None
start_up_tells device.Failed = Nothing

-- Moves: the end is the answer to a request for MIN or for MAX
abbrev pub is_end : ℕ → Settings → Bool
is_end asked settings = eqb asked settings.range.max || eqb asked settings.range.min

-- a fade ends with the answer for its target
abbrev pub task_tells : Task → LevelControlState → DeviceAnswer → Tells
task_tells task.Rest s a = Nothing
task_tells task.StartUp s a = start_up_tells a
task_tells (task.Fade f) s a = answer_tells a (eqb f.counter f.target)
task_tells (task.Move m) s a = answer_tells a (is_end m.asked s.settings)
task_tells (task.OnReaction r) s a = answer_tells a false

-- a device's update counts as an end
abbrev pub tells : LevelControlState → Brings → Tells
tells s (Runs c) = Nothing
tells s Stops = Nothing
tells s (Answers a) = task_tells s.task s a
tells s (Updates level) = Told (Some level) true
tells s (Sets a) = Nothing
tells s Resets = Nothing

-- Reactions: after the last answer of an off fade the level before is put back, if the on level is missing then

abbrev pub level_before : Option ℕ → Level
level_before None = None
level_before (Some before) = Some before

abbrev pub fade_puts_back : DeviceAnswer → Bool → Level → Option ℕ → Level
fade_puts_back (device.Level v) true None put_back = level_before put_back
fade_puts_back (device.Level v) true (Some on) put_back = None
fade_puts_back (device.Level v) false on put_back = None
fade_puts_back device.Missing last on put_back = None
fade_puts_back device.Failed last on put_back = None

abbrev pub task_puts_back : Task → LevelControlState → DeviceAnswer → Level
task_puts_back task.Rest s a = None
task_puts_back task.StartUp s a = None
task_puts_back (task.Fade f) s a = fade_puts_back a (eqb f.counter f.target) s.attributes.on_level f.put_back
task_puts_back (task.Move m) s a = None
task_puts_back (task.OnReaction r) s a = None

abbrev pub put_back_by : LevelControlState → Brings → Level
put_back_by s (Runs c) = None
put_back_by s Stops = None
put_back_by s (Answers a) = task_puts_back s.task s a
put_back_by s (Updates level) = None
put_back_by s (Sets a) = None
put_back_by s Resets = None
