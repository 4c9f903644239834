-- Events and answers: one event of any kind.
use Rattle.std.specs.Prelude.{ℕ, Bool, cond, [], eqb}
use Rattle.units.specs.declared.Micros.{Micros}
use Rattle.transitions.specs.Causes.{event_tests, first_cause}
use Rattle.transitions.specs.declared.events.DeviceAnswer.{DeviceAnswer}
use Rattle.transitions.specs.declared.events.Event.{Event}
use Rattle.transitions.specs.declared.events.Command.{Command}
use Rattle.transitions.specs.declared.events.EventKind.{EventKind}
use Rattle.transitions.specs.declared.events.EventKind.TheVariants as kind
use Rattle.transitions.specs.declared.tasks.Fade.{Fade}
use Rattle.transitions.specs.declared.tasks.Move.{Move}
use Rattle.transitions.specs.declared.tasks.Phase.{Phase}
use Rattle.transitions.specs.declared.tasks.Phase.TheVariants.{Asked, Waiting}
use Rattle.transitions.specs.declared.tasks.Request.{Request}
use Rattle.transitions.specs.declared.tasks.Request.TheVariants as request
use Rattle.transitions.specs.declared.tasks.Task.{Task}
use Rattle.transitions.specs.declared.tasks.Task.TheVariants as task
use Rattle.level_control.specs.State.{accept}
use Rattle.level_control.specs.Answer.{Outcome, done, refused}
use Rattle.level_control.specs.Targets.{quiet, moved_to_level, stepped, recalled, stopped}
use Rattle.level_control.specs.Fades.{fade_answered, fade_woken}
use Rattle.level_control.specs.Moves.{begin_move, move_goes_on, move_answered}
use Rattle.level_control.specs.Reactions.{switched, on_answered}
use Rattle.level_control.specs.StartUp.{started_up, start_up_answered}
use Rattle.level_control.specs.Updates.{updated}
use Rattle.level_control.specs.Setters.{on_level_set, default_move_rate_set, start_up_current_level_set, reset_all}
use Rattle.level_control.specs.Judge.{turn_tests, command_tests_of}
use Rattle.level_control.specs.declared.state.LevelControlState.{LevelControlState}
use Rattle.transitions.specs.declared.events.Command.TheVariants as command

-- an answer goes to the task whose request is open. Where none is open (the event was refused) nothing happens

abbrev pub fade_answered_in : Phase → LevelControlState → Fade → DeviceAnswer → Micros → Bool → Outcome
fade_answered_in (Asked since) s f a at on = fade_answered s f since at on a
fade_answered_in (Waiting until) s f a at on = done s []

abbrev pub move_answered_in : Phase → LevelControlState → Move → DeviceAnswer → Micros → Bool → Outcome
move_answered_in (Asked since) s m a at on = move_answered s m since at on a
move_answered_in (Waiting until) s m a at on = done s []

abbrev pub answered_in : Task → LevelControlState → DeviceAnswer → Micros → Bool → Outcome
answered_in task.Rest s a at on = done s []
answered_in task.StartUp s a at on = start_up_answered s a
answered_in (task.Fade f) s a at on = fade_answered_in f.phase s f a at on
answered_in (task.Move m) s a at on = move_answered_in m.phase s m a at on
answered_in (task.OnReaction r) s a at on = on_answered s r at on a

unfoldable pub answered : LevelControlState → DeviceAnswer → Micros → Bool → Outcome
answered s a at on = answered_in s.task s a at on

-- the answer to a request that is open
abbrev pub answered_to : Request → LevelControlState → DeviceAnswer → Micros → Bool → Outcome
answered_to request.StartUp s a at on = start_up_answered s a
answered_to (request.Fade f since) s a at on = fade_answered s f since at on a
answered_to (request.Move m since) s a at on = move_answered s m since at on a
answered_to (request.OnReaction r) s a at on = on_answered s r at on a

-- a wake goes to the task that waits

abbrev pub woken_in : Task → LevelControlState → Micros → Bool → Outcome
woken_in task.Rest s at on = done s []
woken_in task.StartUp s at on = done s []
woken_in (task.Fade f) s at on = fade_woken s f at
woken_in (task.Move m) s at on = move_goes_on (quiet s) m.motion at on
woken_in (task.OnReaction r) s at on = done s []

unfoldable pub woken : LevelControlState → Micros → Bool → Outcome
woken s at on = woken_in s.task s at on

-- an accepted event that no options stop

abbrev pub run_command : LevelControlState → Command → Micros → Bool → Outcome
run_command s (command.MoveToLevel r) at on = moved_to_level s r at on
run_command s (command.Move r) at on = begin_move s r at on
run_command s (command.Step r) at on = stepped s r at on
run_command s (command.Stop r) at on = stopped s
run_command s (command.OnOffChanged value) at on = switched s value at on
run_command s (command.Scene r) at on = recalled s r at on
run_command s (command.DeviceUpdate level) at on = updated s level at
run_command s command.DeviceStop at on = stopped s
run_command s (command.SetOnLevel level) at on = on_level_set s level
run_command s (command.SetDefaultMoveRate rate) at on = default_move_rate_set s rate
run_command s (command.SetStartUpCurrentLevel level) at on = start_up_current_level_set s level
run_command s command.FactoryReset at on = reset_all s

unfoldable pub run : LevelControlState → EventKind → Micros → Bool → Outcome
run s kind.StartUp at on = started_up s
run s (kind.Answer a) at on = answered s a at on
run s kind.Wake at on = woken s at on
run s (kind.Command c) at on = run_command s c at on

-- the number of the first cause that refuses an event, or 0
unfoldable pub number_of : LevelControlState → Event → ℕ
number_of s e = first_cause (event_tests (turn_tests s e.moment.at e.kind) (command_tests_of s e.moment.on_off e.kind))

unfoldable pub event_of : LevelControlState → Event → Outcome
event_of s e =
    cond (eqb (number_of s e) 0)
    (cond (command_tests_of s e.moment.on_off e.kind).stopped_by_options
    (done (accept s e.moment.at) [])
    (run (accept s e.moment.at) e.kind e.moment.at e.moment.on_off))
    (refused s (number_of s e))
