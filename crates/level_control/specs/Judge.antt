-- Causes: what the tests of the table say of an event in a state.
use Rattle.std.specs.Prelude.{ℕ, cond, Result, Ok, Err, Bool, false, not, ◌&&◌, ◌||◌, eqb, Some, None}
use Rattle.units.specs.Units.{micros, before}
use Rattle.units.specs.declared.Micros.{Micros}
use Rattle.transitions.specs.Types.{is_missing, is_outside, is_zero_rate}
use Rattle.transitions.specs.Causes.{command_tests, no_command_tests, no_turn_tests, event_tests, first_cause}
use Rattle.transitions.specs.Options.{should_continue}
use Rattle.transitions.specs.declared.types.OptionsBitmap.{OptionsBitmap}
use Rattle.transitions.specs.Commands.{consults_options, is_overflow, is_invalid}
use Rattle.transitions.specs.Tasks.{task_open, task_due}
use Rattle.transitions.specs.declared.causes.CommandTests.{CommandTests}
use Rattle.transitions.specs.declared.causes.TurnTests.{TurnTests}
use Rattle.transitions.specs.declared.causes.Refusal.{Refusal}
use Rattle.transitions.specs.declared.causes.Refusal.TheVariants.{LevelOutside}
use Rattle.transitions.specs.declared.events.Command.{Command}
use Rattle.transitions.specs.declared.events.EventKind.{EventKind}
use Rattle.transitions.specs.declared.events.EventKind.TheVariants as kind
use Rattle.transitions.specs.declared.events.MoveRequest.{MoveRequest}
use Rattle.transitions.specs.declared.events.MoveToLevelRequest.{MoveToLevelRequest}
use Rattle.transitions.specs.declared.events.SceneRequest.{SceneRequest}
use Rattle.transitions.specs.declared.events.StepRequest.{StepRequest}
use Rattle.transitions.specs.declared.options.CommandOptions.{CommandOptions}
use Rattle.transitions.specs.Types.{Level}
use Rattle.transitions.specs.Types.{Rate}
use Rattle.level_control.specs.Targets.{stepped_time}
use Rattle.level_control.specs.Moves.{rate_by}
use Rattle.level_control.specs.declared.state.LevelControlState.{LevelControlState}
use Rattle.transitions.specs.declared.events.Command.TheVariants as command

-- Options: a command goes on, with the settings and the options of the state
unfoldable pub continues : LevelControlState → Bool → Bool → OptionsBitmap → OptionsBitmap → Bool
continues s with_on_off on mask override = should_continue with_on_off s.settings.coupled on s.attributes.options mask override

-- the last clock time that is accepted, 2^62 − 1
abbrev pub latest : Micros
latest = micros 4611686018427387903

-- 5: below the last accepted time, or above 2^62 − 1
unfoldable pub time_refused : LevelControlState → Micros → Bool
time_refused s at = before at s.last_accepted || before latest at

abbrev pub turn_row : Bool → Bool → Bool → Bool → Bool → TurnTests
turn_row time is_open none_open wake late = record {
  time_refused = time;
  answer_open = is_open;
  no_answer_open = none_open;
  wake_refused = wake;
  start_up_late = late;
}

-- 6: a request is open, and the event is no answer; 7: an answer, and none is open; 8: a wake, and nothing waits or it is early; 9: start-up, and an event
-- was accepted before
unfoldable pub turn_tests : LevelControlState → Micros → EventKind → TurnTests
turn_tests s at kind.StartUp = turn_row (time_refused s at) (task_open s.task) false false s.started
turn_tests s at (kind.Answer a) = turn_row (time_refused s at) false (not (task_open s.task)) false false
turn_tests s at kind.Wake = turn_row (time_refused s at) (task_open s.task) false (not (task_due s.task at)) false
turn_tests s at (kind.Command c) = turn_row (time_refused s at) (task_open s.task) false false false

-- the options stop a lower target, and do not look at 255
unfoldable pub move_to_level_tests : LevelControlState → Bool → MoveToLevelRequest → CommandTests
move_to_level_tests s on r =
    command_tests false
    (consults_options r.level && not (continues s r.options.with_on_off on r.options.options_mask r.options.options_override))
    false false false false

-- 10: the rate in force is 0
unfoldable pub move_tests : LevelControlState → Bool → MoveRequest → CommandTests
move_tests s on r =
    command_tests (is_invalid (rate_by s r))
    (not (continues s r.options.with_on_off on r.options.options_mask r.options.options_override))
    false false false false

-- 12: the step's size came out different, and given time × actual size is above 65,535
abbrev pub overflows_from : Level → LevelControlState → StepRequest → Bool
overflows_from (Some level) s r = is_overflow (stepped_time s level r)
overflows_from None s r = false

unfoldable pub step_overflows : LevelControlState → StepRequest → Bool
step_overflows s r = overflows_from s.current_level s r

-- 10: the size is 0; 11: the level is missing
unfoldable pub step_tests : LevelControlState → Bool → StepRequest → CommandTests
step_tests s on r =
    command_tests (eqb r.step_size 0)
    (not (continues s r.options.with_on_off on r.options.options_mask r.options.options_override))
    (is_missing s.current_level)
    (step_overflows s r)
    false false

unfoldable pub stop_tests : LevelControlState → Bool → CommandOptions → CommandTests
stop_tests s on r =
    command_tests false
    (not (continues s r.with_on_off on r.options_mask r.options_override))
    false false false false

abbrev pub scene_tests_at : Level → LevelControlState → Bool → CommandTests
scene_tests_at (Some level) s on =
    command_tests false (consults_options level && not (continues s false on (record { 0 = 0 }) (record { 0 = 0 }))) false false false false
scene_tests_at None s on = no_command_tests

unfoldable pub scene_tests : LevelControlState → Bool → SceneRequest → CommandTests
scene_tests s on r = scene_tests_at r.level s on

-- 13: a known level outside MIN..MAX
unfoldable pub level_tests : LevelControlState → Level → CommandTests
level_tests s level =
    command_tests false false false false (is_outside level s.settings.range.min s.settings.range.max) false

-- 14: a known rate of 0
unfoldable pub rate_tests : Rate → CommandTests
rate_tests rate = command_tests false false false false false (is_zero_rate rate)

-- 10 to 14 and the options, for each command
abbrev pub command_tests_by : LevelControlState → Bool → Command → CommandTests
command_tests_by s on (command.MoveToLevel r) = move_to_level_tests s on r
command_tests_by s on (command.Move r) = move_tests s on r
command_tests_by s on (command.Step r) = step_tests s on r
command_tests_by s on (command.Stop r) = stop_tests s on r
command_tests_by s on (command.OnOffChanged value) = no_command_tests
command_tests_by s on (command.Scene r) = scene_tests s on r
command_tests_by s on (command.DeviceUpdate level) = no_command_tests
command_tests_by s on command.DeviceStop = no_command_tests
command_tests_by s on (command.SetOnLevel level) = level_tests s level
command_tests_by s on (command.SetDefaultMoveRate rate) = rate_tests rate
command_tests_by s on (command.SetStartUpCurrentLevel level) = level_tests s level
command_tests_by s on command.FactoryReset = no_command_tests

unfoldable pub command_tests_of : LevelControlState → Bool → EventKind → CommandTests
command_tests_of s on kind.StartUp = no_command_tests
command_tests_of s on (kind.Answer a) = no_command_tests
command_tests_of s on kind.Wake = no_command_tests
command_tests_of s on (kind.Command c) = command_tests_by s on c

-- the number of a command whose turn has come
abbrev pub tests_number : CommandTests → ℕ
tests_number tests = first_cause (event_tests no_turn_tests tests)

-- 13, said of the level that is set
abbrev pub level_judged : LevelControlState → Level → Result Level Refusal
level_judged s level = cond (is_outside level s.settings.range.min s.settings.range.max) (Err LevelOutside) (Ok level)
