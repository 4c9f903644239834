-- Moves, on the state: from the command to the end.
use Rattle.std.specs.Prelude.{ℕ, Bool, cond, ◌&&◌, [], ◌++◌, ltb, Option, Some, None, Result, Ok, Err}
use Rattle.units.specs.declared.Micros.{Micros}
use Rattle.transitions.specs.Types.{is_level}
use Rattle.transitions.specs.Commands.{rate_in_force}
use Rattle.transitions.specs.Actions.{act, act_coupled}
use Rattle.transitions.specs.Fade.{wait_or_ask}
use Rattle.transitions.specs.MovePeriod.{move_period}
use Rattle.transitions.specs.Tasks.{move_asking, move_waiting, next_move, is_move_end, at_limit}
use Rattle.transitions.specs.declared.actions.ActionKind.TheVariants.{D, W, E}
use Rattle.transitions.specs.declared.events.DeviceAnswer.{DeviceAnswer}
use Rattle.transitions.specs.declared.events.DeviceAnswer.TheVariants as device
use Rattle.transitions.specs.declared.events.MoveRequest.{MoveRequest}
use Rattle.transitions.specs.declared.tasks.Move.{Move}
use Rattle.transitions.specs.declared.tasks.Motion.{Motion}
use Rattle.transitions.specs.declared.tasks.MoveStep.{MoveStep}
use Rattle.transitions.specs.declared.tasks.MoveStep.TheVariants as step
use Rattle.transitions.specs.declared.tasks.Task.TheVariants as task
use Rattle.level_control.specs.State.{with_task}
use Rattle.transitions.specs.Actions.{reports_of}
use Rattle.level_control.specs.Answer.{Outcome, done}
use Rattle.level_control.specs.Reports.{told_level}
use Rattle.level_control.specs.Coupling.{coupled_by}
use Rattle.level_control.specs.Targets.{quiet}
use Rattle.level_control.specs.Fades.{device_failed}
use Rattle.level_control.specs.Reports.{Told}
use Rattle.level_control.specs.declared.state.LevelControlState.{LevelControlState}
use Rattle.transitions.specs.declared.causes.Refusal.{Refusal}

-- C before each request that leaves MIN upwards, by the asked level
unfoldable pub leaves_min : LevelControlState → ℕ → Bool → Bool → Option Bool
leaves_min s asked with_on_off on =
    cond (is_level s.current_level s.settings.range.min && ltb s.settings.range.min asked)
    (coupled_by s asked with_on_off on)
    None

unfoldable pub move_ends : LevelControlState → ℕ → Bool
move_ends s asked = is_move_end asked s.settings.range.min s.settings.range.max

unfoldable pub rate_by : LevelControlState → MoveRequest → Result ℕ Refusal
rate_by s r = rate_in_force r.rate s.attributes.default_move_rate s.settings.fastest_rate

-- the next request, from the stored level. A move never writes the remaining time
abbrev pub move_by : MoveStep → Told → Motion → Micros → Bool → Outcome
move_by step.Lost t m at on = done (with_task t.state task.Rest) (reports_of t.reports ++ act E 11)
move_by step.Ends t m at on = done (with_task t.state task.Rest) (reports_of t.reports)
move_by (step.Asks asked) t m at on =
    done (with_task t.state (task.Move (move_asking m asked at)))
    (reports_of t.reports ++ act_coupled (leaves_min t.state asked m.with_on_off on) ++ act D asked)

unfoldable pub move_goes_on : Told → Motion → Micros → Bool → Outcome
move_goes_on t m at on = move_by (next_move t.state.current_level m.mode) t m at on

-- the move takes the place of the running task; a rate that is refused never comes here
abbrev pub move_at : Result ℕ Refusal → LevelControlState → MoveRequest → Micros → Bool → Outcome
move_at (Ok rate) s r at on =
    move_goes_on (quiet s) (record { with_on_off = r.options.with_on_off; mode = r.mode; period = move_period rate }) at on
move_at (Err cause) s r at on = done s []

-- the command, past the options: at MIN going down or at MAX going up nothing happens, and the running task goes on
unfoldable pub begin_move : LevelControlState → MoveRequest → Micros → Bool → Outcome
begin_move s r at on =
    cond (at_limit s.current_level r.mode s.settings.range.min s.settings.range.max) (done s [])
    (move_at (rate_by s r) s r at on)

-- after an answer before the end
abbrev pub move_next : Option Micros → Told → Move → Micros → Bool → Outcome
move_next (Some until) t m at on = done (with_task t.state (task.Move (move_waiting m until))) (reports_of t.reports ++ act W until.0)
move_next None t m at on = move_goes_on t m.motion at on

unfoldable pub move_then : Told → Move → Micros → Micros → Bool → Outcome
move_then t m since at on = move_next (wait_or_ask since at m.motion.period) t m at on

-- an answer with a level; at the end C by the answered level follows L
unfoldable pub move_transition : LevelControlState → Move → Micros → Micros → Bool → ℕ → Outcome
move_transition s m since at on level =
    cond (move_ends s m.asked)
    (done (with_task (told_level s (Some level) at (move_ends s m.asked)).state task.Rest)
    (reports_of (told_level s (Some level) at (move_ends s m.asked)).reports ++ act_coupled (coupled_by s level m.motion.with_on_off on)))
    (move_then (told_level s (Some level) at (move_ends s m.asked)) m since at on)

-- a missing answer, in a move or after on's request: P if the level changed, S, L, E15
unfoldable pub move_missing : LevelControlState → Bool → Micros → Outcome
move_missing s end at =
    done (with_task (told_level s None at end).state task.Rest) (reports_of (told_level s None at end).reports ++ act E 15)

unfoldable pub move_answered : LevelControlState → Move → Micros → Micros → Bool → DeviceAnswer → Outcome
move_answered s m since at on (device.Level level) = move_transition s m since at on level
move_answered s m since at on device.Missing = move_missing s (move_ends s m.asked) at
move_answered s m since at on device.Failed = device_failed s
