-- Targets, Steps, Stop and Scenes, on the state.
use Rattle.std.specs.Prelude.{ℕ, Bool, true, false, ◌&&◌, [], ◌++◌, Some, None, Result, Ok, Err}
use Rattle.units.specs.Numbers.{apart}
use Rattle.units.specs.Units.{tenths, millis, tenths_down}
use Rattle.units.specs.declared.Micros.{Micros}
use Rattle.units.specs.declared.Tenths.{Tenths}
use Rattle.transitions.specs.Types.{is_missing, time_or}
use Rattle.transitions.specs.Commands.{target_level, step_level, step_time}
use Rattle.transitions.specs.Actions.{act, act_if, act_coupled}
use Rattle.transitions.specs.Tasks.{begin_fade}
use Rattle.transitions.specs.declared.actions.ActionKind.TheVariants.{D, E, L, R}
use Rattle.transitions.specs.declared.events.MoveToLevelRequest.{MoveToLevelRequest}
use Rattle.transitions.specs.declared.events.SceneRequest.{SceneRequest}
use Rattle.transitions.specs.declared.events.StepRequest.{StepRequest}
use Rattle.transitions.specs.declared.tasks.Begin.{Begin}
use Rattle.transitions.specs.declared.tasks.Begin.TheVariants as begin
use Rattle.transitions.specs.declared.tasks.FadeRequest.{FadeRequest}
use Rattle.transitions.specs.declared.tasks.Task.TheVariants as task
use Rattle.transitions.specs.Types.{Level}
use Rattle.level_control.specs.State.{with_task}
use Rattle.transitions.specs.Actions.{reports_of, no_reports}
use Rattle.level_control.specs.Answer.{Outcome, done}
use Rattle.level_control.specs.Reports.{write_remaining_time}
use Rattle.level_control.specs.Coupling.{coupled_by}
use Rattle.level_control.specs.Reports.{Told}
use Rattle.level_control.specs.declared.state.LevelControlState.{LevelControlState}
use Rattle.transitions.specs.declared.causes.Refusal.{Refusal}

-- a state with nothing to tell yet
abbrev pub quiet : LevelControlState → Told
quiet s = record { state = s; reports = no_reports }

-- a fade to a level under the rules for targets
abbrev pub request_to : LevelControlState → ℕ → Tenths → Bool → Bool → Bool → FadeRequest
request_to s level time with_on_off scene puts_back = record {
  with_on_off = with_on_off;
  scene_apply = scene;
  puts_back = puts_back;
  target = target_level level s.settings.range.min s.settings.range.max;
  transition_time = time;
}

-- a reached target ends the running task, and couples; from a missing level E11. An off that finds its target reached counts as a finished fade
-- (Reactions): the level is put back, which it already is, and reported
abbrev pub go_to_by : Begin → Told → FadeRequest → Bool → Outcome
go_to_by begin.Reached t r on =
    done (with_task t.state task.Rest)
    (reports_of t.reports
    ++ act_coupled (coupled_by t.state r.target r.with_on_off on)
    ++ act_if (r.puts_back && is_missing t.state.attributes.on_level) L)
go_to_by begin.Lost t r on = done (with_task t.state task.Rest) (reports_of t.reports ++ act E 11)
go_to_by (begin.Starts f) t r on = done (with_task t.state (task.Fade f)) (reports_of t.reports ++ act D f.counter)

unfoldable pub go_to : Told → FadeRequest → Micros → Bool → Outcome
go_to t r at on = go_to_by (begin_fade t.state.current_level r at) t r on

-- move to level, past the options. A missing time is 0
unfoldable pub moved_to_level : LevelControlState → MoveToLevelRequest → Micros → Bool → Outcome
moved_to_level s r at on =
    go_to (quiet s) (request_to s r.level (time_or r.transition_time (tenths 0)) r.options.with_on_off false false) at on

-- a step, past its refusals
unfoldable pub stepped_level : LevelControlState → ℕ → StepRequest → ℕ
stepped_level s level r = step_level r.mode level r.step_size s.settings.range.min s.settings.range.max

unfoldable pub stepped_time : LevelControlState → ℕ → StepRequest → Result Tenths Refusal
stepped_time s level r = step_time r.transition_time (apart (stepped_level s level r) level) r.step_size

abbrev pub stepped_by : Result Tenths Refusal → LevelControlState → ℕ → StepRequest → Micros → Bool → Outcome
stepped_by (Ok time) s level r at on = go_to (quiet s) (request_to s (stepped_level s level r) time r.options.with_on_off false false) at on
stepped_by (Err cause) s level r at on = done s []

abbrev pub stepped_from : Level → LevelControlState → StepRequest → Micros → Bool → Outcome
stepped_from (Some level) s r at on = stepped_by (stepped_time s level r) s level r at on
stepped_from None s r at on = done s []

unfoldable pub stepped : LevelControlState → StepRequest → Micros → Bool → Outcome
stepped s r at on = stepped_from s.current_level s r at on

-- a scene, past the options. Without a level nothing happens
abbrev pub recalled_at : Level → LevelControlState → SceneRequest → Micros → Bool → Outcome
recalled_at (Some level) s r at on = go_to (quiet s) (request_to s level (tenths_down r.transition_time) false true false) at on
recalled_at None s r at on = done s []

unfoldable pub recalled : LevelControlState → SceneRequest → Micros → Bool → Outcome
recalled s r at on = recalled_at r.level s r at on

-- stop, past the options, and device stop: the task ends and the remaining time 0 is written, not as a start
unfoldable pub stopped : LevelControlState → Outcome
stopped s =
    done (with_task (write_remaining_time s (millis 0) false).state task.Rest) (act_if (write_remaining_time s (millis 0) false).due R)
