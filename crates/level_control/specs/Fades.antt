-- Fades, on the state: answers and wakes.
use Rattle.std.specs.Prelude.{ℕ, Bool, cond, not, ◌||◌, ◌++◌, Option, Some, None}
use Rattle.units.specs.declared.Micros.{Micros}
use Rattle.transitions.specs.Types.{is_missing, is_level}
use Rattle.transitions.specs.Actions.{act, act_if}
use Rattle.transitions.specs.Tasks.{fade_last, fade_start, fade_left, fade_next, fade_asking, fade_waiting, level_to_put_back}
use Rattle.transitions.specs.declared.actions.ActionKind.TheVariants.{D, P, S, L, W, E}
use Rattle.transitions.specs.declared.events.DeviceAnswer.{DeviceAnswer}
use Rattle.transitions.specs.declared.events.DeviceAnswer.TheVariants as device
use Rattle.transitions.specs.declared.tasks.Fade.{Fade}
use Rattle.transitions.specs.declared.tasks.Task.TheVariants as task
use Rattle.transitions.specs.Types.{Level}
use Rattle.level_control.specs.State.{with_task, with_level, with_previous_level}
use Rattle.transitions.specs.Actions.{reports_of}
use Rattle.level_control.specs.Answer.{Outcome, done}
use Rattle.level_control.specs.Reports.{write_remaining_time, set_level}
use Rattle.level_control.specs.Coupling.{coupled_by}
use Rattle.level_control.specs.Reports.{Told}
use Rattle.level_control.specs.declared.state.LevelControlState.{LevelControlState}

-- C as due at the start and at the end, by the answered level
unfoldable pub fade_coupling : LevelControlState → Fade → Bool → ℕ → Option Bool
fade_coupling s f on level = cond (fade_start f || fade_last f) (coupled_by s level f.with_on_off on) None

-- the level answered and stored
unfoldable pub fade_stored : LevelControlState → Fade → Micros → ℕ → LevelControlState
fade_stored s f at level = (set_level s (Some level) at (fade_last f)).state

-- and the remaining time written
unfoldable pub fade_told : LevelControlState → Fade → Micros → Bool → ℕ → Told
fade_told s f at on level = record {
  state = (write_remaining_time (fade_stored s f at level) (fade_left f) (fade_start f)).state;
  reports = record {
    stored = not (is_level s.current_level level);
    scene = not f.scene_apply;
    coupling = fade_coupling s f on level;
    level = (set_level s (Some level) at (fade_last f)).due;
    time = (write_remaining_time (fade_stored s f at level) (fade_left f) (fade_start f)).due;
  };
}

-- Reactions: the level at the off event is put back without the device: P if it changes, L always
unfoldable pub ended_put_back : Told → ℕ → Outcome
ended_put_back t before =
    done (with_level (with_task t.state task.Rest) (Some before))
    (reports_of t.reports ++ act_if (not (is_level t.state.current_level before)) P ++ act L 0)

-- at the end
abbrev pub fade_ended_by : Level → Told → Outcome
fade_ended_by (Some before) t = ended_put_back t before
fade_ended_by None t = done (with_task t.state task.Rest) (reports_of t.reports)

unfoldable pub fade_ended : Told → Option ℕ → Outcome
fade_ended t put_back = fade_ended_by (level_to_put_back put_back t.state.attributes.on_level) t

-- a fade whose request is made: D
abbrev pub asked : LevelControlState → Fade → Outcome
asked s f = done (with_task s (task.Fade f)) (act D f.counter)

-- before it: W, or D at once
abbrev pub fade_then : Option Micros → Told → Fade → Micros → Outcome
fade_then (Some until) t f at =
    done (with_task t.state (task.Fade (fade_waiting f (fade_left f) until))) (reports_of t.reports ++ act W until.0)
fade_then None t f at =
    done (with_task t.state (task.Fade (fade_asking f (fade_left f) at)))
    (reports_of t.reports ++ act D (fade_asking f (fade_left f) at).counter)

unfoldable pub fade_goes_on : Told → Fade → Micros → Micros → Outcome
fade_goes_on t f since at = fade_then (fade_next f since at) t f at

-- an answer with a level
unfoldable pub move_to_level_transition : LevelControlState → Fade → Micros → Micros → Bool → ℕ → Outcome
move_to_level_transition s f since at on level =
    cond (fade_last f) (fade_ended (fade_told s f at on level) f.put_back) (fade_goes_on (fade_told s f at on level) f since at)

-- a missing answer: P if the level changed, S, E15
unfoldable pub fade_missing : LevelControlState → Fade → Micros → Outcome
fade_missing s f at =
    done (with_task (set_level s None at (fade_last f)).state task.Rest)
    (act_if (not (is_missing s.current_level)) P ++ act_if (not f.scene_apply) S ++ act E 15)

-- a failed answer: E15 alone; the level is noted as the previous one all the same
unfoldable pub device_failed : LevelControlState → Outcome
device_failed s = done (with_task (with_previous_level s s.current_level) task.Rest) (act E 15)

unfoldable pub fade_answered : LevelControlState → Fade → Micros → Micros → Bool → DeviceAnswer → Outcome
fade_answered s f since at on (device.Level level) = move_to_level_transition s f since at on level
fade_answered s f since at on device.Missing = fade_missing s f at
fade_answered s f since at on device.Failed = device_failed s

-- an accepted wake makes the next request
unfoldable pub fade_woken : LevelControlState → Fade → Micros → Outcome
fade_woken s f at =
    done (with_task s (task.Fade (fade_asking f f.remaining at))) (act D (fade_asking f f.remaining at).counter)
