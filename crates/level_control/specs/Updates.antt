-- Device updates: a level that nobody asked for.
use Rattle.std.specs.Prelude.{ℕ, true, false, not, Some, None}
use Rattle.units.specs.Units.{millis}
use Rattle.units.specs.declared.Micros.{Micros}
use Rattle.transitions.specs.Types.{is_level}
use Rattle.transitions.specs.declared.tasks.Task.TheVariants as task
use Rattle.level_control.specs.State.{with_task}
use Rattle.transitions.specs.Actions.{reports_of}
use Rattle.level_control.specs.Answer.{Outcome, done}
use Rattle.level_control.specs.Reports.{write_remaining_time, set_level}
use Rattle.level_control.specs.declared.state.LevelControlState.{LevelControlState}

-- stored as an answer at an end; then the remaining time 0 is written, not as a start, and the task ends
unfoldable pub updated : LevelControlState → ℕ → Micros → Outcome
updated s level at =
    let stored = set_level s (Some level) at true in
    let written = write_remaining_time stored.state (millis 0) false in
    done (with_task written.state task.Rest)
    (reports_of (record {
      stored = not (is_level s.current_level level);
      scene = true;
      coupling = None;
      level = stored.due;
      time = written.due;
    }))
