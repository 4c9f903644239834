-- Events and answers: what an accepted event is to do, in steps of the machine, which nobody is promised. `judge` and `handle` join them to `event_of`.
use Rattle.std.specs.Prelude.{Bool, cond, []}
use Rattle.units.specs.declared.Micros.{Micros}
use Rattle.transitions.specs.declared.causes.CommandTests.{CommandTests}
use Rattle.transitions.specs.Actions.{act}
use Rattle.transitions.specs.declared.actions.ActionKind.TheVariants.{K}
use Rattle.transitions.specs.declared.tasks.Wait.TheVariants as wait
use Rattle.level_control.specs.Answer.{Outcome, done}
use Rattle.level_control.specs.State.{with_attributes}
use Rattle.level_control.specs.Targets.{quiet, go_to, stopped}
use Rattle.level_control.specs.Fades.{fade_woken}
use Rattle.level_control.specs.Moves.{move_goes_on}
use Rattle.level_control.specs.Reactions.{turned_on}
use Rattle.level_control.specs.StartUp.{started_up}
use Rattle.level_control.specs.Updates.{updated}
use Rattle.level_control.specs.Setters.{reset_all}
use Rattle.level_control.specs.Handle.{answered_to}
use Rattle.level_control.specs.declared.judge.Course.{Course}
use Rattle.level_control.specs.declared.judge.Course.TheVariants as course
use Rattle.level_control.specs.declared.state.LevelControlState.{LevelControlState}

abbrev pub follow : LevelControlState → Course → Micros → Bool → Outcome
follow s course.Nothing at on = done s []
follow s course.StartUp at on = started_up s
follow s (course.Answered request answer) at on = answered_to request s answer at on
follow s (course.Woken (wait.Fade f)) at on = fade_woken s f at
follow s (course.Woken (wait.Move m)) at on = move_goes_on (quiet s) m at on
follow s (course.GoTo request) at on = go_to (quiet s) request at on
follow s (course.Move m) at on = move_goes_on (quiet s) m at on
follow s course.Stop at on = stopped s
follow s course.TurnOn at on = turned_on s
follow s (course.Update level) at on = updated s level at
follow s (course.Set attributes) at on = done (with_attributes s attributes) (act K 0)
follow s course.Reset at on = reset_all s

-- an accepted command that the options stop does nothing
abbrev pub unless_options_stop : CommandTests → LevelControlState → Outcome → Outcome
unless_options_stop tests s o = cond tests.stopped_by_options (done s []) o
