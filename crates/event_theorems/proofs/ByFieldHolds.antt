-- What every event gives, cause by cause, field by field and letter by letter. Assumes nothing.
use Prim.Native.Nat.{ℕ}
use mathlib.Core.Bool.{Bool, false}
use mathlib.Core.Path.{◌≡◌, sym, ap, ◌∙◌}
use Rattle.std.proofs.lemmas.Bool.{not-false}
use Rattle.units.specs.declared.Micros.{Micros}
use Rattle.transitions.specs.Tasks.{task_open}
use Rattle.transitions.specs.declared.events.Event.{Event}
use Rattle.transitions.specs.declared.events.EventKind.{EventKind}
use Rattle.transitions.specs.declared.events.EventKind.TheVariants as kind
use Rattle.level_control.specs.Answer.{refused}
use Rattle.level_control.specs.Judge.{turn_tests, move_tests, step_tests, command_tests_of}
use Rattle.level_control.specs.Handle.{run, number_of, event_of}
use Rattle.level_control.specs.Setters.{on_level_set, default_move_rate_set, start_up_current_level_set}
use Rattle.level_control.specs.State.{accept}
use Rattle.level_control.specs.declared.state.LevelControlState.{LevelControlState}
use Rattle.level_control.proofs.EventLaws.{options_stop_in, event_refused, event_options_stop, event_runs, turn_passes, command_passes, TurnPasses, CommandPasses}
use Rattle.event_theorems.specs.Brings.{brings}
use Rattle.event_theorems.specs.ByField.{ByField}
use Rattle.event_theorems.proofs.NumberLaws.{number_is, options_stop_is}
use Rattle.event_theorems.proofs.RunLaws.{gives, move_to_level_gives, move_gives, step_gives, turned_gives, scene_gives, start_up_gives, wake_gives, stop_gives, update_gives, set_gives, reset_gives}
use Rattle.event_theorems.proofs.AnswerLaws.{answer_gives}
use Rattle.transitions.specs.declared.events.Command.TheVariants as command

module _ (s : LevelControlState) (at : Micros) (on : Bool) where
  run_gives : (k : EventKind) → TurnPasses (turn_tests s at k) → CommandPasses (command_tests_of s on k)
      → run (accept s at) k at on ≡ gives s (brings s k) at on
  unfolding run turn_tests command_tests_of move_tests step_tests on_level_set default_move_rate_set start_up_current_level_set
  run_gives kind.StartUp turn command = start_up_gives s at on
  run_gives (kind.Command (command.MoveToLevel r)) turn command = move_to_level_gives s at on r
  run_gives (kind.Command (command.Move r)) turn command = move_gives s at on r command.valid
  run_gives (kind.Command (command.Step r)) turn command = step_gives s at on r command.in_state command.fits
  run_gives (kind.Command (command.Stop r)) turn command = stop_gives s at on
  run_gives (kind.Answer a) turn command = answer_gives s a at on (not-false (task_open s.task) turn.opened)
  run_gives kind.Wake turn command = wake_gives s at on
  run_gives (kind.Command (command.OnOffChanged value)) turn command = turned_gives s at on value
  run_gives (kind.Command (command.Scene r)) turn command = scene_gives s at on r
  run_gives (kind.Command (command.DeviceUpdate level)) turn command = update_gives s at on level
  run_gives (kind.Command command.DeviceStop) turn command = stop_gives s at on
  run_gives (kind.Command (command.SetOnLevel level)) turn command = set_gives s at on _
  run_gives (kind.Command (command.SetDefaultMoveRate rate)) turn command = set_gives s at on _
  run_gives (kind.Command (command.SetStartUpCurrentLevel level)) turn command = set_gives s at on _
  run_gives (kind.Command command.FactoryReset) turn command = reset_gives s at on

pub runs_by : (s : LevelControlState) (e : Event) → number_of s e ≡ 0 → options_stop_in s e ≡ false → event_of s e ≡ gives s (brings s e.kind) e.moment.at e.moment.on_off
unfolding number_of
runs_by s e z q =
    event_runs s e z q ∙ run_gives s e.moment.at e.moment.on_off e.kind (turn_passes _ _ z) (command_passes _ _ z q)

pub by_field : ByField
by_field = record {
  refuses = λ s e h. event_refused s e (λ z. h (sym (number_is s e) ∙ z)) ∙ ap (λ (n : ℕ). refused s n) (number_is s e);
  stops = λ s e z q. event_options_stop s e (number_is s e ∙ z) (options_stop_is s e ∙ q);
  runs = λ s e z q. runs_by s e (number_is s e ∙ z) (options_stop_is s e ∙ q);
}
