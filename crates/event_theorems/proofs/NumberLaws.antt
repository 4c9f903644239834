-- The machine's number is that of the first cause of the table, and its options are the table's. Assumes nothing.
use Rattle.std.specs.Prelude.{Some, None, Ok, Err}
use Prim.Native.Nat.{ℕ, ◌*◌, ◌/◌}
use mathlib.Core.Bool.{Bool, true, false, cond, not, ◌&&◌, or-false}
use mathlib.Core.Path.{◌≡◌, refl, ap, ◌∙◌, sym}
use lib.Dec.{eqb, ltb}
use Rattle.units.specs.Units.{tenths, scaled_floor}
use Rattle.units.specs.declared.Micros.{Micros}
use Rattle.units.specs.declared.Tenths.{Tenths}
use Rattle.transitions.specs.Causes.{first_cause}
use Rattle.transitions.specs.Commands.{scaled_time, step_time, is_overflow, rate_in_force, is_invalid}
use Rattle.transitions.specs.Events.{event}
use Rattle.transitions.specs.Matter.{move_rate}
use Rattle.transitions.specs.Tasks.{phase_open, task_open, phase_due, task_due}
use Rattle.transitions.specs.Types.{is_outside, is_zero_rate}
use Rattle.transitions.specs.declared.events.Event.{Event}
use Rattle.transitions.specs.declared.events.EventKind.{EventKind}
use Rattle.transitions.specs.declared.events.EventKind.TheVariants as kind
use Rattle.transitions.specs.declared.events.MoveRequest.{MoveRequest}
use Rattle.transitions.specs.declared.events.StepRequest.{StepRequest}
use Rattle.transitions.specs.declared.tasks.Phase.{Phase}
use Rattle.transitions.specs.declared.tasks.Phase.TheVariants.{Asked, Waiting}
use Rattle.transitions.specs.declared.tasks.Task.{Task}
use Rattle.transitions.specs.declared.tasks.Task.TheVariants as task
use Rattle.transitions.specs.Types.{Level}
use Rattle.transitions.specs.Types.{Rate}
use Rattle.transitions.specs.Types.{Time}
use Rattle.level_control.specs.Judge.{time_refused, turn_tests, move_to_level_tests, move_tests, overflows_from, step_overflows, step_tests, stop_tests, scene_tests, level_tests, rate_tests, command_tests_of}
use Rattle.level_control.specs.Handle.{number_of}
use Rattle.level_control.specs.Moves.{rate_by}
use Rattle.level_control.specs.Starts.{distance, step_to}
use Rattle.level_control.specs.Targets.{stepped_time}
use Rattle.level_control.specs.declared.state.LevelControlState.{LevelControlState}
use Rattle.level_control.proofs.EventLaws.{options_stop_in}
use Rattle.level_control.proofs.StartLaws.{continues_is, step_is}
use Rattle.event_theorems.specs.Table.{phase_asked, request_open, ended, wait_over, product_too_large, outside, is_rate0, number_by}
use Rattle.event_theorems.specs.ByField.{options_stop}
use Rattle.transitions.specs.declared.causes.Refusal.TheVariants.{InvalidCommand}
use Rattle.transitions.specs.declared.events.Command.TheVariants as command

pub open_is : (t : Task) → task_open t ≡ request_open t
open_is task.Rest = refl
open_is task.StartUp = refl
open_is (task.Fade f) = by f.phase
  where
    by : (p : Phase) → phase_open p ≡ phase_asked p
    by (Asked since) = refl
    by (Waiting until) = refl
open_is (task.Move m) = by m.phase
  where
    by : (p : Phase) → phase_open p ≡ phase_asked p
    by (Asked since) = refl
    by (Waiting until) = refl
open_is (task.OnReaction r) = refl

due_is : (t : Task) (now : Micros) → task_due t now ≡ wait_over t now
due_is task.Rest now = refl
due_is task.StartUp now = refl
due_is (task.Fade f) now = by f.phase
  where
    by : (p : Phase) → phase_due p now ≡ ended p now
    by (Asked since) = refl
    by (Waiting until) = refl
due_is (task.Move m) now = by m.phase
  where
    by : (p : Phase) → phase_due p now ≡ ended p now
    by (Asked since) = refl
    by (Waiting until) = refl
due_is (task.OnReaction r) now = refl

outside_is : (l : Level) (s : LevelControlState) → is_outside l s.settings.range.min s.settings.range.max ≡ outside l s
outside_is (Some l) s = refl
outside_is None s = refl

rate_0_is : (r : Rate) → is_zero_rate r ≡ is_rate0 r
rate_0_is (Some r) = refl
rate_0_is None = refl

invalid_0 : (n : ℕ) (b : Bool) → is_invalid (cond b (Err InvalidCommand) (Ok n)) ≡ b
invalid_0 n true = refl
invalid_0 n false = refl

pub rate_is : (s : LevelControlState) (r : MoveRequest)
    → is_invalid (rate_by s r) ≡ eqb (move_rate r.rate s.attributes.default_move_rate s.settings.fastest_rate) 0
unfolding rate_by rate_in_force
rate_is s r = by r.rate s.attributes.default_move_rate
  where
    by : (given default : Rate) → is_invalid (rate_in_force given default s.settings.fastest_rate) ≡ eqb (move_rate given default s.settings.fastest_rate) 0
    by (Some n) default = invalid_0 n (eqb n 0)
    by None (Some n) = invalid_0 n (eqb n 0)
    by None None = invalid_0 s.settings.fastest_rate (eqb s.settings.fastest_rate 0)

overflow_by : (t x : Tenths) (b c : Bool) → is_overflow (cond b (Ok t) (scaled_time (cond c None (Some x)))) ≡ (not b && c)
overflow_by t x true c = refl
overflow_by t x false true = refl
overflow_by t x false false = refl

product_is : (s : LevelControlState) (r : StepRequest) → step_overflows s r ≡ product_too_large s.current_level r.transition_time s r
unfolding step_overflows stepped_time step_time scaled_floor
product_is s r = from s.current_level
  where
    within : (c : ℕ) (t : Time)
        → is_overflow (step_time t (distance (step_to r.mode s c r.step_size) c) r.step_size) ≡ product_too_large (Some c) t s r
    within c (Some t) =
        let actual = distance (step_to r.mode s c r.step_size) c in
        overflow_by t (tenths (t.0 * actual / r.step_size)) (eqb actual r.step_size) (ltb 65535 (t.0 * actual))
    within c None = refl

    from : (l : Level) → overflows_from l s r ≡ product_too_large l r.transition_time s r
    from (Some c) =
        ap (λ (x : ℕ). is_overflow (step_time r.transition_time (distance x c) r.step_size)) (step_is s c r) ∙ within c r.transition_time
    from None = none r.transition_time
      where
        none : (t : Time) → false ≡ product_too_large None t s r
        none (Some t) = refl
        none None = refl

module _ (s : LevelControlState) (at : Micros) (on : Bool) where
  number_at : (k : EventKind) → number_of s (event at on k) ≡ number_by s (event at on k)
  unfolding number_of number_by first_cause turn_tests time_refused command_tests_of move_to_level_tests move_tests step_tests stop_tests scene_tests level_tests rate_tests
  number_at kind.StartUp = rw (open_is s.task) refl
  number_at (kind.Command (command.MoveToLevel r)) = rw (open_is s.task, continues_is s r.options.with_on_off on r.options.options_mask r.options.options_override) refl
  number_at (kind.Command (command.Move r)) =
      rw (open_is s.task, rate_is s r, continues_is s r.options.with_on_off on r.options.options_mask r.options.options_override) refl
  number_at (kind.Command (command.Step r)) =
      rw (open_is s.task, continues_is s r.options.with_on_off on r.options.options_mask r.options.options_override, product_is s r) refl
  number_at (kind.Command (command.Stop r)) = rw (open_is s.task, continues_is s r.with_on_off on r.options_mask r.options_override) refl
  number_at (kind.Answer a) = rw (open_is s.task) refl
  number_at kind.Wake = rw (open_is s.task, due_is s.task at) refl
  number_at (kind.Command (command.OnOffChanged value)) = rw (open_is s.task) refl
  number_at (kind.Command (command.Scene r)) = by r.level
    where
      by : (l : Level) → number_of s (event at on (kind.Command (command.Scene (record { level = l; transition_time = r.transition_time }))))
          ≡ number_by s (event at on (kind.Command (command.Scene (record { level = l; transition_time = r.transition_time }))))
      by (Some level) = rw (open_is s.task, continues_is s false on (record { 0 = 0 }) (record { 0 = 0 })) refl
      by None = rw (open_is s.task) refl
  number_at (kind.Command (command.DeviceUpdate level)) = rw (open_is s.task) refl
  number_at (kind.Command command.DeviceStop) = rw (open_is s.task) refl
  number_at (kind.Command (command.SetOnLevel level)) = rw (open_is s.task, outside_is level s) refl
  number_at (kind.Command (command.SetDefaultMoveRate r)) = rw (open_is s.task, rate_0_is r) refl
  number_at (kind.Command (command.SetStartUpCurrentLevel level)) = rw (open_is s.task, outside_is level s) refl
  number_at (kind.Command command.FactoryReset) = rw (open_is s.task) refl

  -- the row of the options
  options_stop_at : (k : EventKind) → options_stop_in s (event at on k) ≡ options_stop s (event at on k)
  unfolding command_tests_of move_to_level_tests move_tests step_tests stop_tests scene_tests level_tests rate_tests
  options_stop_at kind.StartUp = refl
  options_stop_at (kind.Command (command.MoveToLevel r)) =
      rw (continues_is s r.options.with_on_off on r.options.options_mask r.options.options_override) (sym (or-false _))
  options_stop_at (kind.Command (command.Move r)) = rw (continues_is s r.options.with_on_off on r.options.options_mask r.options.options_override) (sym (or-false _))
  options_stop_at (kind.Command (command.Step r)) = rw (continues_is s r.options.with_on_off on r.options.options_mask r.options.options_override) (sym (or-false _))
  options_stop_at (kind.Command (command.Stop r)) = rw (continues_is s r.with_on_off on r.options_mask r.options_override) (sym (or-false _))
  options_stop_at (kind.Answer a) = refl
  options_stop_at kind.Wake = refl
  options_stop_at (kind.Command (command.OnOffChanged value)) = refl
  options_stop_at (kind.Command (command.Scene r)) = by r.level
    where
      by : (l : Level) → options_stop_in s (event at on (kind.Command (command.Scene (record { level = l; transition_time = r.transition_time }))))
          ≡ options_stop s (event at on (kind.Command (command.Scene (record { level = l; transition_time = r.transition_time }))))
      by (Some level) = rw (continues_is s false on (record { 0 = 0 }) (record { 0 = 0 })) (sym (or-false _))
      by None = refl
  options_stop_at (kind.Command (command.DeviceUpdate level)) = refl
  options_stop_at (kind.Command command.DeviceStop) = refl
  options_stop_at (kind.Command (command.SetOnLevel level)) = refl
  options_stop_at (kind.Command (command.SetDefaultMoveRate r)) = refl
  options_stop_at (kind.Command (command.SetStartUpCurrentLevel level)) = refl
  options_stop_at (kind.Command command.FactoryReset) = refl

pub number_is : (s : LevelControlState) (e : Event) → number_of s e ≡ number_by s e
number_is s e = number_at s e.moment.at e.moment.on_off e.kind

pub options_stop_is : (s : LevelControlState) (e : Event) → options_stop_in s e ≡ options_stop s e
options_stop_is s e = options_stop_at s e.moment.at e.moment.on_off e.kind
