-- Where its turn has come, a command with invalid values is refused with 10, accepted or not. Assumes nothing.
use Rattle.std.specs.Prelude.{Some, None}
use Prim.Native.Nat.{ℕ, ◌≤◌}
use mathlib.Core.Bool.{Bool, true, false, cond, false≢true}
use mathlib.Core.Path.{◌≡◌, refl, ap, ◌∙◌}
use native.Mathlib.Omega.{arith}
use borrow.Author.Tests.{le-ltb}
use lib.Dec.{eqb}
use Rattle.units.specs.declared.Micros.{Micros}
use Rattle.transitions.specs.Causes.{first_cause}
use Rattle.transitions.specs.Commands.{rate_in_force, is_invalid}
use Rattle.transitions.specs.Events.{event}
use Rattle.transitions.specs.Tasks.{task_open}
use Rattle.transitions.specs.declared.events.Command.{Command}
use Rattle.transitions.specs.declared.events.Event.{Event}
use Rattle.transitions.specs.declared.events.EventKind.{EventKind}
use Rattle.transitions.specs.declared.events.EventKind.TheVariants as kind
use Rattle.transitions.specs.declared.events.MoveRequest.{MoveRequest}
use Rattle.transitions.specs.declared.events.StepRequest.{StepRequest}
use Rattle.transitions.specs.Types.{Rate}
use Rattle.level_control.specs.Judge.{latest, time_refused, turn_tests, move_tests, step_tests, command_tests_of}
use Rattle.level_control.specs.Handle.{number_of}
use Rattle.level_control.specs.Moves.{rate_by}
use Rattle.level_control.specs.declared.state.LevelControlState.{LevelControlState}
use Rattle.level_control.proofs.EventLaws.{event_number}
use Rattle.event_theorems.proofs.NumberLaws.{open_is}
use Rattle.matter.specs.Matter.{Invalid, NotExecuted, NoEffect, Goes, step, move_is_invalid}
use Rattle.matter.specs.Agreement.{Does, HasTurn, passes}
use Rattle.transitions.specs.declared.events.Command.TheVariants as command

is_in_time : (s : LevelControlState) (at : Micros) → s.last_accepted.0 ≤ at.0 → at.0 ≤ latest.0 → time_refused s at ≡ false
unfolding time_refused
is_in_time s at low high = rw (le-ltb at.0 s.last_accepted.0 low) (le-ltb latest.0 at.0 high)

tenth : (s : LevelControlState) (at : Micros) (on : Bool) (c : Command) → time_refused s at ≡ false → task_open s.task ≡ false
    → (command_tests_of s on (kind.Command c)).invalid_command ≡ true → number_of s (event at on (kind.Command c)) ≡ 10
unfolding number_of first_cause turn_tests
tenth s at on c time shut invalid = rw (time, shut, invalid) refl

refused_with_10 : (s : LevelControlState) (e : Event) (c : Command) → e.kind ≡ kind.Command c → HasTurn s e
    → (command_tests_of s e.moment.on_off (kind.Command c)).invalid_command ≡ true → Does s e Invalid
refused_with_10 s e c k turn invalid =
    event_number s e
    ∙ ap (λ (x : EventKind). number_of s (event e.moment.at e.moment.on_off x)) k
    ∙ tenth s e.moment.at e.moment.on_off c (is_in_time s e.moment.at turn.not_before turn.not_after) (open_is s.task ∙ turn.none_open) invalid

pub step_invalid : (s : LevelControlState) (e : Event) (r : StepRequest) (c : ℕ)
    → e.kind ≡ kind.Command (command.Step r) → HasTurn s e
    → step (passes s e r.options.with_on_off r.options.options_mask r.options.options_override) r.mode s.settings.range.min s.settings.range.max c
    r.step_size r.transition_time ≡ Invalid
    → Does s e Invalid
unfolding command_tests_of step_tests
step_invalid s e r c k turn says = refused_with_10 s e (command.Step r) k turn (by (eqb r.step_size 0) _ _ _ _ says)
  where
    by : (zero executed same : Bool) (to tenths : ℕ) → cond zero Invalid (cond executed (cond same NoEffect (Goes c to tenths)) NotExecuted) ≡ Invalid → zero ≡ true
    by true executed same to tenths q = refl
    by false true true to tenths q = absurd (let z : ◌≡◌ {A = ℕ} 0 1 = cc in omega arith)
    by false true false to tenths q = absurd (let z : ◌≡◌ {A = ℕ} 0 1 = cc in omega arith)
    by false false same to tenths q = absurd (let z : ◌≡◌ {A = ℕ} 0 1 = cc in omega arith)

pub move_invalid : (s : LevelControlState) (e : Event) (r : MoveRequest)
    → e.kind ≡ kind.Command (command.Move r) → HasTurn s e → move_is_invalid r.rate ≡ true → Does s e Invalid
unfolding command_tests_of move_tests rate_by rate_in_force
move_invalid s e r k turn zero = refused_with_10 s e (command.Move r) k turn (by r.rate zero)
  where
    by : (rate : Rate) → move_is_invalid rate ≡ true → is_invalid (rate_in_force rate s.attributes.default_move_rate s.settings.fastest_rate) ≡ true
    by (Some n) q = rw q refl
    by None q = absurd (false≢true q)
