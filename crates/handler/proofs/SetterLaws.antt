-- What a setter sets, where it is not refused. Assumes nothing.
use Rattle.std.specs.Prelude.{None, is_some}
use Prim.Native.Nat.{ℕ}
use mathlib.Core.Bool.{Bool, true, false, cond, true≢false}
use mathlib.Core.Path.{◌≡◌, refl, sym, ap, subst}
use Rattle.transitions.specs.Causes.{first_cause}
use Rattle.transitions.specs.Tasks.{task_open}
use Rattle.transitions.specs.Types.{Level, Rate, is_outside, is_zero_rate}
use Rattle.transitions.specs.declared.events.Command.TheVariants as command
use Rattle.transitions.specs.declared.events.Event.{Event}
use Rattle.transitions.specs.declared.events.EventKind.TheVariants as kind
use Rattle.transitions.specs.declared.types.Moment.{Moment}
use Rattle.level_control.specs.Answer.{Outcome, answer_of, packed, refusal_of}
use Rattle.level_control.specs.Judge.{time_refused, turn_tests, level_tests, rate_tests, command_tests_of}
use Rattle.level_control.specs.Handle.{number_of, run}
use Rattle.level_control.specs.Setters.{on_level_set, default_move_rate_set, start_up_current_level_set}
use Rattle.level_control.specs.declared.state.LevelControlState.{LevelControlState}
use Rattle.level_control.proofs.EventLaws.{event_number, event_runs}
use Rattle.handler.specs.Answers.{OnLevelSet, DefaultMoveRateSet, StartUpCurrentLevelSet, command_answer}

-- without a refusal the number is 0
accepted : (late asked value : Bool) (n : ℕ) → (refusal_of n ≡ None → ⊥) → refusal_of (cond late 5 (cond asked 6 (cond value n 0))) ≡ None
    → cond late 5 (cond asked 6 (cond value n 0)) ≡ 0
accepted true asked value n w h = absurd (true≢false (ap is_some h))
accepted false true value n w h = absurd (true≢false (ap is_some h))
accepted false false true n w h = absurd (w h)
accepted false false false n w h = refl

module _ (s : LevelControlState) (m : Moment) where
  level_number : (e : Event) (value : Bool) (n : ℕ) → (refusal_of n ≡ None → ⊥)
      → number_of s e ≡ cond (time_refused s m.at) 5 (cond (task_open s.task) 6 (cond value n 0))
      → refusal_of (number_of s e) ≡ None → number_of s e ≡ 0
  level_number e value n w is h =
      subst (λ (x : ℕ). x ≡ 0) (sym is)
      (accepted (time_refused s m.at) (task_open s.task) value n w (subst (λ (x : ℕ). refusal_of x ≡ None) is h))

  pub set_on_level_sets : (level : Level) → OnLevelSet s level (command_answer s m (command.SetOnLevel level))
  unfolding packed answer_of number_of first_cause turn_tests command_tests_of level_tests run on_level_set
  set_on_level_sets level h =
      let e : Event = record { moment = m; kind = kind.Command (command.SetOnLevel level) } in
      let outside : Bool = is_outside level s.settings.range.min s.settings.range.max in
      let z = level_number e outside 13 (λ h. true≢false (ap is_some h)) refl (subst (λ (x : ℕ). refusal_of x ≡ None) (event_number s e) h) in
      ap (λ (o : Outcome). o.state.attributes) (event_runs s e z refl)

  pub set_default_move_rate_sets : (rate : Rate) → DefaultMoveRateSet s rate (command_answer s m (command.SetDefaultMoveRate rate))
  unfolding packed answer_of number_of first_cause turn_tests command_tests_of rate_tests run default_move_rate_set
  set_default_move_rate_sets rate h =
      let e : Event = record { moment = m; kind = kind.Command (command.SetDefaultMoveRate rate) } in
      let z = level_number e (is_zero_rate rate) 14 (λ h. true≢false (ap is_some h)) refl (subst (λ (x : ℕ). refusal_of x ≡ None) (event_number s e) h) in
      ap (λ (o : Outcome). o.state.attributes) (event_runs s e z refl)

  pub set_start_up_current_level_sets : (level : Level) → StartUpCurrentLevelSet s level (command_answer s m (command.SetStartUpCurrentLevel level))
  unfolding packed answer_of number_of first_cause turn_tests command_tests_of level_tests run start_up_current_level_set
  set_start_up_current_level_sets level h =
      let e : Event = record { moment = m; kind = kind.Command (command.SetStartUpCurrentLevel level) } in
      let outside : Bool = is_outside level s.settings.range.min s.settings.range.max in
      let z = level_number e outside 13 (λ h. true≢false (ap is_some h)) refl (subst (λ (x : ℕ). refusal_of x ≡ None) (event_number s e) h) in
      ap (λ (o : Outcome). o.state.attributes) (event_runs s e z refl)
