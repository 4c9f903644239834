-- The start of a fade does not write the remaining time. Assumes nothing.
use Rattle.std.specs.Prelude.{Some, None, Result, Ok, Err}
use Prim.Native.Nat.{ℕ}
use mathlib.Core.Bool.{Bool, true, false}
use mathlib.Core.Path.{◌≡◌, refl, ap, subst, ◌∙◌}
use mathlib.Core.List.{List}
use Rattle.units.specs.declared.Micros.{Micros}
use Rattle.transitions.specs.Events.{event}
use Rattle.transitions.specs.Tasks.{begin_fade}
use Rattle.transitions.specs.Types.{level_or}
use Rattle.transitions.specs.declared.events.DeviceAnswer.TheVariants as device
use Rattle.transitions.specs.declared.events.Event.{Event}
use Rattle.transitions.specs.declared.events.EventKind.{EventKind}
use Rattle.transitions.specs.declared.events.EventKind.TheVariants as kind
use Rattle.transitions.specs.declared.events.StepRequest.{StepRequest}
use Rattle.transitions.specs.declared.tasks.Begin.{Begin}
use Rattle.transitions.specs.declared.tasks.Begin.TheVariants as begin
use Rattle.transitions.specs.declared.tasks.FadeRequest.{FadeRequest}
use Rattle.transitions.specs.Types.{Level}
use Rattle.level_control.specs.State.{accept}
use Rattle.level_control.specs.Answer.{Outcome}
use Rattle.level_control.specs.Reports.{set_level, told_level}
use Rattle.level_control.specs.Targets.{go_to_by, go_to, moved_to_level, stepped_time, stepped_by, stepped_from, stepped, recalled_at, recalled}
use Rattle.level_control.specs.Reactions.{turned_off, switched, on_to, on_goes_on}
use Rattle.level_control.specs.Handle.{run, number_of, event_of}
use Rattle.level_control.specs.Run.{accepted, all_refused, state_after}
use Rattle.level_control.specs.Starts.{Fades, start_of}
use Rattle.level_control.specs.EveryFade.{Starts, directly, after_on}
use Rattle.level_theorems.specs.Runs.{given_in}
use Rattle.level_control.specs.Reports.{Told}
use Rattle.level_control.specs.declared.state.LevelControlState.{LevelControlState}
use Rattle.level_control.proofs.EventLaws.{event_options_stop, event_runs, options_stop_in}
use Rattle.level_control.proofs.StartLaws.{no_fade, reacting, on_is, refused_stays, on_answer, on_answered_is}
use Rattle.level_control.proofs.EveryFade.{accepted_zero}
use Rattle.units.specs.declared.Tenths.{Tenths}
use Rattle.transitions.specs.declared.causes.Refusal.{Refusal}
use Rattle.transitions.specs.declared.events.Command.TheVariants as command

-- What does not write the remaining time.

go_to_time : (t : Told) (r : FadeRequest) (at : Micros) (on : Bool) → (go_to t r at on).state.remaining_time ≡ t.state.remaining_time
unfolding go_to
go_to_time t r at on = by (begin_fade t.state.current_level r at)
  where
    by : (b : Begin) → (go_to_by b t r on).state.remaining_time ≡ t.state.remaining_time
    by begin.Reached = refl
    by begin.Lost = refl
    by (begin.Starts f) = refl

stepped_time_keeps : (s : LevelControlState) (r : StepRequest) (at : Micros) (on : Bool) → (stepped s r at on).state.remaining_time ≡ s.remaining_time
unfolding stepped
stepped_time_keeps s r at on = by s.current_level
  where
    takes : (c : ℕ) (x : Result Tenths Refusal) → (stepped_by x s c r at on).state.remaining_time ≡ s.remaining_time
    takes c (Ok time) = go_to_time _ _ at on
    takes c (Err cause) = refl

    by : (l : Level) → (stepped_from l s r at on).state.remaining_time ≡ s.remaining_time
    by (Some c) = takes c (stepped_time s c r)
    by None = refl

-- an event that starts a fade
run_time : (s : LevelControlState) (at : Micros) (on : Bool) (c t T : ℕ) (k : EventKind) → start_of s on k ≡ Fades c t T
    → (run (accept s at) k at on).state.remaining_time ≡ s.remaining_time
unfolding start_of run moved_to_level recalled switched turned_off
run_time s at on c t T kind.StartUp e = no_fade c t T e
run_time s at on c t T (kind.Command (command.MoveToLevel r)) e = go_to_time _ _ at on
run_time s at on c t T (kind.Command (command.Move r)) e = no_fade c t T e
run_time s at on c t T (kind.Command (command.Step r)) e = stepped_time_keeps (accept s at) r at on
run_time s at on c t T (kind.Command (command.Stop r)) e = no_fade c t T e
run_time s at on c t T (kind.Answer a) e = no_fade c t T e
run_time s at on c t T kind.Wake e = no_fade c t T e
run_time s at on c t T (kind.Command (command.OnOffChanged true)) e = no_fade c t T e
run_time s at on c t T (kind.Command (command.OnOffChanged false)) e = go_to_time _ _ at on
run_time s at on c t T (kind.Command (command.Scene r)) e = by r.level
  where
    by : (l : Level) → (recalled_at l (accept s at) r at on).state.remaining_time ≡ s.remaining_time
    by (Some level) = go_to_time _ _ at on
    by None = refl
run_time s at on c t T (kind.Command (command.DeviceUpdate level)) e = no_fade c t T e
run_time s at on c t T (kind.Command command.DeviceStop) e = no_fade c t T e
run_time s at on c t T (kind.Command (command.SetOnLevel level)) e = no_fade c t T e
run_time s at on c t T (kind.Command (command.SetDefaultMoveRate rate)) e = no_fade c t T e
run_time s at on c t T (kind.Command (command.SetStartUpCurrentLevel level)) e = no_fade c t T e
run_time s at on c t T (kind.Command command.FactoryReset) e = no_fade c t T e

direct_time : (s : LevelControlState) (e : Event) (c t T : ℕ) → number_of s e ≡ 0 → start_of s e.moment.on_off e.kind ≡ Fades c t T
    → (event_of s e).state.remaining_time ≡ s.remaining_time
direct_time s e c t T z named = by (options_stop_in s e) refl
  where
    by : (b : Bool) → options_stop_in s e ≡ b → (event_of s e).state.remaining_time ≡ s.remaining_time
    by true q = ap (λ (o : Outcome). o.state.remaining_time) (event_options_stop s e z q)
    by false q =
        ap (λ (o : Outcome). o.state.remaining_time) (event_runs s e z q)
        ∙ run_time s e.moment.at e.moment.on_off c t T e.kind named

-- the answer to the on reaction's request
on_answer_time : (s : LevelControlState) (before : Level) (at : Micros) (on : Bool) (v : ℕ)
    → (on_answer s before at on v).state.remaining_time ≡ s.remaining_time
unfolding on_goes_on told_level set_level
on_answer_time s before at on v = by (level_or s.attributes.on_level before)
  where
    told : Told
    told = told_level (accept s at) (Some v) at false

    by : (l : Level) → (on_to l told at on).state.remaining_time ≡ s.remaining_time
    by (Some l) = go_to_time _ _ at on
    by None = refl

after_on_time : (s : LevelControlState) (at₀ : Micros) (on₀ : Bool) (k : EventKind) (es : List Event) (at : Micros) (on : Bool) (a : EventKind) (v : ℕ)
    → accepted s (event at₀ on₀ k) ≡ true → k ≡ kind.Command (command.OnOffChanged true) → all_refused (event_of s (event at₀ on₀ k)).state es ≡ true
    → accepted (state_after (event_of s (event at₀ on₀ k)).state es) (event at on a) ≡ true → a ≡ kind.Answer (device.Level v)
    → (event_of (state_after (event_of s (event at₀ on₀ k)).state es) (event at on a)).state.remaining_time ≡ s.remaining_time
after_on_time s at₀ on₀ k es at on a v ok q refusals answered r =
    let ok' : accepted s (event at₀ on₀ (kind.Command (command.OnOffChanged true))) ≡ true = subst (λ (x : EventKind). accepted s (event at₀ on₀ x) ≡ true) q ok in
    let first : (event_of s (event at₀ on₀ k)).state ≡ reacting s at₀ =
    ap (λ (x : EventKind). (event_of s (event at₀ on₀ x)).state) q
    ∙ ap (λ (o : Outcome). o.state) (on_is s at₀ on₀ (accepted_zero s (event at₀ on₀ (kind.Command (command.OnOffChanged true))) ok')) in
    let same : state_after (event_of s (event at₀ on₀ k)).state es ≡ reacting s at₀ = refused_stays _ es refusals ∙ first in
    let there : accepted (reacting s at₀) (event at on (kind.Answer (device.Level v))) ≡ true =
    subst (λ (x : EventKind). accepted (reacting s at₀) (event at on x) ≡ true) r
    (subst (λ (x : LevelControlState). accepted x (event at on a) ≡ true) same answered) in
    ap (λ (x : LevelControlState). (event_of x (event at on a)).state.remaining_time) same
    ∙ ap (λ (x : EventKind). (event_of (reacting s at₀) (event at on x)).state.remaining_time) r
    ∙ ap (λ (o : Outcome). o.state.remaining_time)
    (on_answered_is (reacting s at₀) (record { before = s.current_level }) at on v refl (accepted_zero (reacting s at₀) (event at on (kind.Answer (device.Level v))) there))
    ∙ on_answer_time (reacting s at₀) s.current_level at on v

-- what is shown when a fade has started is what was shown before
pub start_time : (o : Outcome) (c t T : ℕ) (w : Starts o c t T) → o.state.remaining_time ≡ (given_in w).remaining_time
start_time _ _ _ _ (directly s e c t T ok named) = direct_time s e c t T (accepted_zero s e ok) named
start_time _ _ _ _ (after_on s e a es v c t T ok q refusals answered r named) =
    after_on_time s e.moment.at e.moment.on_off e.kind es a.moment.at a.moment.on_off a.kind v ok q refusals answered r
