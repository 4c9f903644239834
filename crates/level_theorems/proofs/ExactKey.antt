-- The remaining time that a fade shows: before the first answer what was shown, then the exact key. Assumes nothing.
use Prim.Native.Nat.{ℕ, ◌+◌, ◌-◌, ◌*◌, ◌/◌, ◌≤◌, ◌<◌}
use mathlib.Core.Bool.{Bool, true, false, not, ◌||◌, false≢true}
use mathlib.Core.Path.{◌≡◌, refl, ◌∙◌}
use mathlib.Core.List.{List, [], ◌∷◌}
use native.Mathlib.Omega.{arith}
use native.Mathlib.Nat.{mul_comm}
use borrow.Author.Tests.{eqb-true, eqb-false}
use lib.Dec.{eqb}
use Rattle.std.proofs.lemmas.Bool.{and_parts}
use Rattle.units.specs.declared.Micros.{Micros}
use Rattle.units.specs.declared.Tenths.{Tenths}
use Rattle.transitions.specs.Events.{event}
use Rattle.transitions.specs.Tasks.{next_move}
use Rattle.transitions.specs.declared.events.DeviceAnswer.TheVariants as device
use Rattle.transitions.specs.declared.events.Event.{Event}
use Rattle.transitions.specs.declared.events.EventKind.{EventKind}
use Rattle.transitions.specs.declared.events.EventKind.TheVariants as kind
use Rattle.transitions.specs.declared.tasks.Motion.{Motion}
use Rattle.transitions.specs.declared.tasks.MoveStep.{MoveStep}
use Rattle.transitions.specs.declared.tasks.MoveStep.TheVariants as step
use Rattle.transitions.specs.declared.tasks.Task.{Task}
use Rattle.transitions.specs.declared.tasks.Task.TheVariants as task
use Rattle.level_control.specs.State.{accept}
use Rattle.level_control.specs.Targets.{quiet}
use Rattle.level_control.specs.Fades.{fade_woken}
use Rattle.level_control.specs.Moves.{move_by, move_goes_on}
use Rattle.level_control.specs.Handle.{woken_in, woken, run, number_of}
use Rattle.level_control.specs.Judge.{command_tests_of}
use Rattle.level_control.specs.Run.{Run, Pending, accepted, is_onward, only_onward, started, next, play}
use Rattle.level_control.specs.Starts.{distance}
use Rattle.level_theorems.specs.FadeTheorems.{ExactKey}
use Rattle.level_theorems.specs.Runs.{given_in}
use Rattle.level_control.specs.declared.state.LevelControlState.{LevelControlState}
use Rattle.level_control.proofs.TimeLaws.{shown_of}
use Rattle.level_control.proofs.EventLaws.{event_number, event_runs, run_zero}
use Rattle.level_control.proofs.FadeInvariant.{Inv, next_is, refused_is}
use Rattle.level_control.proofs.EveryFade.{kept}
use Rattle.level_theorems.proofs.StartTimes.{start_time}
use Rattle.transitions.specs.declared.events.Command.TheVariants as command

-- Before the first answer.

-- a wake does not write the remaining time, whatever waits for it
woken_time : (s : LevelControlState) (at : Micros) (on : Bool) → (woken s at on).state.remaining_time ≡ s.remaining_time
unfolding woken fade_woken move_goes_on
woken_time s at on = by s.task
  where
    move : (m : Motion) (n : MoveStep) → (move_by n (quiet s) m at on).state.remaining_time ≡ s.remaining_time
    move m step.Lost = refl
    move m step.Ends = refl
    move m (step.Asks asked) = refl

    by : (x : Task) → (woken_in x s at on).state.remaining_time ≡ s.remaining_time
    by task.Rest = refl
    by task.StartUp = refl
    by (task.Fade f) = refl
    by (task.Move m) = move m.motion (next_move s.current_level m.motion.mode)
    by (task.OnReaction r) = refl

abbrev Quiet : Tenths → Run → Type 0
Quiet m r = r.answers ≡ 0 → r.state.remaining_time ≡ m

module _ (m : Tenths) where
  quiet_wake : (r : Run) (at : Micros) (on : Bool) → number_of r.state (event at on kind.Wake) ≡ 0 → Quiet m r → Quiet m (next r (event at on kind.Wake))
  unfolding command_tests_of run
  quiet_wake r at on z h =
      let e : Event = event at on kind.Wake in
      let s : LevelControlState = accept r.state at in
      rw (next_is 0 0 1 (omega arith) (omega arith) r e (run s kind.Wake at on) (event_runs r.state e z refl) (run_zero s kind.Wake at on))
      (λ none. woken_time s at on ∙ h (omega arith))

  quiet_answer : (r : Run) (at : Micros) (on : Bool) (v : ℕ) → number_of r.state (event at on (kind.Answer (device.Level v))) ≡ 0
      → Quiet m (next r (event at on (kind.Answer (device.Level v))))
  unfolding command_tests_of
  quiet_answer r at on v z =
      let e : Event = event at on (kind.Answer (device.Level v)) in
      let s : LevelControlState = accept r.state at in
      rw (next_is 0 0 1 (omega arith) (omega arith) r e (run s (kind.Answer (device.Level v)) at on) (event_runs r.state e z refl) (run_zero s (kind.Answer (device.Level v)) at on))
      (λ none. absurd (omega arith))

  quiet_onward : (r : Run) (at : Micros) (on : Bool) (k : EventKind) → is_onward k ≡ true → number_of r.state (event at on k) ≡ 0
      → Quiet m r → Quiet m (next r (event at on k))
  quiet_onward r at on kind.StartUp w z h = absurd (false≢true w)
  quiet_onward r at on (kind.Command (command.MoveToLevel x)) w z h = absurd (false≢true w)
  quiet_onward r at on (kind.Command (command.Move x)) w z h = absurd (false≢true w)
  quiet_onward r at on (kind.Command (command.Step x)) w z h = absurd (false≢true w)
  quiet_onward r at on (kind.Command (command.Stop x)) w z h = absurd (false≢true w)
  quiet_onward r at on (kind.Answer (device.Level v)) w z h = quiet_answer r at on v z
  quiet_onward r at on (kind.Answer device.Missing) w z h = absurd (false≢true w)
  quiet_onward r at on (kind.Answer device.Failed) w z h = absurd (false≢true w)
  quiet_onward r at on kind.Wake w z h = quiet_wake r at on z h
  quiet_onward r at on (kind.Command (command.OnOffChanged x)) w z h = absurd (false≢true w)
  quiet_onward r at on (kind.Command (command.Scene x)) w z h = absurd (false≢true w)
  quiet_onward r at on (kind.Command (command.DeviceUpdate x)) w z h = absurd (false≢true w)
  quiet_onward r at on (kind.Command command.DeviceStop) w z h = absurd (false≢true w)
  quiet_onward r at on (kind.Command (command.SetOnLevel x)) w z h = absurd (false≢true w)
  quiet_onward r at on (kind.Command (command.SetDefaultMoveRate x)) w z h = absurd (false≢true w)
  quiet_onward r at on (kind.Command (command.SetStartUpCurrentLevel x)) w z h = absurd (false≢true w)
  quiet_onward r at on (kind.Command command.FactoryReset) w z h = absurd (false≢true w)

  quiet_next : (r : Run) (e : Event) → (not (accepted r.state e) || is_onward e.kind) ≡ true → Quiet m r → Quiet m (next r e)
  quiet_next r e w h = go (eqb (number_of r.state e) 0) refl
    where
      go : (b : Bool) → eqb (number_of r.state e) 0 ≡ b → Quiet m (next r e)
      go true q =
          let onward : is_onward e.kind ≡ true = rw (event_number r.state e, q) at w in
          quiet_onward r e.moment.at e.moment.on_off e.kind onward (eqb-true (number_of r.state e) 0 q) h
      go false q = rw (refused_is 0 0 1 (omega arith) (omega arith) r e (eqb-false (number_of r.state e) 0 q)) h

  quiet_play : (es : List Event) (r : Run) → only_onward r es ≡ true → Quiet m r → Quiet m (play r es)
  quiet_play [] r w h = h
  quiet_play (e ∷ es) r w h =
      let one = not (accepted r.state e) || is_onward e.kind in
      quiet_play es (next r e) (and_parts one (only_onward (next r e) es) w).1 (quiet_next r e (and_parts one (only_onward (next r e) es) w).0 h)

-- From the first answer on.

key : (T n k left : ℕ) → T ≤ 65535 → left + k * (T * 100 / n) ≡ T * 100 → shown_of left ≡ (100 * T - k * (100 * T / n) + 99) / 100
key T n k left small whole =
    rw (mul_comm 100 T)
    (let rest : T * 100 - k * (T * 100 / n) ≡ left = omega arith in rw rest (omega arith))

exact_in : (c t T : ℕ) → T ≤ 65535 → (s : LevelControlState) (asked : List ℕ) (k : ℕ) (p : Pending) (x : Task) → Inv c t T asked k s.remaining_time.0 p x
    → 1 ≤ k → k < distance t c → s.remaining_time.0 ≡ (100 * T - k * (100 * T / distance t c) + 99) / 100
exact_in c t T small s asked k p task.Rest h one more = absurd (omega (arith, h.0))
exact_in c t T small s asked k p task.StartUp h one more = absurd h
exact_in c t T small s asked k p (task.Fade f) h one more = h.0.shows one ∙ key T (distance t c) k f.remaining.0 small h.0.whole
exact_in c t T small s asked k p (task.Move m) h one more = absurd h
exact_in c t T small s asked k p (task.OnReaction r) h one more = absurd h

pub exact_key : ExactKey
exact_key o c t T es w ne pos small h =
    let r : Run = play (started o) es in
    record {
      before = quiet_play (given_in w).remaining_time es (started o) h (λ none. start_time o c t T w);
      exact = exact_in c t T small r.state r.asked r.answers r.pending r.state.task (kept o c t T es w pos small h);
    }
