-- An answer to an open request and a wake that is due are accepted, until the clock ends. Assumes nothing.
use Prim.Native.Nat.{◌≤◌}
use mathlib.Core.Bool.{Bool, true, false}
use mathlib.Core.Path.{◌≡◌, refl, sym, ap, subst, ◌∙◌}
use borrow.Author.Tests.{eq-eqb, le-ltb, le-leb}
use Rattle.units.specs.declared.Micros.{Micros}
use Rattle.transitions.specs.Causes.{first_cause}
use Rattle.transitions.specs.Events.{event}
use Rattle.transitions.specs.Tasks.{task_open, task_due, phase_open, phase_due}
use Rattle.transitions.specs.declared.events.DeviceAnswer.{DeviceAnswer}
use Rattle.transitions.specs.declared.events.Event.{Event}
use Rattle.transitions.specs.declared.events.EventKind.TheVariants as kind
use Rattle.transitions.specs.declared.tasks.Fade.{Fade}
use Rattle.transitions.specs.declared.tasks.Phase.{Phase}
use Rattle.transitions.specs.declared.tasks.Phase.TheVariants.{Waiting}
use Rattle.transitions.specs.declared.tasks.Task.{Task}
use Rattle.transitions.specs.declared.tasks.Task.TheVariants as task
use Rattle.level_control.specs.Judge.{latest, time_refused, turn_tests, command_tests_of}
use Rattle.level_control.specs.Handle.{number_of, event_of}
use Rattle.level_control.specs.Run.{accepted}
use Rattle.level_theorems.specs.EveryEvent.{InPhase}
use Rattle.level_theorems.specs.FadeTheorems.{AnswersAccepted, WakesAccepted}
use Rattle.level_control.specs.declared.state.LevelControlState.{LevelControlState}
use Rattle.level_control.proofs.EventLaws.{event_number}

is_in_time : (s : LevelControlState) (at : Micros) → s.last_accepted.0 ≤ at.0 → at.0 ≤ latest.0 → time_refused s at ≡ false
unfolding time_refused
is_in_time s at low high = rw (le-ltb at.0 s.last_accepted.0 low) (le-ltb latest.0 at.0 high)

-- the number 0 is no cause
zero_accepts : (s : LevelControlState) (e : Event) → number_of s e ≡ 0 → accepted s e ≡ true
zero_accepts s e z = eq-eqb (event_of s e).number 0 (event_number s e ∙ z)

answer_number : (s : LevelControlState) (a : DeviceAnswer) (at : Micros) (on : Bool) → time_refused s at ≡ false → task_open s.task ≡ true
    → number_of s (event at on (kind.Answer a)) ≡ 0
unfolding number_of first_cause turn_tests command_tests_of
answer_number s a at on time is_open = rw (time, is_open) refl

wake_number : (s : LevelControlState) (at : Micros) (on : Bool) → time_refused s at ≡ false → task_open s.task ≡ false → task_due s.task at ≡ true
    → number_of s (event at on kind.Wake) ≡ 0
unfolding number_of first_cause turn_tests command_tests_of
wake_number s at on time shut due = rw (time, shut, due) refl

pub answers_accepted : AnswersAccepted
answers_accepted s a at on is_open low high = zero_accepts s (event at on (kind.Answer a)) (answer_number s a at on (is_in_time s at low high) is_open)

-- a fade or a move that waits has no request open, and a wake from its time on is due

waits_shut : (x : Task) (until : Micros) → InPhase x (Waiting until) → task_open x ≡ false
waits_shut task.Rest until h = absurd h
waits_shut task.StartUp until h = absurd h
waits_shut (task.Fade f) until h = ap phase_open h
waits_shut (task.Move m) until h = ap phase_open h
waits_shut (task.OnReaction r) until h = absurd h

waits_due : (x : Task) (until at : Micros) → InPhase x (Waiting until) → until.0 ≤ at.0 → task_due x at ≡ true
waits_due task.Rest until at h over = absurd h
waits_due task.StartUp until at h over = absurd h
waits_due (task.Fade f) until at h over = ap (λ (p : Phase). phase_due p at) h ∙ le-leb until.0 at.0 over
waits_due (task.Move m) until at h over = ap (λ (p : Phase). phase_due p at) h ∙ le-leb until.0 at.0 over
waits_due (task.OnReaction r) until at h over = absurd h

pub wakes_accepted : WakesAccepted
wakes_accepted s until at on waits over low high =
    zero_accepts s (event at on kind.Wake)
    (wake_number s at on (is_in_time s at low high) (waits_shut s.task until waits) (waits_due s.task until at waits over))

pub fade_wakes_accepted : (s : LevelControlState) (f : Fade) (until at : Micros) (on : Bool) → s.task ≡ task.Fade f → f.phase ≡ Waiting until
    → until.0 ≤ at.0 → s.last_accepted.0 ≤ at.0 → at.0 ≤ latest.0 → accepted s (event at on kind.Wake) ≡ true
fade_wakes_accepted s f until at on runs waits = wakes_accepted s until at on (subst (λ (x : Task). InPhase x (Waiting until)) (sym runs) waits)
