-- An on reaction comes only from on, and keeps the level that it found. Assumes nothing.
use Prim.Native.Nat.{ℕ}
use mathlib.Core.Bool.{Bool, true, false, true≢false}
use mathlib.Core.Path.{◌≡◌, refl, sym, ap, ◌∙◌}
use native.Mathlib.Omega.{arith}
use Rattle.units.specs.declared.Micros.{Micros}
use Rattle.transitions.specs.Events.{event}
use Rattle.transitions.specs.Tasks.{task_open}
use Rattle.transitions.specs.declared.events.DeviceAnswer.{DeviceAnswer}
use Rattle.transitions.specs.declared.events.DeviceAnswer.TheVariants as device
use Rattle.transitions.specs.declared.events.EventKind.{EventKind}
use Rattle.transitions.specs.declared.events.EventKind.TheVariants as kind
use Rattle.transitions.specs.declared.tasks.OnReaction.{OnReaction}
use Rattle.transitions.specs.declared.tasks.Task.{Task}
use Rattle.transitions.specs.declared.tasks.Task.TheVariants as task
use Rattle.level_control.specs.State.{accept}
use Rattle.level_control.specs.Answer.{Outcome}
use Rattle.level_control.specs.Fades.{device_failed}
use Rattle.level_control.specs.Moves.{move_missing}
use Rattle.level_control.specs.Reactions.{on_answered}
use Rattle.level_control.specs.Judge.{turn_tests, command_tests_of}
use Rattle.level_control.specs.Handle.{answered_in, answered, run, number_of, event_of}
use Rattle.level_control.specs.Run.{is_onward}
use Rattle.level_control.specs.Starts.{Start, NoFade, Fades, start_of, on_start_at}
use Rattle.level_theorems.specs.FadeTheorems.{ReactionsCovered}
use Rattle.level_control.specs.declared.state.LevelControlState.{LevelControlState}
use Rattle.level_control.proofs.EventLaws.{event_options_stop, event_runs, options_stop_in, turn_passes}
use Rattle.level_control.proofs.StartLaws.{direct_starts, on_starts, on_rests, on_answer, on_answered_is}
use Rattle.level_control.proofs.EveryFade.{accepted_zero}
use Rattle.level_theorems.proofs.TaskSteps.{Becomes, gone, reacts, further, stays, is_plain}
use Rattle.level_theorems.proofs.Coverage.{Reacts, runs_none}
use Rattle.level_theorems.proofs.EveryFadeCovered.{begins}
use Rattle.transitions.specs.declared.events.Command.TheVariants as command

-- with a request open only an answer is accepted
open_answers : (s : LevelControlState) (at : Micros) (on : Bool) (k : EventKind) → task_open s.task ≡ true → number_of s (event at on k) ≡ 0
    → (a : DeviceAnswer) × (k ≡ kind.Answer a)
unfolding number_of turn_tests
open_answers s at on kind.StartUp o z = absurd (true≢false (sym o ∙ (turn_passes _ _ z).not_open))
open_answers s at on (kind.Command (command.MoveToLevel r)) o z = absurd (true≢false (sym o ∙ (turn_passes _ _ z).not_open))
open_answers s at on (kind.Command (command.Move r)) o z = absurd (true≢false (sym o ∙ (turn_passes _ _ z).not_open))
open_answers s at on (kind.Command (command.Step r)) o z = absurd (true≢false (sym o ∙ (turn_passes _ _ z).not_open))
open_answers s at on (kind.Command (command.Stop r)) o z = absurd (true≢false (sym o ∙ (turn_passes _ _ z).not_open))
open_answers s at on (kind.Answer a) o z = (a, refl)
open_answers s at on kind.Wake o z = absurd (true≢false (sym o ∙ (turn_passes _ _ z).not_open))
open_answers s at on (kind.Command (command.OnOffChanged value)) o z = absurd (true≢false (sym o ∙ (turn_passes _ _ z).not_open))
open_answers s at on (kind.Command (command.Scene r)) o z = absurd (true≢false (sym o ∙ (turn_passes _ _ z).not_open))
open_answers s at on (kind.Command (command.DeviceUpdate level)) o z = absurd (true≢false (sym o ∙ (turn_passes _ _ z).not_open))
open_answers s at on (kind.Command command.DeviceStop) o z = absurd (true≢false (sym o ∙ (turn_passes _ _ z).not_open))
open_answers s at on (kind.Command (command.SetOnLevel level)) o z = absurd (true≢false (sym o ∙ (turn_passes _ _ z).not_open))
open_answers s at on (kind.Command (command.SetDefaultMoveRate rate)) o z = absurd (true≢false (sym o ∙ (turn_passes _ _ z).not_open))
open_answers s at on (kind.Command (command.SetStartUpCurrentLevel level)) o z = absurd (true≢false (sym o ∙ (turn_passes _ _ z).not_open))
open_answers s at on (kind.Command command.FactoryReset) o z = absurd (true≢false (sym o ∙ (turn_passes _ _ z).not_open))

abbrev is_reaction : Task → Bool
is_reaction task.Rest = false
is_reaction task.StartUp = false
is_reaction (task.Fade f) = false
is_reaction (task.Move m) = false
is_reaction (task.OnReaction r) = true

module _ (s : LevelControlState) (at : Micros) (on : Bool) where
  abbrev after : EventKind → Task
  after k = (event_of s (event at on k)).state.task

  -- any answer ends the reaction
  answer_ends : (b : OnReaction) (a : DeviceAnswer) → s.task ≡ task.OnReaction b → number_of s (event at on (kind.Answer a)) ≡ 0
      → is_reaction (after (kind.Answer a)) ≡ false
  unfolding command_tests_of run answered on_answered move_missing device_failed
  answer_ends b (device.Level v) q z =
      ap (λ (o : Outcome). is_reaction o.state.task) (on_answered_is s b at on v q z) ∙ by (on_start_at s.attributes.on_level b.before s v) refl
    where
      by : (x : Start) → on_start_at s.attributes.on_level b.before s v ≡ x → is_reaction (on_answer s b.before at on v).state.task ≡ false
      by (Fades c t T) e = ap is_reaction (begins (on_answer s b.before at on v) at c t T (on_starts s b.before at on v c t T e)).begins
      by NoFade e = ap is_reaction (on_rests s b.before at on v e)
  answer_ends b device.Missing q z =
      ap (λ (o : Outcome). is_reaction o.state.task) (event_runs s (event at on (kind.Answer device.Missing)) z refl)
      ∙ ap (λ (x : Task). is_reaction (answered_in x (accept s at) device.Missing at on).state.task) q
  answer_ends b device.Failed q z =
      ap (λ (o : Outcome). is_reaction o.state.task) (event_runs s (event at on (kind.Answer device.Failed)) z refl)
      ∙ ap (λ (x : Task). is_reaction (answered_in x (accept s at) device.Failed at on).state.task) q

  -- from another task, only on leads to a reaction
  becomes : (k : EventKind) (y : Task) (r : OnReaction) → y ≡ task.OnReaction r → is_reaction s.task ≡ false
      → Becomes (Reacts s at on k) s.task (is_onward k) y → Reacts s at on k r
  becomes k y r e no-reaction (gone h) = absurd (true≢false (sym h ∙ ap is_plain e))
  becomes k y r e no-reaction (reacts b q w) =
      let same : task.OnReaction b ≡ task.OnReaction r = sym q ∙ e in
      let levels : b ≡ r = cc in
      (w.0, ap (λ (x : OnReaction). x.before) (sym levels) ∙ w.1)
  becomes k y r e no-reaction (further f g p q same o) = absurd (let u : ◌≡◌ {A = ℕ} 0 1 = cc in omega arith)
  becomes k y r e no-reaction (stays q) = absurd (true≢false (sym (ap is_reaction (sym q ∙ e)) ∙ no-reaction))

  fresh : (k : EventKind) (r : OnReaction) → number_of s (event at on k) ≡ 0 → is_reaction s.task ≡ false → after k ≡ task.OnReaction r → Reacts s at on k r
  fresh k r z no-reaction e = by (start_of s on k) refl (options_stop_in s (event at on k)) refl
    where
      by : (x : Start) → start_of s on k ≡ x → (b : Bool) → options_stop_in s (event at on k) ≡ b → Reacts s at on k r
      by (Fades c t T) named b q =
          absurd (true≢false (sym (ap is_reaction e) ∙ ap is_reaction (begins (event_of s (event at on k)) at c t T (direct_starts s at on c t T k z named)).begins))
      by NoFade named true q =
          absurd (true≢false (sym (ap is_reaction e) ∙ ap (λ (o : Outcome). is_reaction o.state.task) (event_options_stop s (event at on k) z q) ∙ no-reaction))
      by NoFade named false q =
          becomes k (run (accept s at) k at on).state.task r (ap (λ (o : Outcome). o.state.task) (sym (event_runs s (event at on k) z q)) ∙ e) no-reaction
          (runs_none s at on k q (record { direct = named; on = λ b v p u. absurd (true≢false (sym (ap is_reaction p) ∙ no-reaction)) }))

  covered : (k : EventKind) (r : OnReaction) → number_of s (event at on k) ≡ 0 → after k ≡ task.OnReaction r → Reacts s at on k r
  covered k r z e = by s.task refl
    where
      ended : (b : OnReaction) → s.task ≡ task.OnReaction b → (a : DeviceAnswer) × (k ≡ kind.Answer a) → Reacts s at on k r
      ended b q (a, u) =
          let zero : number_of s (event at on (kind.Answer a)) ≡ 0 = ap (λ (x : EventKind). number_of s (event at on x)) (sym u) ∙ z in
          absurd (true≢false (sym (ap is_reaction e) ∙ ap (λ (x : EventKind). is_reaction (after x)) u ∙ answer_ends b a q zero))

      by : (x : Task) → s.task ≡ x → Reacts s at on k r
      by task.Rest q = fresh k r z (ap is_reaction q) e
      by task.StartUp q = fresh k r z (ap is_reaction q) e
      by (task.Fade f) q = fresh k r z (ap is_reaction q) e
      by (task.Move m) q = fresh k r z (ap is_reaction q) e
      by (task.OnReaction b) q = ended b q (open_answers s at on k (ap task_open q) z)

pub reactions_covered : ReactionsCovered
reactions_covered s e r ok q = covered s e.moment.at e.moment.on_off e.kind r (accepted_zero s e ok) q
