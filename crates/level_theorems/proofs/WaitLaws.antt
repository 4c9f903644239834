-- A W is given only with an answer to a request, and is not before that request. Assumes nothing.
use Rattle.std.specs.Prelude.{Option, Some, None, Bool}
use Prim.Native.Nat.{ℕ, ◌≤◌, ◌-◌, ◌*◌}
use mathlib.Core.Bool.{Bool, true, false, cond}
use mathlib.Core.Path.{◌≡◌, refl, sym, ap, subst, ◌∙◌}
use mathlib.Core.List.{List, [], ◌∷◌, ◌++◌}
use native.Mathlib.Omega.{arith}
use lib.Dec.{eqb, leb, ltb}
use Rattle.units.specs.Units.{micros}
use Rattle.units.specs.declared.Micros.{Micros}
use Rattle.transitions.specs.Actions.{action, act, act_if, act_coupled}
use Rattle.transitions.specs.Matter.{changed}
use Rattle.transitions.specs.declared.actions.Action.{Action}
use Rattle.transitions.specs.declared.actions.ActionKind.{ActionKind}
use Rattle.transitions.specs.declared.actions.ActionKind.TheVariants.{D, P, S, C, L, R, W, E, K, X}
use Rattle.transitions.specs.declared.events.DeviceAnswer.{DeviceAnswer}
use Rattle.transitions.specs.declared.events.DeviceAnswer.TheVariants as device
use Rattle.transitions.specs.declared.events.EventKind.{EventKind}
use Rattle.transitions.specs.declared.events.EventKind.TheVariants as kind
use Rattle.transitions.specs.declared.tasks.Fade.{Fade}
use Rattle.transitions.specs.declared.tasks.Move.{Move}
use Rattle.transitions.specs.declared.tasks.Motion.{Motion}
use Rattle.transitions.specs.declared.tasks.Phase.{Phase}
use Rattle.transitions.specs.declared.tasks.Phase.TheVariants.{Asked, Waiting}
use Rattle.transitions.specs.declared.tasks.Task.{Task}
use Rattle.transitions.specs.declared.tasks.Task.TheVariants as task
use Rattle.transitions.specs.Types.{Level}
use Rattle.transitions.specs.declared.types.Mode.{Mode}
use Rattle.transitions.specs.declared.types.Mode.TheVariants.{Up, Down}
use Rattle.level_control.specs.Answer.{Outcome}
use Rattle.level_control.specs.Starts.{given_or, target}
use Rattle.level_control.specs.declared.state.LevelControlState.{LevelControlState}
use Rattle.event_theorems.specs.Brings as bring
use Rattle.event_theorems.specs.Brings.{Brings, TaskEvent, Answers, Runs, brings, is_end, scene_target, step_target, put_back_by, tells, turned}
use Rattle.event_theorems.specs.TaskAfter as becomes
use Rattle.event_theorems.specs.TaskAfter.{TaskAfter, task_letter, task_on, towards}
use Rattle.event_theorems.specs.Fields.{level_told, next_state}
use Rattle.event_theorems.specs.Letters.{put_back_letters, changes, couples_first, couples_last, letters, notices, reports_level, reports_time, setting_letter}
use Rattle.event_theorems.proofs.AnswerLaws.{at_task}
use Rattle.event_theorems.proofs.RunLaws.{gives}
use Rattle.level_theorems.specs.EveryEvent.{InPhase}
use Rattle.transitions.specs.declared.events.Command.TheVariants as command

-- the times of the waits in a list of actions

abbrev is_wait : ActionKind → Bool
is_wait D = false
is_wait P = false
is_wait S = false
is_wait C = false
is_wait L = false
is_wait R = false
is_wait W = true
is_wait E = false
is_wait K = false
is_wait X = false

abbrev pub waits_in : List Action → List ℕ
waits_in [] = []
waits_in (a ∷ l) = cond (is_wait a.kind) (a.value ∷ waits_in l) (waits_in l)

waits_append : (l r : List Action) → waits_in (l ++ r) ≡ waits_in l ++ waits_in r
waits_append [] r = refl
waits_append (a ∷ l) r = by (is_wait a.kind) (waits_append l r)
  where
    by : (b : Bool) → waits_in (l ++ r) ≡ waits_in l ++ waits_in r
        → cond b (a.value ∷ waits_in (l ++ r)) (waits_in (l ++ r)) ≡ cond b (a.value ∷ waits_in l) (waits_in l) ++ waits_in r
    by true h = ap (λ (x : List ℕ). a.value ∷ x) h
    by false h = h

-- what an event with no W, or with one, gives
pub data Waited (s : LevelControlState) (k : EventKind) (o : Outcome) : Type 0 where
  no_wait : waits_in o.actions ≡ [] → Waited s k o
  waits : (v : ℕ) (since until : Micros) → k ≡ kind.Answer (device.Level v) → InPhase s.task (Asked since)
      → (since.0 ≤ 18446744073709551615 → since.0 ≤ until.0) → InPhase o.state.task (Waiting until)
      → waits_in o.actions ≡ until.0 ∷ [] → Waited s k o

-- Of an event's letters none but its task's is a W.

no_more : (l r : List Action) → waits_in l ≡ [] → waits_in (l ++ r) ≡ waits_in r
no_more l r e = waits_append l r ∙ ap (λ (x : List ℕ). x ++ waits_in r) e

if_free : (b : Bool) (k : ActionKind) → is_wait k ≡ false → waits_in (act_if b k) ≡ []
if_free true k e = rw e refl
if_free false k e = refl

coupled_free : (c : Option Bool) → waits_in (act_coupled c) ≡ []
coupled_free (Some wanted) = refl
coupled_free None = refl

put_back_free : (l told : Level) → waits_in (put_back_letters l told) ≡ []
put_back_free (Some before) told = let b = changed told (Some before) in no_more (act_if b P) (act L 0) (if_free b P refl)
put_back_free None told = refl

setting_free : (b : Brings) → waits_in (setting_letter b) ≡ []
setting_free (Runs c) = refl
setting_free bring.Stops = refl
setting_free (Answers a) = refl
setting_free (bring.Updates level) = refl
setting_free (bring.Sets a) = refl
setting_free bring.Resets = refl

letters_waits : (s : LevelControlState) (b : Brings) (at : Micros) (on : Bool) → waits_in (letters s b at on) ≡ waits_in (task_letter (becomes.task_after s b at))
unfolding letters
letters_waits s b at on =
    let p = changes (tells s b) s.current_level in
    let told = level_told (tells s b) s.current_level in
    no_more (setting_letter b) _ (setting_free b)
    ∙ no_more (act_if p P) _ (if_free p P refl)
    ∙ no_more (act_if (notices s b) S) _ (if_free (notices s b) S refl)
    ∙ no_more (act_coupled (couples_first s b on)) _ (coupled_free (couples_first s b on))
    ∙ no_more (act_if (reports_level s b at) L) _ (if_free (reports_level s b at) L refl)
    ∙ no_more (act_if (reports_time s b) R) _ (if_free (reports_time s b) R refl)
    ∙ no_more (put_back_letters (put_back_by s b) told) _ (put_back_free (put_back_by s b) told)
    ∙ no_more (act_coupled (couples_last s b on at)) _ (coupled_free (couples_last s b on at))

-- A task waits only after an answer with a level.

data TaskAfterWaits (s : LevelControlState) (k : EventKind) : TaskAfter → Type 0 where
  calm : (c : TaskAfter) → waits_in (task_letter c) ≡ [] → TaskAfterWaits s k c
  waiting : (v : ℕ) (since : Micros) (u : ℕ) (t : Task) → k ≡ kind.Answer (device.Level v) → InPhase s.task (Asked since)
      → (since.0 ≤ 18446744073709551615 → since.0 ≤ u) → InPhase t (Waiting (micros u)) → TaskAfterWaits s k (becomes.Waits u t)

calm_cond : (b : Bool) (x y : TaskAfter) → waits_in (task_letter x) ≡ [] → waits_in (task_letter y) ≡ [] → waits_in (task_letter (cond b x y)) ≡ []
calm_cond true x y p q = p
calm_cond false x y p q = q

step_calm : (m : Motion) (mode : Mode) (l : Level) (at : Micros) → waits_in (task_letter (becomes.step m mode l at)) ≡ []
step_calm m Up (Some c) at = calm_cond (ltb c 255) _ _ refl refl
step_calm m Down (Some c) at = calm_cond (ltb 0 c) _ _ refl refl
step_calm m Up None at = refl
step_calm m Down None at = refl

towards_calm : (l : Level) (t T : ℕ) (with_on_off scene puts_back : Bool) (at : Micros) → waits_in (task_letter (towards l t T with_on_off scene puts_back at)) ≡ []
towards_calm (Some c) t T with_on_off scene puts_back at = calm_cond (eqb c t) _ _ refl refl
towards_calm None t T with_on_off scene puts_back at = refl

start_up_calm : (l c : Level) (s : LevelControlState) → waits_in (task_letter (becomes.start_up l c s)) ≡ []
start_up_calm (Some level) c s = refl
start_up_calm None (Some level) s = refl
start_up_calm None None s = refl

wake_calm : (x : Task) (s : LevelControlState) (at : Micros) → waits_in (task_letter (becomes.wake x s at)) ≡ []
wake_calm task.Rest s at = refl
wake_calm task.StartUp s at = refl
wake_calm (task.Fade f) s at = refl
wake_calm (task.Move m) s at = step_calm m.motion m.motion.mode s.current_level at
wake_calm (task.OnReaction r) s at = refl

command_calm : (s : LevelControlState) (c : TaskEvent) (at : Micros) → waits_in (task_letter (becomes.task_after_command s c at)) ≡ []
command_calm s bring.StartUp at = start_up_calm s.attributes.start_up_current_level s.current_level s
command_calm s (bring.Target t T with_on_off scene puts_back) at = towards_calm s.current_level t T with_on_off scene puts_back at
command_calm s bring.NoTarget at = refl
command_calm s (bring.Move r) at = calm_cond (becomes.at_limit r.mode s.current_level s.settings) _ _ refl (step_calm _ r.mode s.current_level at)
command_calm s bring.On at = refl
command_calm s bring.Wake at = wake_calm s.task s at

on_calm : (l before : Level) (v : ℕ) (s : LevelControlState) (at : Micros) → waits_in (task_letter (becomes.on_towards l before v s at)) ≡ []
on_calm (Some level) before v s at = towards_calm (Some v) _ _ true false false at
on_calm None (Some level) v s at = towards_calm (Some v) _ _ true false false at
on_calm None None v s at = refl

module _ (s : LevelControlState) (at : Micros) where
  fade_waits : (f : Fade) (v : ℕ) (b : Bool) (p : Phase) → f.phase ≡ p
      → TaskAfterWaits (at_task s (task.Fade f)) (kind.Answer (device.Level v)) (cond b becomes.AtRest (becomes.fade_on f p at))
  fade_waits f v true p e = calm becomes.AtRest refl
  fade_waits f v false (Asked since) e = by (leb (at.0 - since.0) (f.period.0 * 1000))
    where
      u : ℕ
      u = becomes.until since (f.period.0 * 1000)

      by : (w : Bool)
          → TaskAfterWaits (at_task s (task.Fade f)) (kind.Answer (device.Level v))
          (cond w (becomes.Waits u (task.Fade (becomes.fade_at f (f.remaining.0 - f.period.0) f.counter (Waiting (micros u)))))
          (becomes.fade_asks f (f.remaining.0 - f.period.0) at))
      by true = waiting v since u _ refl e (λ h. omega arith) refl
      by false = calm (becomes.fade_asks f (f.remaining.0 - f.period.0) at) refl
  fade_waits f v false (Waiting until) e = calm becomes.AsItWas refl

  move_waits : (m : Move) (v : ℕ) (b : Bool) (p : Phase) → m.phase ≡ p
      → TaskAfterWaits (at_task s (task.Move m)) (kind.Answer (device.Level v)) (cond b becomes.AtRest (becomes.move_on m p (Some v) at))
  move_waits m v true p e = calm becomes.AtRest refl
  move_waits m v false (Asked since) e = by (leb (at.0 - since.0) m.motion.period.0)
    where
      u : ℕ
      u = becomes.until since m.motion.period.0

      by : (w : Bool)
          → TaskAfterWaits (at_task s (task.Move m)) (kind.Answer (device.Level v))
          (cond w (becomes.Waits u (task.Move (record { motion = m.motion; asked = m.asked; phase = Waiting (micros u) })))
          (becomes.step m.motion m.motion.mode (Some v) at))
      by true = waiting v since u _ refl e (λ h. omega arith) refl
      by false = calm _ (step_calm m.motion m.motion.mode (Some v) at)
  move_waits m v false (Waiting until) e = calm becomes.AsItWas refl

  answer_waits : (x : Task) (a : DeviceAnswer) → TaskAfterWaits (at_task s x) (kind.Answer a) (becomes.task_after_answer x (at_task s x) a at)
  answer_waits task.Rest a = calm becomes.AsItWas refl
  answer_waits task.StartUp a = calm becomes.AtRest refl
  answer_waits (task.Fade f) (device.Level v) = fade_waits f v (eqb f.counter f.target) f.phase refl
  answer_waits (task.Fade f) device.Missing = calm (becomes.Fails 15) refl
  answer_waits (task.Fade f) device.Failed = calm (becomes.Fails 15) refl
  answer_waits (task.Move m) (device.Level v) = move_waits m v (is_end m.asked s.settings) m.phase refl
  answer_waits (task.Move m) device.Missing = calm (becomes.Fails 15) refl
  answer_waits (task.Move m) device.Failed = calm (becomes.Fails 15) refl
  answer_waits (task.OnReaction r) (device.Level v) = calm _ (on_calm s.attributes.on_level r.before v (at_task s (task.OnReaction r)) at)
  answer_waits (task.OnReaction r) device.Missing = calm (becomes.Fails 15) refl
  answer_waits (task.OnReaction r) device.Failed = calm (becomes.Fails 15) refl

  task_after_waits : (k : EventKind) → TaskAfterWaits s k (becomes.task_after s (brings s k) at)
  unfolding becomes.task_after
  task_after_waits kind.StartUp = calm _ (command_calm s bring.StartUp at)
  task_after_waits (kind.Command (command.MoveToLevel r)) = calm _ (towards_calm s.current_level (target s r.level) (given_or r.transition_time 0) r.options.with_on_off false false at)
  task_after_waits (kind.Command (command.Move r)) = calm _ (command_calm s (bring.Move r) at)
  task_after_waits (kind.Command (command.Step r)) = calm _ (command_calm s (step_target s.current_level s r) at)
  task_after_waits (kind.Command (command.Stop r)) = calm becomes.AtRest refl
  task_after_waits (kind.Answer a) = answer_waits s.task a
  task_after_waits kind.Wake = calm _ (command_calm s bring.Wake at)
  task_after_waits (kind.Command (command.OnOffChanged value)) = calm _ (command_calm s (turned value s) at)
  task_after_waits (kind.Command (command.Scene r)) = calm _ (command_calm s (scene_target r.level s r.transition_time.0) at)
  task_after_waits (kind.Command (command.DeviceUpdate level)) = calm becomes.AtRest refl
  task_after_waits (kind.Command command.DeviceStop) = calm becomes.AtRest refl
  task_after_waits (kind.Command (command.SetOnLevel level)) = calm becomes.AsItWas refl
  task_after_waits (kind.Command (command.SetDefaultMoveRate rate)) = calm becomes.AsItWas refl
  task_after_waits (kind.Command (command.SetStartUpCurrentLevel level)) = calm becomes.AsItWas refl
  task_after_waits (kind.Command command.FactoryReset) = calm becomes.AtRest refl

pub gives_waited : (s : LevelControlState) (k : EventKind) (at : Micros) (on : Bool) → Waited s k (gives s (brings s k) at on)
unfolding next_state
gives_waited s k at on = by (becomes.task_after s (brings s k) at) refl (task_after_waits s at k)
  where
    by : (c : TaskAfter) → becomes.task_after s (brings s k) at ≡ c → TaskAfterWaits s k c → Waited s k (gives s (brings s k) at on)
    by c e (calm d h) = no_wait (letters_waits s (brings s k) at on ∙ ap (λ (x : TaskAfter). waits_in (task_letter x)) e ∙ h)
    by c e (waiting v since u t answers asked order waits-so) =
        waits v since (micros u) answers asked order
        (subst (λ (x : TaskAfter). InPhase (task_on x s.task) (Waiting (micros u))) (sym e) waits-so)
        (letters_waits s (brings s k) at on ∙ ap (λ (x : TaskAfter). waits_in (task_letter x)) e)

-- the W that stands in a list is the one that is found in it

pub no_entry : (x y : List ℕ) (u : ℕ) → [] ≡ x ++ (u ∷ y) → ⊥
no_entry [] y u e = let z : ◌≡◌ {A = ℕ} 0 1 = cc in omega arith
no_entry (w ∷ x) y u e = let z : ◌≡◌ {A = ℕ} 0 1 = cc in omega arith

pub one_entry : (x y : List ℕ) (v u : ℕ) → v ∷ [] ≡ x ++ (u ∷ y) → v ≡ u
one_entry [] y v u e = cc
one_entry (w ∷ x) y v u e = let h : [] ≡ x ++ (u ∷ y) = cc in absurd (no_entry x y u h)

pub found : (l earlier others : List Action) (u : ℕ) → l ≡ earlier ++ (action W u ∷ others) → waits_in l ≡ waits_in earlier ++ (u ∷ waits_in others)
found l earlier others u e = ap waits_in e ∙ waits_append earlier (action W u ∷ others)
