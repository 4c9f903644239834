-- The letters of every event stand in the orders of Events and answers. Assumes nothing.
use Rattle.std.specs.Prelude.{Option, Some, None, ℕ, Bool}
use Prim.Native.Nat.{ℕ, ◌+◌, ◌-◌, ◌*◌}
use mathlib.Core.Bool.{Bool, true, false, cond, not, ◌&&◌}
use mathlib.Core.Path.{◌≡◌, refl, sym, ◌∙◌}
use mathlib.Core.List.{List, [], ◌∷◌, ◌++◌}
use lib.Dec.{eqb, leb, ltb}
use Rattle.std.proofs.lemmas.Option.{none-some}
use Rattle.units.specs.Units.{micros, tenths}
use Rattle.units.specs.declared.Micros.{Micros}
use Rattle.transitions.specs.Coupling.{coupled_on_off}
use Rattle.transitions.specs.Actions.{act, act_if, act_coupled}
use Rattle.transitions.specs.Fade.{next_level}
use Rattle.transitions.specs.Matter.{changed}
use Rattle.transitions.specs.Types.{is_missing}
use Rattle.transitions.specs.declared.actions.Action.{Action}
use Rattle.transitions.specs.declared.actions.ActionKind.{ActionKind}
use Rattle.transitions.specs.declared.actions.ActionKind.TheVariants.{D, P, S, C, L, R, W, E, K, X}
use Rattle.transitions.specs.declared.events.DeviceAnswer.{DeviceAnswer}
use Rattle.transitions.specs.declared.events.DeviceAnswer.TheVariants as device
use Rattle.transitions.specs.declared.events.EventKind.{EventKind}
use Rattle.transitions.specs.declared.events.EventKind.TheVariants as kind
use Rattle.transitions.specs.declared.events.StepRequest.{StepRequest}
use Rattle.transitions.specs.declared.tasks.Fade.{Fade}
use Rattle.transitions.specs.declared.tasks.Move.{Move}
use Rattle.transitions.specs.declared.tasks.Motion.{Motion}
use Rattle.transitions.specs.declared.tasks.OnReaction.{OnReaction}
use Rattle.transitions.specs.declared.tasks.Phase.{Phase}
use Rattle.transitions.specs.declared.tasks.Phase.TheVariants.{Asked, Waiting}
use Rattle.transitions.specs.declared.tasks.Task.{Task}
use Rattle.transitions.specs.declared.tasks.Task.TheVariants as task
use Rattle.transitions.specs.Types.{Level}
use Rattle.transitions.specs.declared.types.Mode.{Mode}
use Rattle.transitions.specs.declared.types.Mode.TheVariants.{Up, Down}
use Rattle.level_control.specs.Starts.{given_or, step_to, target}
use Rattle.level_control.specs.declared.state.LevelControlState.{LevelControlState}
use Rattle.event_theorems.specs.Brings as bring
use Rattle.event_theorems.specs.Brings.{Answers, Runs, brings, fade_puts_back, is_end, scene_target, step_target}
use Rattle.event_theorems.specs.TaskAfter as becomes
use Rattle.event_theorems.specs.TaskAfter.{task_letter, towards}
use Rattle.event_theorems.specs.Letters.{put_back_letters, couples, couples_first, couples_reached, leaves_min, letters, move_on_couples, on_reached, reached, reports_level, reports_time, wake_couples}
use Rattle.event_theorems.proofs.AnswerLaws.{at_task}
use Rattle.level_theorems.specs.Orders.{kinds_of, OneOf, this, later, orders, answer_orders, wake_orders, fade_orders, move_orders, on_orders, start_up_orders}
use Rattle.level_theorems.proofs.PatternLaws.{Fits, none, both, one, one_if, one_coupled}
use Rattle.transitions.specs.declared.events.Command.TheVariants as command

-- actions whose kinds stand in one of some orders
pub record Ordered (ps : List (List ActionKind)) (l : List Action) : Type 0 where
  pub kinds : OneOf ps (kinds_of l)

first : {p : List ActionKind} {ps : List (List ActionKind)} {l : List Action} → Fits p l → Ordered (p ∷ ps) l
first h = record { kinds = this h.kinds }

second : {p q : List ActionKind} {ps : List (List ActionKind)} {l : List Action} → Fits q l → Ordered (p ∷ q ∷ ps) l
second h = record { kinds = later (this h.kinds) }

third : {p q r : List ActionKind} {ps : List (List ActionKind)} {l : List Action} → Fits r l → Ordered (p ∷ q ∷ r ∷ ps) l
third h = record { kinds = later (later (this h.kinds)) }

-- nothing, where a pattern is expected
nil : (p : List ActionKind) → Fits p []
nil p = record { kinds = none p }

silent : {p : List ActionKind} {ps : List (List ActionKind)} → Ordered (p ∷ ps) []
silent {p} = first (nil p)

-- an entry before every pattern

abbrev before : ActionKind → List (List ActionKind) → List (List ActionKind)
before k [] = []
before k (p ∷ ps) = (k ∷ p) ∷ before k ps

after_one : (k : ActionKind) (l x : List Action) (ps : List (List ActionKind)) → Fits (k ∷ []) l → OneOf ps (kinds_of x) → OneOf (before k ps) (kinds_of (l ++ x))
after_one k l x [] h g = elim g [ ]
after_one k l x (p ∷ ps) h (this g) = this (both l x h (record { kinds = g })).kinds
after_one k l x (p ∷ ps) h (later g) = later (after_one k l x ps h g)

after : {k : ActionKind} {l x : List Action} {ps : List (List ActionKind)} → Fits (k ∷ []) l → Ordered ps x → Ordered (before k ps) (l ++ x)
after {k} {l} {x} {ps} h g = record { kinds = after_one k l x ps h g.kinds }

module _ (s : LevelControlState) (at : Micros) (on : Bool) where
  -- a target that is reached, or that there is no level to start for, or that is asked for
  target_ordered : (ps : List (List ActionKind)) (l : Level) (t T : ℕ) (with_on_off scene puts_back : Bool)
      → Ordered ps (act_coupled (couples s.settings with_on_off on t) ++ (act_if (puts_back && is_missing s.attributes.on_level) L ++ []))
      → (l ≡ None → Ordered ps (act E 11)) → ((n : ℕ) → Ordered ps (act D n))
      → Ordered ps
      (act_coupled (couples_reached l t with_on_off s.settings on)
      ++ (act_if (reached l t && (puts_back && is_missing s.attributes.on_level)) L ++ task_letter (towards l t T with_on_off scene puts_back at)))
  target_ordered ps (Some c) t T with_on_off scene puts_back there lost asks = by (eqb c t)
    where
      by : (b : Bool)
          → Ordered ps
          (act_coupled (cond b (couples s.settings with_on_off on t) None)
          ++ (act_if (b && (puts_back && is_missing s.attributes.on_level)) L
          ++ task_letter (cond b becomes.AtRest (becomes.Asks (next_level c t (tenths T)) (task.Fade (becomes.fade_over c t T with_on_off scene puts_back at))))))
      by true = there
      by false = asks (next_level c t (tenths T))
  target_ordered ps None t T with_on_off scene puts_back there lost asks = lost refl

  -- the next request of a move
  step_fits : (x : Option Bool) (n : ℕ) (t : Task) (b : Bool) → Fits (C ∷ D ∷ []) (act_coupled x ++ task_letter (cond b (becomes.Asks n t) becomes.AtRest))
  step_fits x n t true = both _ _ (one_coupled x) (one D n)
  step_fits x n t false = both _ _ (one_coupled x) (nil (D ∷ []))

  move_ordered : (m : Motion) (mode : Mode) (l : Level)
      → Ordered ((C ∷ D ∷ []) ∷ (E ∷ []) ∷ []) (act_coupled (leaves_min mode l m s.settings on) ++ task_letter (becomes.step m mode l at))
  move_ordered m Up (Some c) =
      first (step_fits (leaves_min Up (Some c) m s.settings on) (c + 1) (task.Move (record { motion = m; asked = c + 1; phase = Asked at })) (ltb c 255))
  move_ordered m Down (Some c) = first (step_fits None (c - 1) (task.Move (record { motion = m; asked = c - 1; phase = Asked at })) (ltb 0 c))
  move_ordered m Up None = second (one E 11)
  move_ordered m Down None = second (one E 11)

  start_up_ordered : (l c : Level) → Ordered ((D ∷ []) ∷ []) (task_letter (becomes.start_up l c s))
  start_up_ordered (Some level) c = first (one D _)
  start_up_ordered None (Some level) = first (one D level)
  start_up_ordered None None = silent

  begin_ordered : (m : Motion) (mode : Mode) (b : Bool)
      → Ordered ((C ∷ D ∷ []) ∷ (E ∷ []) ∷ [])
      (act_coupled (cond b None (leaves_min mode s.current_level m s.settings on))
      ++ task_letter (cond b becomes.AsItWas (becomes.step m mode s.current_level at)))
  begin_ordered m mode true = silent
  begin_ordered m mode false = move_ordered m mode s.current_level

  wake_ordered : (x : Task) → Ordered (wake_orders x) (act_coupled (wake_couples x s on) ++ task_letter (becomes.wake x s at))
  wake_ordered task.Rest = silent
  wake_ordered task.StartUp = silent
  wake_ordered (task.Fade f) = first (one D _)
  wake_ordered (task.Move m) = move_ordered m.motion m.motion.mode s.current_level
  wake_ordered (task.OnReaction r) = silent

  step_ordered : (r : StepRequest) (l : Level) → s.current_level ≡ l
      → Ordered ((D ∷ []) ∷ (C ∷ []) ∷ []) (letters s (Runs (step_target l s r)) at on)
  unfolding letters becomes.task_after
  step_ordered r (Some c) e =
      let t = target s (step_to r.mode s c r.step_size) in
      target_ordered _ s.current_level t _ r.options.with_on_off false false (second (both _ _ (one_coupled (couples s.settings r.options.with_on_off on t)) (nil [])))
      (λ m. absurd (none-some c (sym m ∙ e))) (λ n. first (one D n))
  step_ordered r None e = silent

  scene_ordered : (l : Level) (ms : ℕ) → Ordered ((D ∷ []) ∷ (E ∷ []) ∷ []) (letters s (Runs (scene_target l s ms)) at on)
  unfolding letters becomes.task_after coupled_on_off
  scene_ordered (Some level) ms = target_ordered _ s.current_level _ _ false true false silent (λ m. second (one E 11)) (λ n. first (one D n))
  scene_ordered None ms = silent

-- Answers.
module _ (s : LevelControlState) (at : Micros) (on : Bool) where
  start_up_answer : (a : DeviceAnswer) → Ordered (start_up_orders a) (letters (at_task s task.StartUp) (Answers a) at on)
  unfolding letters becomes.task_after
  start_up_answer (device.Level v) = first (both _ _ (one_if (changed s.current_level (Some v)) P) (nil []))
  start_up_answer device.Missing = first (both _ _ (one_if (changed s.current_level None) P) (nil []))
  start_up_answer device.Failed = silent

  -- P, S, C, L, R, and then W, D or the level put back
  fade_answer_ordered : (f : Fade) (a : DeviceAnswer) → Ordered (fade_orders a) (letters (at_task s (task.Fade f)) (Answers a) at on)
  unfolding letters becomes.task_after
  fade_answer_ordered f (device.Level v) =
      let x = at_task s (task.Fade f) in
      let b = Answers (device.Level v) in
      after (one_if (changed s.current_level (Some v)) P)
      (after (one_if (not f.scene_apply) S)
      (after (one_coupled (couples_first x b on))
      (after (one_if (reports_level x b at) L)
      (after (one_if (reports_time x b) R) (by (eqb f.counter f.target) s.attributes.on_level f.put_back f.phase)))))
    where
      goes_on : (w : Bool) (u n : ℕ) (x y : Task)
          → Ordered ((W ∷ []) ∷ (D ∷ []) ∷ (P ∷ L ∷ []) ∷ []) (task_letter (cond w (becomes.Waits u x) (becomes.Asks n y)))
      goes_on true u n x y = first (one W u)
      goes_on false u n x y = second (one D n)

      by : (b : Bool) (on_level : Level) (put_back : Option ℕ) (p : Phase)
          → Ordered ((W ∷ []) ∷ (D ∷ []) ∷ (P ∷ L ∷ []) ∷ [])
          (put_back_letters (fade_puts_back (device.Level v) b on_level put_back) (Some v) ++ task_letter (cond b becomes.AtRest (becomes.fade_on f p at)))
      by true None (Some level) p = third (both _ _ (both _ _ (one_if (not (eqb v level)) P) (one L 0)) (nil []))
      by true None None p = silent
      by true (Some level) _ p = silent
      by false on_level _ (Asked since) =
          let left = f.remaining.0 - f.period.0 in
          let u = becomes.until since (f.period.0 * 1000) in
          let n = next_level f.counter f.target f.transition_time in
          goes_on (leb (at.0 - since.0) (f.period.0 * 1000)) u n (task.Fade (becomes.fade_at f left f.counter (Waiting (micros u))))
          (task.Fade (becomes.fade_at f left n (Asked at)))
      by false on_level _ (Waiting until) = silent
  fade_answer_ordered f device.Missing = first (both _ _ (one_if (changed s.current_level None) P) (both _ _ (one_if (not f.scene_apply) S) (one E 15)))
  fade_answer_ordered f device.Failed = first (one E 15)

  -- P, S, L, and then C at the end, or W, or C and D
  move_answer_ordered : (m : Move) (a : DeviceAnswer) → Ordered (move_orders a) (letters (at_task s (task.Move m)) (Answers a) at on)
  unfolding letters becomes.task_after
  move_answer_ordered m (device.Level v) =
      after (one_if (changed s.current_level (Some v)) P)
      (after (one S 0)
      (after (one_if (reports_level (at_task s (task.Move m)) (Answers (device.Level v)) at) L) (by (is_end m.asked s.settings) m.phase)))
    where
      moves_on : (mode : Mode) → Fits (C ∷ D ∷ []) (act_coupled (leaves_min mode (Some v) m.motion s.settings on) ++ task_letter (becomes.step m.motion mode (Some v) at))
      moves_on Up =
          step_fits s at on (leaves_min Up (Some v) m.motion s.settings on) (v + 1)
          (task.Move (record { motion = m.motion; asked = v + 1; phase = Asked at })) (ltb v 255)
      moves_on Down = step_fits s at on None (v - 1) (task.Move (record { motion = m.motion; asked = v - 1; phase = Asked at })) (ltb 0 v)

      goes_on : (w : Bool) (u : ℕ) (x : Task)
          → Ordered ((C ∷ []) ∷ (W ∷ []) ∷ (C ∷ D ∷ []) ∷ [])
          (act_coupled (cond w None (leaves_min m.motion.mode (Some v) m.motion s.settings on))
          ++ task_letter (cond w (becomes.Waits u x) (becomes.step m.motion m.motion.mode (Some v) at)))
      goes_on true u x = second (one W u)
      goes_on false u x = third (moves_on m.motion.mode)

      by : (b : Bool) (p : Phase)
          → Ordered ((C ∷ []) ∷ (W ∷ []) ∷ (C ∷ D ∷ []) ∷ [])
          (act_coupled (cond b (couples s.settings m.motion.with_on_off on v) (move_on_couples m p v s.settings on at))
          ++ task_letter (cond b becomes.AtRest (becomes.move_on m p (Some v) at)))
      by true p = first (both _ _ (one_coupled (couples s.settings m.motion.with_on_off on v)) (nil []))
      by false (Asked since) =
          let u = becomes.until since m.motion.period.0 in
          goes_on (leb (at.0 - since.0) m.motion.period.0) u (task.Move (record { motion = m.motion; asked = m.asked; phase = Waiting (micros u) }))
      by false (Waiting until) = silent
  move_answer_ordered m device.Missing =
      first
      (both _ _ (one_if (changed s.current_level None) P)
      (both _ _ (one S 0) (both _ _ (one_if (reports_level (at_task s (task.Move m)) (Answers device.Missing) at) L) (one E 15))))
  move_answer_ordered m device.Failed = first (one E 15)

  -- P, S, L, and then C, D or E
  on_answer_ordered : (r : OnReaction) (a : DeviceAnswer) → Ordered (on_orders a) (letters (at_task s (task.OnReaction r)) (Answers a) at on)
  unfolding letters becomes.task_after
  on_answer_ordered r (device.Level v) =
      after (one_if (changed s.current_level (Some v)) P)
      (after (one S 0)
      (after (one_if (reports_level (at_task s (task.OnReaction r)) (Answers (device.Level v)) at) L) (by s.attributes.on_level r.before)))
    where
      within : ℕ
      within = given_or s.attributes.on_transition_time s.attributes.on_off_transition_time.0

      to : (t T : ℕ) (b : Bool)
          → Ordered ((C ∷ []) ∷ (D ∷ []) ∷ (E ∷ []) ∷ [])
          (act_coupled (cond b (couples s.settings true on t) None)
          ++ task_letter (cond b becomes.AtRest (becomes.Asks (next_level v t (tenths T)) (task.Fade (becomes.fade_over v t T true false false at)))))
      to t T true = first (both _ _ (one_coupled (couples s.settings true on t)) (nil []))
      to t T false = second (one D (next_level v t (tenths T)))

      by : (l before : Level)
          → Ordered ((C ∷ []) ∷ (D ∷ []) ∷ (E ∷ []) ∷ [])
          (act_coupled (on_reached l before v (at_task s (task.OnReaction r)) on) ++ task_letter (becomes.on_towards l before v (at_task s (task.OnReaction r)) at))
      by (Some level) before = to (target s level) within (eqb v (target s level))
      by None (Some level) = to (target s level) within (eqb v (target s level))
      by None None = third (one E 15)
  on_answer_ordered r device.Missing =
      first
      (both _ _ (one_if (changed s.current_level None) P)
      (both _ _ (one S 0) (both _ _ (one_if (reports_level (at_task s (task.OnReaction r)) (Answers device.Missing) at) L) (one E 15))))
  on_answer_ordered r device.Failed = first (one E 15)

  answer_ordered : (a : DeviceAnswer) (x : Task) → Ordered (answer_orders x a) (letters (at_task s x) (Answers a) at on)
  unfolding letters becomes.task_after
  answer_ordered a task.Rest = silent
  answer_ordered a task.StartUp = start_up_answer a
  answer_ordered a (task.Fade f) = fade_answer_ordered f a
  answer_ordered a (task.Move m) = move_answer_ordered m a
  answer_ordered a (task.OnReaction r) = on_answer_ordered r a

pub letters_ordered : (s : LevelControlState) (k : EventKind) (at : Micros) (on : Bool) → Ordered (orders s.task k) (letters s (brings s k) at on)
unfolding orders letters becomes.task_after
letters_ordered s kind.StartUp at on = start_up_ordered s at on s.attributes.start_up_current_level s.current_level
letters_ordered s (kind.Command (command.MoveToLevel r)) at on =
    let t = target s r.level in
    target_ordered s at on _ s.current_level t _ r.options.with_on_off false false
    (second (both _ _ (one_coupled (couples s.settings r.options.with_on_off on t)) (nil []))) (λ m. third (one E 11)) (λ n. first (one D n))
letters_ordered s (kind.Command (command.Move r)) at on =
    begin_ordered s at on (becomes.motion_of s r) r.mode (becomes.at_limit r.mode s.current_level s.settings)
letters_ordered s (kind.Command (command.Step r)) at on = step_ordered s at on r s.current_level refl
letters_ordered s (kind.Command (command.Stop r)) at on = first (both _ _ (one_if (reports_time s bring.Stops) R) (nil []))
letters_ordered s (kind.Answer a) at on = answer_ordered s at on a s.task
letters_ordered s kind.Wake at on = wake_ordered s at on s.task
letters_ordered s (kind.Command (command.OnOffChanged true)) at on = first (one D s.settings.range.min)
letters_ordered s (kind.Command (command.OnOffChanged false)) at on =
    let t = target s s.settings.range.min in
    target_ordered s at on _ s.current_level t _ true false true
    (second (both _ _ (one_coupled (couples s.settings true on t)) (both _ _ (one_if (is_missing s.attributes.on_level) L) (nil []))))
    (λ m. third (one E 11)) (λ n. first (one D n))
letters_ordered s (kind.Command (command.Scene r)) at on = scene_ordered s at on r.level r.transition_time.0
letters_ordered s (kind.Command (command.DeviceUpdate level)) at on =
    first
    (both _ _ (one_if (changed s.current_level (Some level)) P)
    (both _ _ (one S 0) (both _ _ (one L 0) (both _ _ (one_if (reports_time s (bring.Updates level)) R) (nil [])))))
letters_ordered s (kind.Command command.DeviceStop) at on = first (both _ _ (one_if (reports_time s bring.Stops) R) (nil []))
letters_ordered s (kind.Command (command.SetOnLevel level)) at on = first (one K 0)
letters_ordered s (kind.Command (command.SetDefaultMoveRate rate)) at on = first (one K 0)
letters_ordered s (kind.Command (command.SetStartUpCurrentLevel level)) at on = first (one K 0)
letters_ordered s (kind.Command command.FactoryReset) at on = first (one X 0)
