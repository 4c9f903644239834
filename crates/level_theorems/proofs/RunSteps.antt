-- What an accepted event does to a fade that runs on: an answer or a wake of it moves its counter on, any other leaves it as it was. Assumes nothing.
use Rattle.std.specs.Prelude.{Some, None}
use Prim.Native.Nat.{ℕ, ◌+◌, ◌-◌, ◌*◌, ◌/◌, ◌≤◌, min}
use Rattle.std.proofs.Math.Nat.{pos_of_ne-zero}
use mathlib.Core.Bool.{Bool, true, false, cond, ◌||◌, true≢false}
use mathlib.Core.Path.{◌≡◌, refl, sym, ap, subst, ◌∙◌}
use native.Mathlib.Omega.{arith}
use borrow.Author.Tests.{eqb-false, not-false, leb-true}
use lib.Dec.{eqb, leb, ltb}
use Rattle.std.proofs.lemmas.Bool.{or_left, or_right}
use Rattle.units.specs.Units.{is_zero, micros}
use Rattle.units.specs.declared.Micros.{Micros}
use Rattle.units.specs.declared.Tenths.{Tenths}
use Rattle.transitions.specs.Events.{event}
use Rattle.transitions.specs.Fade.{next_level}
use Rattle.transitions.specs.Tasks.{task_open, task_due, phase_open, phase_due}
use Rattle.transitions.specs.Types.{Level, is_missing}
use Rattle.transitions.specs.declared.events.Command.{Command}
use Rattle.transitions.specs.declared.events.Command.TheVariants as command
use Rattle.transitions.specs.declared.events.DeviceAnswer.{DeviceAnswer}
use Rattle.transitions.specs.declared.events.DeviceAnswer.TheVariants as device
use Rattle.transitions.specs.declared.events.EventKind.{EventKind}
use Rattle.transitions.specs.declared.events.EventKind.TheVariants as kind
use Rattle.transitions.specs.declared.events.MoveRequest.{MoveRequest}
use Rattle.transitions.specs.declared.events.SceneRequest.{SceneRequest}
use Rattle.transitions.specs.declared.events.StepRequest.{StepRequest}
use Rattle.transitions.specs.declared.tasks.Fade.{Fade}
use Rattle.transitions.specs.declared.tasks.Motion.{Motion}
use Rattle.transitions.specs.declared.tasks.Phase.{Phase}
use Rattle.transitions.specs.declared.tasks.Phase.TheVariants.{Asked, Waiting}
use Rattle.transitions.specs.declared.tasks.Task.{Task}
use Rattle.transitions.specs.declared.tasks.Task.TheVariants as task
use Rattle.transitions.specs.declared.types.Mode.{Mode}
use Rattle.transitions.specs.declared.types.Mode.TheVariants.{Up, Down}
use Rattle.transitions.specs.declared.types.OptionsBitmap.{OptionsBitmap}
use Rattle.transitions.proofs.RuleLaws.{rule_laws}
use Rattle.level_control.specs.Answer.{Outcome}
use Rattle.level_control.specs.Judge.{turn_tests, move_to_level_tests, step_tests, scene_tests_at, scene_tests, command_tests_of}
use Rattle.level_control.specs.Handle.{number_of, event_of}
use Rattle.level_control.specs.Judge.{continues}
use Rattle.level_control.specs.Run.{is_onward, with_level}
use Rattle.level_control.specs.Starts.{NoFade, start_from, target, passes, given_or, step_in, step_to, distance, step_start, scene_start, start_of}
use Rattle.level_control.specs.declared.state.LevelControlState.{LevelControlState}
use Rattle.level_control.proofs.EventLaws.{event_options_stop, options_stop_in, turn_passes, command_passes}
use Rattle.level_control.proofs.EveryFade.{accepted_zero}
use Rattle.level_control.proofs.StartLaws.{no_fade, continues_is}
use Rattle.event_theorems.specs.ByField.{options_stop}
use Rattle.event_theorems.specs.Brings.{brings, step_target, scene_target}
use Rattle.event_theorems.specs.TaskAfter.{task_after, task_after_command, AsItWas, AtRest, Asks, Waits, task_on, towards, until, fade_at, fade_on, fade_asks, fade_answer, task_after_answer, wake, at_limit, step, motion_of}
use Rattle.event_theorems.specs.Fields.{next_state}
use Rattle.event_theorems.proofs.ByFieldHolds.{runs_by}
use Rattle.event_theorems.proofs.NumberLaws.{options_stop_is}
use Rattle.level_theorems.specs.Covered.{SameFade}
use Rattle.level_theorems.specs.FadeTheorems.{LeavesTask}
use Rattle.level_theorems.specs.Runs.{FadesFrom, Follows, answers, wakes, leaves, asks_nothing, leaves_task}
use Rattle.level_theorems.proofs.Coverage.{when_none, passed}
use Rattle.level_theorems.proofs.TaskSteps.{is_plain}

-- Between c and t, before t: the counter moves on.

pub moves_on : (c x t : ℕ) (T : Tenths) → distance t x + distance x c ≡ distance t c → (x ≡ t → ⊥)
    → (distance t (next_level x t T) + distance (next_level x t T) c ≡ distance t c) × (1 ≤ distance (next_level x t T) c)
unfolding next_level
moves_on c x t T h ne = go (is_zero T) refl
  where
    go : (b : Bool) → is_zero T ≡ b
        → (distance t (next_level x t T) + distance (next_level x t T) c ≡ distance t c) × (1 ≤ distance (next_level x t T) c)
    go true z = rw z (omega arith, omega arith)
    go false z =
        let law = rule_laws.counter_moves x t T (pos_of_ne-zero (eqb-false T.0 0 z)) ne in
        step (next_level x t T) law.0 law.1
      where
        step : (n : ℕ) → distance x n ≡ 1 → distance n t + 1 ≡ distance x t → (distance t n + distance n c ≡ distance t c) × (1 ≤ distance n c)
        step n p q = (omega arith, omega arith)

-- A task that is no fade.

not_fade : (x : Task) (f : Fade) → is_plain x ≡ true → x ≡ task.Fade f → ⊥
not_fade x f h e = true≢false (sym h ∙ ap is_plain e)

-- a target that names no fade leaves none
towards_rests : (l : Level) (t T : ℕ) (with_on_off scene puts_back : Bool) (now : Micros) (x : Task) → start_from l t T ≡ NoFade
    → task_on (towards l t T with_on_off scene puts_back now) x ≡ task.Rest
towards_rests (Some c) t T with_on_off scene puts_back now x e = go (eqb c t) refl
  where
    go : (b : Bool) → eqb c t ≡ b → task_on (towards (Some c) t T with_on_off scene puts_back now) x ≡ task.Rest
    go true q = rw q refl
    go false q = no_fade c t T (sym (rw q at e))
towards_rests None t T with_on_off scene puts_back now x e = refl

-- a move runs, or nothing
step_plain : (m : Motion) (d : Mode) (l : Level) (now : Micros) (x : Task) → is_plain (task_on (step m d l now) x) ≡ true
step_plain m Up (Some c) now x = go (ltb c 255)
  where
    go : (b : Bool) → is_plain (task_on (cond b (Asks (c + 1) (task.Move (record { motion = m; asked = c + 1; phase = Asked now }))) AtRest) x) ≡ true
    go true = refl
    go false = refl
step_plain m Down (Some c) now x = go (ltb 0 c)
  where
    go : (b : Bool) → is_plain (task_on (cond b (Asks (c - 1) (task.Move (record { motion = m; asked = c - 1; phase = Asked now }))) AtRest) x) ≡ true
    go true = refl
    go false = refl
step_plain m Up None now x = refl
step_plain m Down None now x = refl

module _ (s : LevelControlState) (at : Micros) (on : Bool) where
  -- the task after an accepted event that no options stop
  task_is : (k : EventKind) → number_of s (event at on k) ≡ 0 → options_stop_in s (event at on k) ≡ false
      → (event_of s (event at on k)).state.task ≡ task_on (task_after s (brings s k) at) s.task
  unfolding next_state
  task_is k z q = ap (λ (o : Outcome). o.state.task) (runs_by s (event at on k) z q)

  -- A command after which a fade runs that no command named asks for nothing.

  abbrev After : Command → Fade → Type 0
  After c g = task_on (task_after s (brings s (kind.Command c)) at) s.task ≡ task.Fade g

  step_leaves : (r : StepRequest) (g : Fade) (l : Level) → s.current_level ≡ l → is_missing l ≡ false → step_start l s r ≡ NoFade
      → task_on (task_after_command s (step_target l s r) at) s.task ≡ task.Fade g → ⊥
  step_leaves r g (Some c) q known e h =
      not_fade _ g refl
      (sym
      (towards_rests s.current_level _ (step_in r.transition_time (distance (step_to r.mode s c r.step_size) c) r.step_size) r.options.with_on_off false false at s.task
      (ap
      (λ (l : Level). start_from l (target s (step_to r.mode s c r.step_size)) (step_in r.transition_time (distance (step_to r.mode s c r.step_size) c) r.step_size))
      q ∙ e))
      ∙ h)
  step_leaves r g None q known e h = true≢false known

  scene_leaves : (r : SceneRequest) (g : Fade) (l : Level) → (scene_tests_at l s on).stopped_by_options ≡ false → scene_start l s on r.transition_time.0 ≡ NoFade
      → task_on (task_after_command s (scene_target l s r.transition_time.0) at) s.task ≡ task.Fade g → is_missing l ≡ true
  scene_leaves r g (Some level) free e h =
      let bits : OptionsBitmap = record { 0 = 0 } in
      let pass = passed level (continues s false on bits bits) free in
      let none = when_none (leb 255 level || passes s false on bits bits) (start_from s.current_level (target s level) (min 65535 (r.transition_time.0 / 100))) e
      (rw (continues_is s false on bits bits) at pass) in
      absurd (not_fade _ g refl (sym (towards_rests s.current_level _ _ false true false at s.task none) ∙ h))
  scene_leaves r g None free e h = refl

  move_leaves : (r : MoveRequest) (g : Fade) (b : Bool)
      → task_on (cond b AsItWas (step (motion_of s r) r.mode s.current_level at)) s.task ≡ task.Fade g → b ≡ true
  move_leaves r g true h = refl
  move_leaves r g false h = absurd (not_fade _ g (step_plain (motion_of s r) r.mode s.current_level at s.task) h)

  free_leaves : (c : Command) (g : Fade) → number_of s (event at on (kind.Command c)) ≡ 0 → options_stop_in s (event at on (kind.Command c)) ≡ false
      → start_of s on (kind.Command c) ≡ NoFade → After c g → asks_nothing s (kind.Command c) ≡ true
  unfolding task_after start_of command_tests_of move_to_level_tests step_tests scene_tests number_of
  free_leaves (command.MoveToLevel r) g z free e h =
      let pass = passed r.level (continues s r.options.with_on_off on r.options.options_mask r.options.options_override) free in
      let none = when_none (leb 255 r.level || passes s r.options.with_on_off on r.options.options_mask r.options.options_override)
      (start_from s.current_level (target s r.level) (given_or r.transition_time 0)) e
      (rw (continues_is s r.options.with_on_off on r.options.options_mask r.options.options_override) at pass) in
      absurd (not_fade _ g refl (sym (towards_rests s.current_level _ _ r.options.with_on_off false false at s.task none) ∙ h))
  free_leaves (command.Move r) g z free e h = move_leaves r g (at_limit r.mode s.current_level s.settings) h
  free_leaves (command.Step r) g z free e h =
      let pass : passes s r.options.with_on_off on r.options.options_mask r.options.options_override ≡ true =
      sym (continues_is s r.options.with_on_off on r.options.options_mask r.options.options_override)
      ∙ not-false (continues s r.options.with_on_off on r.options.options_mask r.options.options_override) free in
      let none = when_none (passes s r.options.with_on_off on r.options.options_mask r.options.options_override) (step_start s.current_level s r) e pass in
      absurd (step_leaves r g s.current_level refl (command_passes _ _ z free).in_state none h)
  free_leaves (command.Stop r) g z free e h = absurd (not_fade _ g refl h)
  free_leaves (command.OnOffChanged true) g z free e h = absurd (let u : ◌≡◌ {A = ℕ} 0 1 = cc in omega arith)
  free_leaves (command.OnOffChanged false) g z free e h =
      absurd (not_fade _ g refl (sym (towards_rests s.current_level _ _ true false true at s.task e) ∙ h))
  free_leaves (command.Scene r) g z free e h = scene_leaves r g r.level free e h
  free_leaves (command.DeviceUpdate level) g z free e h = absurd (not_fade _ g refl h)
  free_leaves command.DeviceStop g z free e h = absurd (not_fade _ g refl h)
  free_leaves (command.SetOnLevel level) g z free e h = refl
  free_leaves (command.SetDefaultMoveRate rate) g z free e h = refl
  free_leaves (command.SetStartUpCurrentLevel level) g z free e h = refl
  free_leaves command.FactoryReset g z free e h = absurd (not_fade _ g refl h)

  command_leaves : (c : Command) (g : Fade) → number_of s (event at on (kind.Command c)) ≡ 0 → start_of s on (kind.Command c) ≡ NoFade
      → (event_of s (event at on (kind.Command c))).state.task ≡ task.Fade g → leaves_task s (event at on (kind.Command c)) ≡ true
  command_leaves c g z e h = by (options_stop_in s (event at on (kind.Command c))) refl
    where
      by : (b : Bool) → options_stop_in s (event at on (kind.Command c)) ≡ b → leaves_task s (event at on (kind.Command c)) ≡ true
      by true q = or_left _ _ (sym (options_stop_is s (event at on (kind.Command c))) ∙ q)
      by false q = or_right _ _ (free_leaves c g z q e (sym (task_is (kind.Command c) z q) ∙ h))

  -- And what asks for nothing leaves whatever runs as it was.
  nothing_leaves : (k : EventKind) → asks_nothing s k ≡ true → task_on (task_after s (brings s k) at) s.task ≡ s.task
  unfolding task_after
  nothing_leaves kind.StartUp h = absurd (true≢false (sym h))
  nothing_leaves (kind.Answer a) h = absurd (true≢false (sym h))
  nothing_leaves kind.Wake h = absurd (true≢false (sym h))
  nothing_leaves (kind.Command (command.MoveToLevel r)) h = absurd (true≢false (sym h))
  nothing_leaves (kind.Command (command.Move r)) h = rw h refl
  nothing_leaves (kind.Command (command.Step r)) h = absurd (true≢false (sym h))
  nothing_leaves (kind.Command (command.Stop r)) h = absurd (true≢false (sym h))
  nothing_leaves (kind.Command (command.OnOffChanged value)) h = absurd (true≢false (sym h))
  nothing_leaves (kind.Command (command.Scene r)) h = by r.level h
    where
      by : (l : Level) → is_missing l ≡ true → task_on (task_after_command s (scene_target l s r.transition_time.0) at) s.task ≡ s.task
      by (Some level) h = absurd (true≢false (sym h))
      by None h = refl
  nothing_leaves (kind.Command (command.DeviceUpdate level)) h = absurd (true≢false (sym h))
  nothing_leaves (kind.Command command.DeviceStop) h = absurd (true≢false (sym h))
  nothing_leaves (kind.Command (command.SetOnLevel level)) h = refl
  nothing_leaves (kind.Command (command.SetDefaultMoveRate rate)) h = refl
  nothing_leaves (kind.Command (command.SetStartUpCurrentLevel level)) h = refl
  nothing_leaves (kind.Command command.FactoryReset) h = absurd (true≢false (sym h))

  leaves_as_was : (k : EventKind) → number_of s (event at on k) ≡ 0 → leaves_task s (event at on k) ≡ true → (event_of s (event at on k)).state.task ≡ s.task
  leaves_as_was k z h = by (options_stop_in s (event at on k)) refl
    where
      by : (b : Bool) → options_stop_in s (event at on k) ≡ b → (event_of s (event at on k)).state.task ≡ s.task
      by true q = ap (λ (o : Outcome). o.state.task) (event_options_stop s (event at on k) z q)
      by false q =
          let free : options_stop s (event at on k) ≡ false = sym (options_stop_is s (event at on k)) ∙ q in
          task_is k z q ∙ nothing_leaves k (rw free at h)

  -- A fade that goes on.

  module _ (c : ℕ) (f g : Fade) (from : FadesFrom c f) where
    asks_on : (left : ℕ) → (f.counter ≡ f.target → ⊥) → task.Fade (fade_at f left (next_level f.counter f.target f.transition_time) (Asked at)) ≡ task.Fade g
        → FadesFrom c g
    asks_on left ne h =
        let same : fade_at f left (next_level f.counter f.target f.transition_time) (Asked at) ≡ g = cc in
        let moved = moves_on c f.counter f.target f.transition_time from.between ne in
        subst (FadesFrom c) same
        (record {
          period = from.period;
          between = moved.0;
          left = moved.1;
          more = λ until q. let z : ◌≡◌ {A = ℕ} 0 1 = cc in omega arith;
          back = from.back;
        })

    waits_on : (left : ℕ) (until : Micros) → (f.counter ≡ f.target → ⊥) → task.Fade (fade_at f left f.counter (Waiting until)) ≡ task.Fade g → FadesFrom c g
    waits_on left until ne h =
        let same : fade_at f left f.counter (Waiting until) ≡ g = cc in
        subst (FadesFrom c) same (record { period = from.period; between = from.between; left = from.left; more = λ until q. ne; back = from.back })

    answered_on : (v : ℕ) (since : Micros) → f.phase ≡ Asked since → task_on (fade_answer (device.Level v) f at) s.task ≡ task.Fade g → FadesFrom c g
    answered_on v since p h = go (eqb f.counter f.target) refl (f.phase) p h
      where
        late : (ne : f.counter ≡ f.target → ⊥) (b : Bool)
            → task_on (cond b (Waits (until since (f.period.0 * 1000)) (task.Fade (fade_at f (f.remaining.0 - f.period.0) f.counter (Waiting (micros (until since (f.period.0 * 1000)))))))
            (fade_asks f (f.remaining.0 - f.period.0) at)) s.task ≡ task.Fade g → FadesFrom c g
        late ne true h = waits_on (f.remaining.0 - f.period.0) (micros (until since (f.period.0 * 1000))) ne h
        late ne false h = asks_on (f.remaining.0 - f.period.0) ne h

        go : (b : Bool) → eqb f.counter f.target ≡ b → (q : Phase) → q ≡ Asked since → task_on (cond b AtRest (fade_on f q at)) s.task ≡ task.Fade g → FadesFrom c g
        go true e q p h = absurd (not_fade _ g refl h)
        go false e q p h = late (eqb-false f.counter f.target e) (leb (at.0 - since.0) (f.period.0 * 1000)) (rw p at h)

  -- what the event's turn says: an answer has a request open, a wake ends a wait, a start-up is the first

  is_open : (f : Fade) (a : DeviceAnswer) → s.task ≡ task.Fade f → number_of s (event at on (kind.Answer a)) ≡ 0 → phase_open f.phase ≡ true
  unfolding number_of turn_tests
  is_open f a q z = sym (ap task_open q) ∙ not-false (task_open s.task) (turn_passes _ _ z).opened

  is_due : (f : Fade) → s.task ≡ task.Fade f → number_of s (event at on kind.Wake) ≡ 0 → phase_due f.phase at ≡ true
  unfolding number_of turn_tests
  is_due f q z = sym (ap (λ (x : Task). task_due x at) q) ∙ not-false (task_due s.task at) (turn_passes _ _ z).due

  is_first : number_of s (event at on kind.StartUp) ≡ 0 → s.started ≡ false
  unfolding number_of turn_tests
  is_first z = (turn_passes _ _ z).first

  -- An accepted event in a state where a fade runs, that names no fade, and after which it still runs.

  module _ (c : ℕ) (f g : Fade) (from : FadesFrom c f) (runs : s.task ≡ task.Fade f) (same : SameFade f g) where
    -- the event is of the fade, or leaves it as it was; and the fade after it is one from c
    abbrev Goes : EventKind → Type 0
    Goes k = Follows s (event at on k) (event_of s (event at on k)).state × FadesFrom c g

    answer_goes : (v : ℕ) → number_of s (event at on (kind.Answer (device.Level v))) ≡ 0
        → (event_of s (event at on (kind.Answer (device.Level v)))).state.task ≡ task.Fade g → Goes (kind.Answer (device.Level v))
    unfolding task_after command_tests_of
    answer_goes v z h = by f.phase refl (is_open f (device.Level v) runs z)
      where
        told : task_on (fade_answer (device.Level v) f at) s.task ≡ task.Fade g
        told =
            ap (λ (x : Task). task_on (task_after_answer x s (device.Level v) at) s.task) (sym runs)
            ∙ sym (task_is (kind.Answer (device.Level v)) z refl)
            ∙ h

        by : (q : Phase) → f.phase ≡ q → phase_open q ≡ true → Goes (kind.Answer (device.Level v))
        by (Asked since) p o = (answers f g since v runs p refl h same, answered_on c f g from v since p told)
        by (Waiting until) p o = absurd (true≢false (sym o))

    wake_goes : number_of s (event at on kind.Wake) ≡ 0 → (event_of s (event at on kind.Wake)).state.task ≡ task.Fade g → Goes kind.Wake
    unfolding task_after command_tests_of
    wake_goes z h = by f.phase refl (is_due f runs z)
      where
        told : task_on (fade_asks f f.remaining.0 at) s.task ≡ task.Fade g
        told = ap (λ (x : Task). task_on (wake x s at) s.task) (sym runs) ∙ sym (task_is kind.Wake z refl) ∙ h

        by : (q : Phase) → f.phase ≡ q → phase_due q at ≡ true → Goes kind.Wake
        by (Asked since) p o = absurd (true≢false (sym o))
        by (Waiting until) p o =
            (wakes f g until runs p (leb-true until.0 at.0 o) refl h same, asks_on c f g from f.remaining.0 (from.more until p) told)

    -- a missing or failed answer ends it
    lost_ends : (a : DeviceAnswer) → with_level a ≡ false → number_of s (event at on (kind.Answer a)) ≡ 0
        → (event_of s (event at on (kind.Answer a))).state.task ≡ task.Fade g → ⊥
    unfolding task_after command_tests_of
    lost_ends a w z h = by a w (ap (λ (x : Task). task_on (task_after_answer x s a at) s.task) (sym runs) ∙ sym (task_is (kind.Answer a) z refl) ∙ h)
      where
        by : (a : DeviceAnswer) → with_level a ≡ false → task_on (fade_answer a f at) s.task ≡ task.Fade g → ⊥
        by (device.Level v) w h = true≢false w
        by device.Missing w h = not_fade _ g refl h
        by device.Failed w h = not_fade _ g refl h

    -- where the event names no fade, and the fade is as it was unless it is an answer with a level or a wake
    pub goes : (k : EventKind) → number_of s (event at on k) ≡ 0 → s.started ≡ true → start_of s on k ≡ NoFade
        → (is_onward k ≡ false → f ≡ g) → (event_of s (event at on k)).state.task ≡ task.Fade g → Goes k
    goes kind.StartUp z begun named kept h = absurd (true≢false (sym begun ∙ is_first z))
    goes (kind.Answer (device.Level v)) z begun named kept h = answer_goes v z h
    goes (kind.Answer device.Missing) z begun named kept h = absurd (lost_ends device.Missing refl z h)
    goes (kind.Answer device.Failed) z begun named kept h = absurd (lost_ends device.Failed refl z h)
    goes kind.Wake z begun named kept h = wake_goes z h
    goes (kind.Command x) z begun named kept h =
        let was : f ≡ g = kept refl in
        (leaves f runs (command_leaves x g z named h) (h ∙ ap task.Fade (sym was)), subst (FadesFrom c) was from)

pub leaves_task_holds : LeavesTask
leaves_task_holds s e ok h = leaves_as_was s e.moment.at e.moment.on_off e.kind (accepted_zero s e ok) h
