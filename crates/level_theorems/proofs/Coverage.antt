-- Every accepted event starts the fade that is named, or leaves no fade but the one that ran before. Assumes nothing.
use Rattle.std.specs.Prelude.{Some, None, Result, Ok, Err}
use Prim.Native.Nat.{ℕ, ◌<◌}
use mathlib.Core.Bool.{Bool, true, false, not, ◌&&◌, ◌||◌, true≢false, false≢true}
use mathlib.Core.Path.{◌≡◌, refl, sym, ap, ◌∙◌}
use native.Mathlib.Omega.{arith}
use borrow.Author.Tests.{leb-false, le-leb, not-false}
use lib.Dec.{leb}
use Rattle.units.specs.Units.{tenths_down}
use Rattle.units.specs.declared.Micros.{Micros}
use Rattle.transitions.specs.Commands.{consults_options}
use Rattle.transitions.specs.Events.{event}
use Rattle.transitions.specs.declared.events.DeviceAnswer.{DeviceAnswer}
use Rattle.transitions.specs.declared.events.DeviceAnswer.TheVariants as device
use Rattle.transitions.specs.declared.events.EventKind.{EventKind}
use Rattle.transitions.specs.declared.events.EventKind.TheVariants as kind
use Rattle.transitions.specs.declared.events.MoveToLevelRequest.{MoveToLevelRequest}
use Rattle.transitions.specs.declared.events.SceneRequest.{SceneRequest}
use Rattle.transitions.specs.declared.events.StepRequest.{StepRequest}
use Rattle.transitions.specs.declared.tasks.OnReaction.{OnReaction}
use Rattle.transitions.specs.declared.tasks.Phase.{Phase}
use Rattle.transitions.specs.declared.tasks.Phase.TheVariants.{Asked, Waiting}
use Rattle.transitions.specs.declared.tasks.Task.{Task}
use Rattle.transitions.specs.declared.tasks.Task.TheVariants as task
use Rattle.transitions.specs.Types.{Level}
use Rattle.transitions.specs.declared.types.OptionsBitmap.{OptionsBitmap}
use Rattle.level_control.specs.State.{accept, reset_state}
use Rattle.level_control.specs.Judge.{continues}
use Rattle.level_control.specs.Targets.{quiet, moved_to_level, stepped_level, stepped_time, stepped_by, stepped_from, stepped, recalled_at, recalled, stopped}
use Rattle.level_control.specs.Moves.{move_missing}
use Rattle.level_control.specs.Fades.{device_failed}
use Rattle.level_control.specs.Reactions.{on_answered, turned_on, turned_off, switched}
use Rattle.level_control.specs.StartUp.{start_up_level, start_up_at, started_up}
use Rattle.level_control.specs.Updates.{updated}
use Rattle.level_control.specs.Setters.{on_level_set, default_move_rate_set, start_up_current_level_set, reset_all}
use Rattle.level_control.specs.Judge.{move_to_level_tests, step_tests, scene_tests_at, scene_tests, command_tests_of}
use Rattle.level_control.specs.Handle.{fade_answered_in, move_answered_in, answered_in, answered, woken_in, woken, run}
use Rattle.level_control.specs.Run.{is_onward, with_level}
use Rattle.level_control.specs.Starts.{Start, NoFade, start_from, target, passes, when, given_or, step_to, distance, step_in, step_start, scene_start, start_of, on_start_at}
use Rattle.level_theorems.specs.Covered.{NoneNamed}
use Rattle.level_control.specs.declared.state.LevelControlState.{LevelControlState}
use Rattle.level_control.proofs.EventLaws.{options_stop_in}
use Rattle.level_control.proofs.StartLaws.{go_to_rests, target_is, step_is, continues_is, on_rests}
use Rattle.level_theorems.proofs.TaskSteps.{Becomes, reacts, stays, plain, rests, move_goes, move_answered_goes, start_up_answered_goes, begin_move_goes, fade_answered_goes, fade_woken_goes}
use Rattle.units.specs.declared.Tenths.{Tenths}
use Rattle.transitions.specs.declared.causes.Refusal.{Refusal}
use Rattle.transitions.specs.declared.events.Command.TheVariants as command

-- What is named when the options let an event pass.

pub when_none : (b : Bool) (x : Start) → when b x ≡ NoFade → b ≡ true → x ≡ NoFade
when_none true x e p = e
when_none false x e p = absurd (false≢true p)

pub passed : (level : ℕ) (x : Bool) → (consults_options level && not x) ≡ false → (leb 255 level || x) ≡ true
passed level x e = go (leb 255 level) refl x e
  where
    go : (b : Bool) → leb 255 level ≡ b → (x : Bool) → (consults_options level && not x) ≡ false → (leb 255 level || x) ≡ true
    go true q x e = rw q refl
    go false q true e = rw q refl
    go false q false e =
        let low : level < 255 = leb-false 255 level q in
        absurd (true≢false (rw (le-leb level 254 (omega arith)) at e))

module _ (s : LevelControlState) (at : Micros) (on : Bool) where
  -- an on reaction begins
  abbrev pub Reacts : EventKind → OnReaction → Type 0
  Reacts k r = (k ≡ kind.Command (command.OnOffChanged true)) × (r.before ≡ s.current_level)

  abbrev pub Runs : EventKind → Type 0
  Runs k = Becomes (Reacts k) s.task (is_onward k) (run (accept s at) k at on).state.task

  move_to_level_none : (r : MoveToLevelRequest) → options_stop_in s (event at on (kind.Command (command.MoveToLevel r))) ≡ false → start_of s on (kind.Command (command.MoveToLevel r)) ≡ NoFade
      → Runs (kind.Command (command.MoveToLevel r))
  unfolding start_of run moved_to_level command_tests_of move_to_level_tests
  move_to_level_none r free e =
      let pass = passed r.level (continues s r.options.with_on_off on r.options.options_mask r.options.options_override) free in
      let none = when_none (leb 255 r.level || passes s r.options.with_on_off on r.options.options_mask r.options.options_override)
      (start_from s.current_level (target s r.level) (given_or r.transition_time 0)) e
      (rw (continues_is s r.options.with_on_off on r.options.options_mask r.options.options_override) at pass) in
      rests (Reacts (kind.Command (command.MoveToLevel r))) s.task false _
      (go_to_rests _ _ at on (given_or r.transition_time 0)
      (ap (λ (x : ℕ). start_from s.current_level x (given_or r.transition_time 0)) (target_is s r.level) ∙ none))

  off_none : start_of s on (kind.Command (command.OnOffChanged false)) ≡ NoFade → Runs (kind.Command (command.OnOffChanged false))
  unfolding start_of run switched turned_off
  off_none e =
      let time : ℕ = given_or s.attributes.off_transition_time s.attributes.on_off_transition_time.0 in
      rests (Reacts (kind.Command (command.OnOffChanged false))) s.task false _
      (go_to_rests _ _ at on time (ap (λ (x : ℕ). start_from s.current_level x time) (target_is s s.settings.range.min) ∙ e))

  scene_none : (r : SceneRequest) → options_stop_in s (event at on (kind.Command (command.Scene r))) ≡ false → start_of s on (kind.Command (command.Scene r)) ≡ NoFade → Runs (kind.Command (command.Scene r))
  unfolding start_of run recalled command_tests_of scene_tests
  scene_none r free e = by r.level free e
    where
      bits : OptionsBitmap
      bits = record { 0 = 0 }

      time : ℕ
      time = (tenths_down r.transition_time).0

      by : (l : Level) → (scene_tests_at l s on).stopped_by_options ≡ false → scene_start l s on r.transition_time.0 ≡ NoFade
          → Becomes (Reacts (kind.Command (command.Scene r))) s.task false (recalled_at l (accept s at) r at on).state.task
      by (Some level) free e =
          let pass = passed level (continues s false on bits bits) free in
          let none = when_none (leb 255 level || passes s false on bits bits) (start_from s.current_level (target s level) time) e
          (rw (continues_is s false on bits bits) at pass) in
          rests (Reacts (kind.Command (command.Scene r))) s.task false _ (go_to_rests _ _ at on time (ap (λ (x : ℕ). start_from s.current_level x time) (target_is s level) ∙ none))
      by None free e = stays refl

  step_none : (r : StepRequest) → options_stop_in s (event at on (kind.Command (command.Step r))) ≡ false → start_of s on (kind.Command (command.Step r)) ≡ NoFade → Runs (kind.Command (command.Step r))
  unfolding start_of run stepped command_tests_of step_tests stepped_level
  step_none r free e = by s.current_level refl none
    where
      pass : passes s r.options.with_on_off on r.options.options_mask r.options.options_override ≡ true
      pass =
          sym (continues_is s r.options.with_on_off on r.options.options_mask r.options.options_override)
          ∙ not-false (continues s r.options.with_on_off on r.options.options_mask r.options.options_override) free

      none : step_start s.current_level s r ≡ NoFade
      none = when_none (passes s r.options.with_on_off on r.options.options_mask r.options.options_override) (step_start s.current_level s r) e pass

      takes : (c : ℕ) → s.current_level ≡ Some c → step_start (Some c) s r ≡ NoFade → (x : Result Tenths Refusal)
          → Becomes (Reacts (kind.Command (command.Step r))) s.task false (stepped_by x (accept s at) c r at on).state.task
      takes c q e (Ok time) =
          let within : ℕ = step_in r.transition_time (distance (step_to r.mode s c r.step_size) c) r.step_size in
          rests (Reacts (kind.Command (command.Step r))) s.task false _
          (go_to_rests _ _ at on within
          (ap (λ (x : ℕ). start_from s.current_level x within) (target_is s (stepped_level s c r) ∙ ap (target s) (step_is s c r))
          ∙ ap (λ (l : Level). start_from l (target s (step_to r.mode s c r.step_size)) within) q
          ∙ e))
      takes c q e (Err cause) = stays refl

      by : (l : Level) → s.current_level ≡ l → step_start l s r ≡ NoFade → Becomes (Reacts (kind.Command (command.Step r))) s.task false (stepped_from l (accept s at) r at on).state.task
      by (Some c) q e = takes c q e (stepped_time (accept s at) c r)
      by None q e = stays refl

  -- an answer, by the task whose request is open
  answer_none : (a : DeviceAnswer) (x : Task)
      → ((r : OnReaction) (v : ℕ) → x ≡ task.OnReaction r → kind.Answer a ≡ kind.Answer (device.Level v) → on_start_at s.attributes.on_level r.before s v ≡ NoFade)
      → s.task ≡ x → Becomes (Reacts (kind.Answer a)) x (with_level a) (answered_in x (accept s at) a at on).state.task
  unfolding on_answered move_missing device_failed
  answer_none a task.Rest n q = stays q
  answer_none a task.StartUp n q = start_up_answered_goes (Reacts (kind.Answer a)) task.StartUp (with_level a) (accept s at) a
  answer_none a (task.Fade f) n q = by f.phase
    where
      by : (p : Phase) → Becomes (Reacts (kind.Answer a)) (task.Fade f) (with_level a) (fade_answered_in p (accept s at) f a at on).state.task
      by (Asked since) = fade_answered_goes (Reacts (kind.Answer a)) (accept s at) f since at on a
      by (Waiting until) = stays q
  answer_none a (task.Move m) n q = by m.phase
    where
      by : (p : Phase) → Becomes (Reacts (kind.Answer a)) (task.Move m) (with_level a) (move_answered_in p (accept s at) m a at on).state.task
      by (Asked since) = move_answered_goes (Reacts (kind.Answer a)) (task.Move m) (with_level a) (accept s at) m since at on a
      by (Waiting until) = stays q
  answer_none (device.Level v) (task.OnReaction r) n q =
      rests (Reacts (kind.Answer (device.Level v))) (task.OnReaction r) true _ (on_rests s r.before at on v (n r v refl refl))
  answer_none device.Missing (task.OnReaction r) n q = plain (Reacts (kind.Answer device.Missing)) (task.OnReaction r) false task.Rest refl
  answer_none device.Failed (task.OnReaction r) n q = plain (Reacts (kind.Answer device.Failed)) (task.OnReaction r) false task.Rest refl

  wake_none : (x : Task) → s.task ≡ x → Becomes (Reacts kind.Wake) x true (woken_in x (accept s at) at on).state.task
  wake_none task.Rest q = stays q
  wake_none task.StartUp q = stays q
  wake_none (task.Fade f) q = fade_woken_goes (Reacts kind.Wake) (accept s at) f at
  wake_none (task.Move m) q = move_goes (Reacts kind.Wake) (task.Move m) true (quiet (accept s at)) m.motion at on
  wake_none (task.OnReaction r) q = stays q

  pub runs_none : (k : EventKind) → options_stop_in s (event at on k) ≡ false → NoneNamed s (event at on k) → Runs k
  unfolding run started_up reset_state stopped switched turned_on answered woken updated on_level_set default_move_rate_set start_up_current_level_set reset_all
  runs_none kind.StartUp free n = by (start_up_level (accept s at))
    where
      by : (l : Level) → Becomes (Reacts kind.StartUp) s.task false (start_up_at l (accept s at)).state.task
      by (Some level) = plain (Reacts kind.StartUp) s.task false task.StartUp refl
      by None = stays refl
  runs_none (kind.Command (command.MoveToLevel r)) free n = move_to_level_none r free n.direct
  runs_none (kind.Command (command.Move r)) free n = begin_move_goes (Reacts (kind.Command (command.Move r))) false (accept s at) r at on
  runs_none (kind.Command (command.Step r)) free n = step_none r free n.direct
  runs_none (kind.Command (command.Stop r)) free n = plain (Reacts (kind.Command (command.Stop r))) s.task false task.Rest refl
  runs_none (kind.Answer a) free n = answer_none a s.task n.on refl
  runs_none kind.Wake free n = wake_none s.task refl
  runs_none (kind.Command (command.OnOffChanged true)) free n = reacts (record { before = s.current_level }) refl (refl, refl)
  runs_none (kind.Command (command.OnOffChanged false)) free n = off_none n.direct
  runs_none (kind.Command (command.Scene r)) free n = scene_none r free n.direct
  runs_none (kind.Command (command.DeviceUpdate level)) free n = plain (Reacts (kind.Command (command.DeviceUpdate level))) s.task false task.Rest refl
  runs_none (kind.Command command.DeviceStop) free n = plain (Reacts (kind.Command command.DeviceStop)) s.task false task.Rest refl
  runs_none (kind.Command (command.SetOnLevel level)) free n = stays refl
  runs_none (kind.Command (command.SetDefaultMoveRate rate)) free n = stays refl
  runs_none (kind.Command (command.SetStartUpCurrentLevel level)) free n = stays refl
  runs_none (kind.Command command.FactoryReset) free n = plain (Reacts (kind.Command command.FactoryReset)) s.task false task.Rest refl
