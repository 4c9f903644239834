-- What an event that is no answer gives, by field and by letter. Assumes nothing.
use Rattle.std.specs.Prelude.{Some, None, Result, Ok, ℕ}
use Prim.Native.Nat.{ℕ}
use mathlib.Core.Bool.{Bool, true, false, cond, ◌&&◌, true≢false}
use mathlib.Core.Path.{◌≡◌, refl, sym, ap, ◌∙◌}
use mathlib.Core.List.{List, [], ◌++◌, append-nil, append_assoc}
use borrow.Author.Tests.{eqb-false}
use Rattle.std.proofs.Math.Nat.{pos_of_ne-zero}
use Rattle.units.specs.Units.{tenths}
use Rattle.units.specs.declared.Micros.{Micros}
use Rattle.units.specs.declared.Tenths.{Tenths}
use Rattle.transitions.specs.Commands.{target_level, is_invalid}
use Rattle.transitions.specs.CurrentLevel.{second, current_level_due}
use Rattle.transitions.specs.Actions.{act, act_if, act_coupled}
use Rattle.transitions.specs.Matter.{changed, move_rate}
use Rattle.transitions.specs.MovePeriod.{move_period}
use Rattle.transitions.specs.RemainingTime.{remaining_time_due}
use Rattle.transitions.specs.Tasks.{at_limit, fade_asking}
use Rattle.transitions.specs.Types.{is_missing, level_or, time_or}
use Rattle.transitions.specs.declared.actions.Action.{Action}
use Rattle.transitions.specs.declared.actions.ActionKind.TheVariants.{K, L}
use Rattle.transitions.specs.declared.events.MoveRequest.{MoveRequest}
use Rattle.transitions.specs.declared.events.MoveToLevelRequest.{MoveToLevelRequest}
use Rattle.transitions.specs.declared.events.SceneRequest.{SceneRequest}
use Rattle.transitions.specs.declared.events.StepRequest.{StepRequest}
use Rattle.transitions.specs.declared.settings.Attributes.{Attributes}
use Rattle.transitions.specs.declared.tasks.Task.{Task}
use Rattle.transitions.specs.declared.tasks.Task.TheVariants as task
use Rattle.transitions.specs.Types.{Level}
use Rattle.transitions.specs.declared.types.Mode.{Mode}
use Rattle.transitions.specs.declared.types.Mode.TheVariants.{Up, Down}
use Rattle.transitions.proofs.MatterLaws.{matter_agrees}
use Rattle.transitions.proofs.RuleLaws.{rule_laws}
use Rattle.transitions.specs.Actions.{reports_of}
use Rattle.level_control.specs.Answer.{Outcome, done}
use Rattle.level_control.specs.Judge.{overflows_from, step_overflows}
use Rattle.level_control.specs.Handle.{woken_in, woken}
use Rattle.level_control.specs.Fades.{fade_woken}
use Rattle.level_control.specs.Moves.{move_at, begin_move, rate_by}
use Rattle.level_control.specs.Reactions.{off_time, turned_on, turned_off, switched}
use Rattle.level_control.specs.Reports.{level_due, set_level, write_remaining_time}
use Rattle.level_control.specs.StartUp.{start_up_or, start_up_level, start_up_at, started_up}
use Rattle.level_control.specs.Updates.{updated}
use Rattle.level_control.specs.Setters.{reset_all}
use Rattle.level_control.specs.Starts.{distance, given_or, step_in, target}
use Rattle.level_control.specs.State.{accept, reset_state, with_attributes, with_task}
use Rattle.level_control.specs.Targets.{quiet, request_to, go_to, moved_to_level, recalled_at, recalled, stepped_by, stepped_from, stepped, stepped_level, stepped_time, stopped}
use Rattle.transitions.specs.Actions.{Reports}
use Rattle.level_control.specs.declared.state.LevelControlState.{LevelControlState}
use Rattle.level_control.proofs.StartLaws.{target_is, given_is, step_is, takes}
use Rattle.event_theorems.specs.Brings.{Brings, TaskEvent, Runs, Target, turned, scene_target, step_target}
use Rattle.event_theorems.specs.Brings as bring
use Rattle.event_theorems.specs.TaskAfter as becomes
use Rattle.event_theorems.specs.TaskAfter.{task_after_command, task_letter, towards, task_on}
use Rattle.event_theorems.specs.Fields.{next_state}
use Rattle.event_theorems.specs.Letters.{couples_reached, reached, command_couples_first, command_reports, command_couples_last, leaves_min, wake_couples, letters}
use Rattle.event_theorems.proofs.NumberLaws.{rate_is}
use Rattle.event_theorems.proofs.CommandLaws.{goes, go_to_is, move_is, changed_to, told_letters}
use Rattle.transitions.specs.declared.causes.Refusal.{Refusal}

-- the rate in force, where it is not 0
rate_goes : (s : LevelControlState) (r : MoveRequest) → is_invalid (rate_by s r) ≡ false
    → rate_by s r ≡ Ok (move_rate r.rate s.attributes.default_move_rate s.settings.fastest_rate)
unfolding rate_by
rate_goes s r valid =
    matter_agrees.rate r.rate s.attributes.default_move_rate s.settings.fastest_rate
    (let n = move_rate r.rate s.attributes.default_move_rate s.settings.fastest_rate in
    let some : n ≡ 0 → ⊥ = eqb-false n 0 (sym (rate_is s r) ∙ valid) in
    pos_of_ne-zero some)

-- what the pages say that an event gives
abbrev pub gives : LevelControlState → Brings → Micros → Bool → Outcome
gives s b at on = done (next_state s b at) (letters s b at on)

module _ (s : LevelControlState) (at : Micros) (on : Bool) where
  -- a command gives its C, L, C and the task's letter
  command_gives : (c : TaskEvent)
      → goes (accept s at) (task_after_command s c at) (act_coupled (command_couples_first c s on) ++ act_if (command_reports c s) L ++ act_coupled (command_couples_last c s on))
      ≡ gives s (Runs c) at on
  unfolding next_state letters becomes.task_after level_or
  command_gives c =
      ap (λ (l : List Action). done (with_task (accept s at) (task_on (task_after_command s c at) s.task)) l)
      (append_assoc (act_coupled (command_couples_first c s on) ++ act_if (command_reports c s) L) (act_coupled (command_couples_last c s on)) (task_letter (task_after_command s c at))
      ∙ append_assoc (act_coupled (command_couples_first c s on)) (act_if (command_reports c s) L) (act_coupled (command_couples_last c s on) ++ task_letter (task_after_command s c at)))

  target_gives : (level : ℕ) (time : Tenths) (t T : ℕ) (with_on_off scene puts_back : Bool)
      → target_level level s.settings.range.min s.settings.range.max ≡ t → time.0 ≡ T
      → go_to (quiet (accept s at)) (request_to (accept s at) level time with_on_off scene puts_back) at on ≡ gives s (Runs (Target t T with_on_off scene puts_back)) at on
  unfolding reports_of
  target_gives level time t T with_on_off scene puts_back to within =
      go_to_is (quiet (accept s at)) (request_to (accept s at) level time with_on_off scene puts_back) at on s.current_level refl
      ∙ ap (λ (x : ℕ). goes (accept s at) (towards s.current_level x time.0 with_on_off scene puts_back at) (first x)) to
      ∙ ap (λ (y : ℕ). goes (accept s at) (towards s.current_level t y with_on_off scene puts_back at) (first t)) within
      ∙ ap (λ (l : List Action). goes (accept s at) (towards s.current_level t T with_on_off scene puts_back at) l) (sym (append-nil (first t)))
      ∙ command_gives (Target t T with_on_off scene puts_back)
    where
      first : ℕ → List Action
      first x =
          act_coupled (couples_reached s.current_level x with_on_off s.settings on)
          ++ act_if (reached s.current_level x && (puts_back && is_missing s.attributes.on_level)) L

  pub move_to_level_gives : (r : MoveToLevelRequest)
      → moved_to_level (accept s at) r at on ≡ gives s (Runs (Target (target s r.level) (given_or r.transition_time 0) r.options.with_on_off false false)) at on
  unfolding moved_to_level
  move_to_level_gives r =
      target_gives r.level (time_or r.transition_time (tenths 0)) _ _ r.options.with_on_off false false (target_is s r.level) (given_is r.transition_time (tenths 0))

  pub turned_gives : (value : Bool) → switched (accept s at) value at on ≡ gives s (Runs (turned value s)) at on
  unfolding switched turned_on turned_off off_time
  turned_gives true = command_gives bring.On
  turned_gives false =
      target_gives s.settings.range.min (off_time (accept s at)) _ _ true false true (target_is s s.settings.range.min)
      (given_is s.attributes.off_transition_time s.attributes.on_off_transition_time)

  pub scene_gives : (r : SceneRequest) → recalled (accept s at) r at on ≡ gives s (Runs (scene_target r.level s r.transition_time.0)) at on
  unfolding recalled
  scene_gives r = by r.level
    where
      by : (l : Level) → recalled_at l (accept s at) r at on ≡ gives s (Runs (scene_target l s r.transition_time.0)) at on
      by (Some level) = target_gives level _ _ _ false true false (target_is s level) refl
      by None = command_gives bring.NoTarget

  pub start_up_gives : started_up (accept s at) ≡ gives s (Runs bring.StartUp) at on
  unfolding started_up start_up_level
  start_up_gives = by s.attributes.start_up_current_level ∙ command_gives bring.StartUp
    where
      stored : (c : Level) → start_up_at c (accept s at) ≡ goes (accept s at) (becomes.start_up None c s) []
      stored (Some level) = refl
      stored None = refl

      by : (l : Level) → start_up_at (start_up_or l (accept s at)) (accept s at) ≡ goes (accept s at) (becomes.start_up l s.current_level s) []
      by (Some level) = refl
      by None = stored s.current_level

  pub stop_gives : stopped (accept s at) ≡ gives s bring.Stops at on
  unfolding stopped write_remaining_time next_state letters becomes.task_after level_or
  stop_gives = ap (λ (l : List Action). done (next_state s bring.Stops at) l) (sym (append-nil _))

  pub step_gives : (r : StepRequest) → is_missing s.current_level ≡ false → step_overflows s r ≡ false
      → stepped (accept s at) r at on ≡ gives s (Runs (step_target s.current_level s r)) at on
  unfolding stepped stepped_level stepped_time step_overflows
  step_gives r known fits = by s.current_level known fits
    where
      by : (l : Level) → is_missing l ≡ false → overflows_from l s r ≡ false → stepped_from l (accept s at) r at on ≡ gives s (Runs (step_target l s r)) at on
      by (Some c) known fits =
          let (x, takes-x, within) = takes r.transition_time (distance (stepped_level s c r) c) r.step_size fits in
          ap (λ (t : Result Tenths Refusal). stepped_by t (accept s at) c r at on) takes-x
          ∙ target_gives (stepped_level s c r) x _ _ r.options.with_on_off false false (target_is s (stepped_level s c r) ∙ ap (target s) (step_is s c r))
          (within ∙ ap (λ (y : ℕ). step_in r.transition_time (distance y c) r.step_size) (step_is s c r))
      by None known fits = absurd (true≢false known)

  pub move_gives : (r : MoveRequest) → is_invalid (rate_by s r) ≡ false → begin_move (accept s at) r at on ≡ gives s (Runs (bring.Move r)) at on
  unfolding begin_move at_limit rate_by move_period reports_of
  move_gives r valid =
      ap (λ (b : Bool). cond b (done (accept s at) []) (move_at (rate_by (accept s at) r) (accept s at) r at on)) (limit r.mode s.current_level)
      ∙ by (becomes.at_limit r.mode s.current_level s.settings)
      ∙ command_gives (bring.Move r)
    where
      limit : (m : Mode) (l : Level) → at_limit l m s.settings.range.min s.settings.range.max ≡ becomes.at_limit m l s.settings
      limit Up (Some c) = refl
      limit Up None = refl
      limit Down (Some c) = refl
      limit Down None = refl

      by : (b : Bool) → cond b (done (accept s at) []) (move_at (rate_by (accept s at) r) (accept s at) r at on)
          ≡ goes (accept s at) (cond b becomes.AsItWas (becomes.step (becomes.motion_of s r) r.mode s.current_level at))
          (act_coupled (cond b None (leaves_min r.mode s.current_level (becomes.motion_of s r) s.settings on)))
      by true = refl
      by false =
          ap (λ (x : Result ℕ Refusal). move_at x (accept s at) r at on) (rate_goes s r valid)
          ∙ move_is (quiet (accept s at)) (becomes.motion_of s r) at on s.current_level refl

  pub wake_gives : woken (accept s at) at on ≡ gives s (Runs bring.Wake) at on
  unfolding woken fade_woken reports_of fade_asking
  wake_gives = by s.task ∙ command_gives bring.Wake
    where
      by : (x : Task) → woken_in x (accept s at) at on ≡ goes (accept s at) (becomes.wake x s at) (act_coupled (wake_couples x s on))
      by task.Rest = refl
      by task.StartUp = refl
      by (task.Fade f) = refl
      by (task.Move m) = move_is (quiet (accept s at)) m.motion at on s.current_level refl
      by (task.OnReaction r) = refl

  pub update_gives : (level : ℕ) → updated (accept s at) level at ≡ gives s (bring.Updates level) at on
  unfolding updated set_level level_due current_level_due write_remaining_time next_state letters becomes.task_after level_or
  update_gives level =
      let changes : Bool → Bool → Reports =
      λ stored due. record {
        stored = stored;
        scene = true;
        coupling = None;
        level = due;
        time = remaining_time_due s.remaining_time (tenths 0) false;
      } in
      ap (λ (l : List Action). done (next_state s (bring.Updates level) at) l)
      (ap (λ (b : Bool). reports_of (changes b (level_due (accept s at) (Some level) at true))) (changed_to s.current_level level)
      ∙ ap (λ (b : Bool). reports_of (changes (changed s.current_level (Some level)) b))
      (rule_laws.end_report second s.last_current_level_notification at s.current_level (Some level))
      ∙ sym (append-nil _)
      ∙ told_letters (changes (changed s.current_level (Some level)) true) [])

  pub set_gives : (a : Attributes) → done (with_attributes (accept s at) a) (act K 0) ≡ gives s (bring.Sets a) at on
  unfolding next_state letters becomes.task_after level_or
  set_gives a = refl

  pub reset_gives : reset_all (accept s at) ≡ gives s bring.Resets at on
  unfolding reset_all reset_state next_state letters becomes.task_after level_or
  reset_gives = refl
