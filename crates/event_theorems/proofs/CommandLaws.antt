-- What begins a task, or goes on with one, by field and by letter. Assumes nothing.
use Rattle.std.specs.Prelude.{Some, None}
use Prim.Native.Nat.{ℕ, ◌+◌, ◌-◌}
use mathlib.Core.Bool.{Bool, true, false, cond, not, ◌&&◌, and-false}
use mathlib.Core.Path.{◌≡◌, refl, sym, ap, ◌∙◌}
use mathlib.Core.List.{List, [], ◌++◌, append-nil, append_assoc}
use native.Mathlib.Omega.{arith}
use borrow.Author.Tests.{eqb-true, lt-ltb, le-ltb}
use lib.Dec.{eqb, ltb}
use Rattle.units.specs.declared.Micros.{Micros}
use Rattle.transitions.specs.Actions.{act, act_if, act_coupled}
use Rattle.transitions.specs.Fade.{fade_period, next_level}
use Rattle.transitions.specs.Matter.{changed}
use Rattle.transitions.specs.Tasks.{begin_fade, fade_from, next_move}
use Rattle.transitions.specs.Types.{is_missing, is_level, same_level}
use Rattle.transitions.specs.declared.actions.Action.{Action}
use Rattle.transitions.specs.declared.actions.ActionKind.TheVariants.{E, L, P, R, S}
use Rattle.transitions.specs.declared.tasks.Begin.TheVariants as begin
use Rattle.transitions.specs.declared.tasks.FadeRequest.{FadeRequest}
use Rattle.transitions.specs.declared.tasks.Motion.{Motion}
use Rattle.transitions.specs.declared.tasks.MoveStep.TheVariants as step
use Rattle.transitions.specs.declared.tasks.Phase.TheVariants.{Asked}
use Rattle.transitions.specs.declared.tasks.Task.TheVariants as task
use Rattle.transitions.specs.Types.{Level}
use Rattle.transitions.specs.declared.types.Mode.{Mode}
use Rattle.transitions.specs.declared.types.Mode.TheVariants.{Up, Down}
use Rattle.transitions.specs.Actions.{reports_of}
use Rattle.level_control.specs.Answer.{Outcome, done}
use Rattle.level_control.specs.Moves as moves
use Rattle.level_control.specs.Moves.{move_by, move_goes_on}
use Rattle.level_control.specs.Coupling.{coupled_by}
use Rattle.level_control.specs.State.{with_task}
use Rattle.level_control.specs.Targets.{go_to_by, go_to}
use Rattle.transitions.specs.Actions.{Reports}
use Rattle.level_control.specs.Reports.{Told}
use Rattle.level_control.specs.declared.state.LevelControlState.{LevelControlState}
use Rattle.event_theorems.specs.TaskAfter as becomes
use Rattle.event_theorems.specs.TaskAfter.{TaskAfter, task_on, task_letter, towards}
use Rattle.event_theorems.specs.Letters.{couples, couples_reached, leaves_min, reached}

-- what is told, letter by letter
pub told_letters : (r : Reports) (x : List Action)
    → reports_of r ++ x ≡ act_if r.stored P ++ (act_if r.scene S ++ (act_coupled r.coupling ++ (act_if r.level L ++ (act_if r.time R ++ x))))
unfolding reports_of
told_letters r x =
    let p = act_if r.stored P in
    let q = act_if r.scene S in
    let c = act_coupled r.coupling in
    let l = act_if r.level L in
    let t = act_if r.time R in
    append_assoc (p ++ q ++ c ++ l) t x ∙ append_assoc (p ++ q ++ c) l (t ++ x) ∙ append_assoc (p ++ q) c (l ++ (t ++ x)) ∙ append_assoc p q (c ++ (l ++ (t ++ x)))

-- P stands if the level changes

pub changed_to : (l : Level) (v : ℕ) → not (is_level l v) ≡ changed l (Some v)
changed_to (Some c) v = refl
changed_to None v = refl

pub changed_away : (l : Level) → not (is_missing l) ≡ changed l None
changed_away (Some c) = refl
changed_away None = refl

pub changed_is : (l new : Level) → not (same_level l new) ≡ changed l new
unfolding same_level
changed_is l (Some v) = changed_to l v
changed_is l None = changed_away l

-- a state with what becomes of its task, and some actions before the letter of that
abbrev pub goes : LevelControlState → TaskAfter → List Action → Outcome
goes s c l = done (with_task s (task_on c s.task)) (l ++ task_letter c)

same_actions : (s : LevelControlState) (l m : List Action) → l ≡ m → done s l ≡ done s m
same_actions s l m e = ap (λ (x : List Action). done s x) e

no_others : (l m : List Action) → l ++ m ≡ ((l ++ []) ++ []) ++ m
no_others l m = ap (λ (x : List Action). x ++ m) (sym (append-nil (l ++ []) ∙ append-nil l))

-- a target: what is told first, C, L, and what becomes of the task
pub go_to_is : (t : Told) (r : FadeRequest) (at : Micros) (on : Bool) (l : Level) → t.state.current_level ≡ l
    → go_to t r at on
    ≡ goes t.state (towards l r.target r.transition_time.0 r.with_on_off r.scene_apply r.puts_back at)
    (reports_of t.reports
    ++ act_coupled (couples_reached l r.target r.with_on_off t.state.settings on)
    ++ act_if (reached l r.target && (r.puts_back && is_missing t.state.attributes.on_level)) L)
unfolding go_to begin_fade coupled_by fade_from fade_period
go_to_is t r at on (Some c) e = ap (λ (x : Level). go_to_by (begin_fade x r at) t r on) e ∙ by (eqb c r.target)
  where
    starts : TaskAfter
    starts =
        becomes.Asks (next_level c r.target r.transition_time)
        (task.Fade (becomes.fade_over c r.target r.transition_time.0 r.with_on_off r.scene_apply r.puts_back at))

    by : (b : Bool)
        → go_to_by (cond b begin.Reached (begin.Starts (fade_from c r at))) t r on
        ≡ goes t.state (cond b becomes.AtRest starts)
        (reports_of t.reports
        ++ act_coupled (cond b (couples t.state.settings r.with_on_off on r.target) None)
        ++ act_if (b && (r.puts_back && is_missing t.state.attributes.on_level)) L)
    by true = same_actions _ _ _ (sym (append-nil _))
    by false = same_actions _ _ _ (no_others (reports_of t.reports) _)
go_to_is t r at on None e =
    ap (λ (x : Level). go_to_by (begin_fade x r at) t r on) e ∙ same_actions _ _ _ (no_others (reports_of t.reports) _)

-- a request that leaves MIN upwards

leaves_up : (s : LevelControlState) (c : ℕ) (with_on_off on : Bool) → s.current_level ≡ Some c
    → moves.leaves_min s (c + 1) with_on_off on ≡ cond (eqb c s.settings.range.min && true) (couples s.settings with_on_off on (c + 1)) None
unfolding moves.leaves_min coupled_by
leaves_up s c with_on_off on e =
    ap (λ (x : Level). cond (is_level x s.settings.range.min && ltb s.settings.range.min (c + 1)) (couples s.settings with_on_off on (c + 1)) None) e
    ∙ by (eqb c s.settings.range.min) refl
  where
    by : (b : Bool) → eqb c s.settings.range.min ≡ b
        → cond (b && ltb s.settings.range.min (c + 1)) (couples s.settings with_on_off on (c + 1)) None ≡ cond (b && true) (couples s.settings with_on_off on (c + 1)) None
    by true q = let same : c ≡ s.settings.range.min = eqb-true _ _ q in rw (lt-ltb s.settings.range.min (c + 1) (omega arith)) refl
    by false q = refl

leaves_down : (s : LevelControlState) (c : ℕ) (with_on_off on : Bool) → s.current_level ≡ Some c → moves.leaves_min s (c - 1) with_on_off on ≡ None
unfolding moves.leaves_min
leaves_down s c with_on_off on e =
    ap (λ (x : Level). cond (is_level x s.settings.range.min && ltb s.settings.range.min (c - 1)) (coupled_by s (c - 1) with_on_off on) None) e
    ∙ by (eqb c s.settings.range.min) refl
  where
    by : (b : Bool) → eqb c s.settings.range.min ≡ b → cond (b && ltb s.settings.range.min (c - 1)) (coupled_by s (c - 1) with_on_off on) None ≡ None
    by true q = let same : c ≡ s.settings.range.min = eqb-true _ _ q in rw (le-ltb s.settings.range.min (c - 1) (omega arith)) refl
    by false q = refl

-- a move: what is told first, C, and what becomes of the task
pub move_is : (t : Told) (m : Motion) (at : Micros) (on : Bool) (l : Level) → t.state.current_level ≡ l
    → move_goes_on t m at on
    ≡ goes t.state (becomes.step m m.mode l at) (reports_of t.reports ++ act_coupled (leaves_min m.mode l m t.state.settings on))
unfolding move_goes_on next_move
move_is t m at on l e = ap (λ (x : Level). move_by (next_move x m.mode) t m at on) e ∙ from m.mode l e
  where
    up : (c : ℕ) → t.state.current_level ≡ Some c → (b : Bool) → move_by (cond b (step.Asks (c + 1)) step.Ends) t m at on
        ≡ goes t.state (cond b (becomes.Asks (c + 1) (task.Move (record { motion = m; asked = c + 1; phase = Asked at }))) becomes.AtRest)
        (reports_of t.reports ++ act_coupled (cond (eqb c t.state.settings.range.min && b) (couples t.state.settings m.with_on_off on (c + 1)) None))
    up c e true = same_actions _ _ _ (rw (leaves_up t.state c m.with_on_off on e) refl)
    up c e false = same_actions _ _ _ (rw (and-false (eqb c t.state.settings.range.min)) (sym (append-nil _ ∙ append-nil _)))

    down : (c : ℕ) → t.state.current_level ≡ Some c → (b : Bool) → move_by (cond b (step.Asks (c - 1)) step.Ends) t m at on
        ≡ goes t.state (cond b (becomes.Asks (c - 1) (task.Move (record { motion = m; asked = c - 1; phase = Asked at }))) becomes.AtRest)
        (reports_of t.reports ++ act_coupled None)
    down c e true = same_actions _ _ _ (rw (leaves_down t.state c m.with_on_off on e) refl)
    down c e false = same_actions _ _ _ (sym (append-nil _ ∙ append-nil _))

    from : (x : Mode) (l : Level) → t.state.current_level ≡ l → move_by (next_move l x) t m at on
        ≡ goes t.state (becomes.step m x l at) (reports_of t.reports ++ act_coupled (leaves_min x l m t.state.settings on))
    from Up (Some c) e = up c e (ltb c 255)
    from Down (Some c) e = down c e (ltb 0 c)
    from Up None e = same_actions _ _ _ (ap (λ (x : List Action). x ++ act E 11) (sym (append-nil (reports_of t.reports))))
    from Down None e = same_actions _ _ _ (ap (λ (x : List Action). x ++ act E 11) (sym (append-nil (reports_of t.reports))))
