-- How a fade and a move begin and go on, in the words of docs/RULES.md: proofs for specs/Laws.antt. Assumes nothing.
use Rattle.std.specs.Prelude.{Option, Some, None, is_some}
use Prim.Native.Nat.{ℕ, ◌+◌, ◌-◌, ◌*◌, ◌≤◌, ◌<◌}
use mathlib.Core.Bool.{Bool, true, false, cond, false≢true}
use mathlib.Core.Path.{◌≡◌, refl, sym, ap, subst, ◌∙◌}
use mathlib.Core.List.{List, [], ◌∷◌}
use mathlib.Core.Logic.{◌↔◌, ◌⊎◌, inl, inr, ⊎_elim}
use native.Mathlib.Nat.{mul-div-le, lt-mul-div-succ}
use native.Mathlib.Omega.{arith}
use borrow.Author.Tests.{ltb-true, ltb-false, eqb-true, eqb-false, eq-eqb}
use lib.Dec.{ltb, eqb}
use Rattle.std.proofs.lemmas.Bool.{or_cases, or_left, or_right}
use Rattle.std.proofs.lemmas.Option.{none-some, same_Some}
use Rattle.units.specs.Numbers.{apart}
use Rattle.units.specs.Units.{millis}
use Rattle.units.specs.declared.Tenths.{Tenths}
use Rattle.units.specs.declared.Millis.{Millis}
use Rattle.units.specs.declared.Micros.{Micros}
use Rattle.transitions.specs.Fade.{fade_period, is_transition_start, next_level}
use Rattle.transitions.specs.Tasks.{phase_open, phase_due, open_in, due_in, task_open, task_due, open_request, due_wait, kept_to_put_back, fade_from, begin_fade, begin_number, begin_requests, level_to_put_back, next_move, move_step_number, move_step_requests, is_move_end, at_limit}
use Rattle.transitions.specs.Laws.{BeginsAt}
use Rattle.transitions.specs.Types.{Level}
use Rattle.transitions.specs.declared.types.Mode.{Mode}
use Rattle.transitions.specs.declared.types.Mode.TheVariants.{Up, Down}
use Rattle.transitions.specs.declared.tasks.Begin.TheVariants.{Reached, Lost, Starts}
use Rattle.transitions.specs.declared.tasks.Fade.{Fade}
use Rattle.transitions.specs.declared.tasks.FadeRequest.{FadeRequest}
use Rattle.transitions.specs.declared.tasks.Phase.{Phase}
use Rattle.transitions.specs.declared.tasks.Phase.TheVariants.{Asked, Waiting}
use Rattle.transitions.specs.declared.tasks.Request.{Request}
use Rattle.transitions.specs.declared.tasks.Task.{Task}
use Rattle.transitions.specs.declared.tasks.Task.TheVariants as task
use Rattle.transitions.specs.declared.tasks.Wait.{Wait}
use Rattle.transitions.specs.declared.tasks.MoveStep.TheVariants as step

-- Lists of one number

pub none_is_not_one : (v : ℕ) → ◌≡◌ {A = List ℕ} [] (v ∷ []) → ⊥
none_is_not_one v e = let z : ◌≡◌ {A = ℕ} 0 1 = cc in omega arith

pub one_is : (v w : ℕ) → ◌≡◌ {A = List ℕ} (v ∷ []) (w ∷ []) → v ≡ w
one_is v w e = cc

pub one : (v w : ℕ) → v ≡ w → ◌≡◌ {A = List ℕ} (v ∷ []) (w ∷ [])
one v w e = ap (λ (n : ℕ). n ∷ []) e

-- Open requests, and waits that are over

request_in : (p : Phase) (request : Micros → Request) → is_some (open_in p request) ≡ phase_open p
request_in (Asked since) request = refl
request_in (Waiting until) request = refl

pub request_given : (t : Task) → is_some (open_request t) ≡ task_open t
request_given task.Rest = refl
request_given task.StartUp = refl
request_given (task.Fade f) = request_in f.phase _
request_given (task.Move m) = request_in m.phase _
request_given (task.OnReaction o) = refl

some_if : (test : Bool) (w : Wait) → is_some (cond test (Some w) None) ≡ test
some_if true w = refl
some_if false w = refl

wait_in : (p : Phase) (now : Micros) (w : Wait) → is_some (due_in p now w) ≡ phase_due p now
wait_in (Asked since) now w = refl
wait_in (Waiting until) now w = some_if _ w

pub wait_given : (t : Task) (now : Micros) → is_some (due_wait t now) ≡ task_due t now
wait_given task.Rest now = refl
wait_given task.StartUp now = refl
wait_given (task.Fade f) now = wait_in f.phase now _
wait_given (task.Move m) now = wait_in m.phase now _
wait_given (task.OnReaction o) now = refl

-- Fades

pub fade_period_0 : (time : Tenths) → fade_period time 0 ≡ millis 0
unfolding fade_period
fade_period_0 time = ap millis (omega arith)

pub fade_period_rounds : (time : Tenths) (n : ℕ) → 1 ≤ n
    → (n * (fade_period time n).0 ≤ 100 * time.0) × (100 * time.0 < n * ((fade_period time n).0 + 1))
unfolding fade_period
fade_period_rounds time n h =
    (omega (arith, mul-div-le (time.0 * 100) n), omega (arith, lt-mul-div-succ (time.0 * 100) h))

pub start : (remaining : Millis) (time : Tenths) → (is_transition_start remaining time ≡ true) ↔ (remaining.0 ≡ 100 * time.0)
unfolding is_transition_start
start remaining time = (
  λ e. omega (arith, eqb-true remaining.0 (time.0 * 100) e),
  λ h. eq-eqb remaining.0 (time.0 * 100) (omega arith),
)

module _ (r : FadeRequest) (now : Micros) where
  reached_not_started : (f : Fade) → Reached ≡ Starts f → ⊥
  reached_not_started f e = let z : ◌≡◌ {A = ℕ} 0 1 = cc in omega arith

  lost_not_reached : Lost ≡ Reached → ⊥
  lost_not_reached e = let z : ◌≡◌ {A = ℕ} 0 1 = cc in omega arith

  pub begin_11 : (level : Level) → (begin_number (begin_fade level r now) ≡ 11) ↔ (level ≡ None)
  unfolding begin_fade
  begin_11 (Some c) = go (eqb c r.target)
    where
      go : (b : Bool) → (begin_number (cond b Reached (Starts (fade_from c r now))) ≡ 11) ↔ (Some c ≡ None)
      go true = (λ e. absurd (omega arith), λ e. absurd (none-some c (sym e)))
      go false = (λ e. absurd (omega arith), λ e. absurd (none-some c (sym e)))
  begin_11 None = (λ e. refl, λ e. refl)

  pub begin_reached : (level : Level) → (begin_fade level r now ≡ Reached) ↔ (level ≡ Some r.target)
  unfolding begin_fade
  begin_reached (Some c) = go (eqb c r.target) refl
    where
      go : (b : Bool) → eqb c r.target ≡ b → (cond b Reached (Starts (fade_from c r now)) ≡ Reached) ↔ (Some c ≡ Some r.target)
      go true e = (λ h. ap Some (eqb-true c r.target e), λ h. refl)
      go false e = (
        λ h. absurd (reached_not_started (fade_from c r now) (sym h)),
        λ h. absurd (eqb-false c r.target e (same_Some c r.target h)),
      )
  begin_reached None = (λ e. absurd (lost_not_reached e), λ e. absurd (none-some r.target e))

  pub begin_asks : (level : Level) (asked : ℕ)
      → (begin_requests (begin_fade level r now) ≡ asked ∷ [])
      ↔ ((c : ℕ) × (level ≡ Some c) × (c ≡ r.target → ⊥) × (asked ≡ next_level c r.target r.transition_time))
  unfolding begin_fade fade_from
  begin_asks (Some c) asked = go (eqb c r.target) refl
    where
      go : (b : Bool) → eqb c r.target ≡ b
          → (begin_requests (cond b Reached (Starts (fade_from c r now))) ≡ asked ∷ [])
          ↔ ((k : ℕ) × (Some c ≡ Some k) × (k ≡ r.target → ⊥) × (asked ≡ next_level k r.target r.transition_time))
      go true e = (
        λ h. absurd (none_is_not_one asked h),
        λ h. absurd (h.2 (sym (same_Some c h.0 h.1) ∙ eqb-true c r.target e)),
      )
      go false e = (
        λ h. (c, refl, eqb-false c r.target e, sym (one_is (next_level c r.target r.transition_time) asked h)),
        λ h. one (next_level c r.target r.transition_time) asked
            (ap (λ (k : ℕ). next_level k r.target r.transition_time) (same_Some c h.0 h.1) ∙ sym h.3),
      )
  begin_asks None asked = (λ h. absurd (none_is_not_one asked h), λ h. absurd (none-some h.0 h.1))

  puts_back_exactly : (b : Bool) (c before : ℕ) → (kept_to_put_back b c ≡ Some before) ↔ ((b ≡ true) × (before ≡ c))
  puts_back_exactly true c before = (λ e. (refl, cc), λ h. ap Some (sym h.1))
  puts_back_exactly false c before = (λ e. absurd (let z : ◌≡◌ {A = ℕ} 0 1 = cc in omega arith), λ h. absurd (false≢true h.0))

  begins : (c : ℕ) → (c ≡ r.target → ⊥) → BeginsAt c r now (fade_from c r now)
  unfolding fade_from
  begins c ne = record {
    its_on_off = refl;
    its_scene = refl;
    its_target = refl;
    its_time = refl;
    remains = omega arith;
    rounds_down = fade_period_rounds r.transition_time (apart r.target c) (omega arith);
    puts_back = puts_back_exactly r.puts_back c;
    asked_now = refl;
  }

  pub begin_fade_begins : (c : ℕ) (f : Fade) → begin_fade (Some c) r now ≡ Starts f → BeginsAt c r now f
  unfolding begin_fade
  begin_fade_begins c f = go (eqb c r.target) refl
    where
      go : (b : Bool) → eqb c r.target ≡ b → cond b Reached (Starts (fade_from c r now)) ≡ Starts f → BeginsAt c r now f
      go true e h = absurd (reached_not_started f h)
      go false e h = let same : fade_from c r now ≡ f = cc in subst (BeginsAt c r now) same (begins c (eqb-false c r.target e))

-- Moves

pub move_11 : (level : Level) (mode : Mode) → (move_step_number (next_move level mode) ≡ 11) ↔ (level ≡ None)
unfolding next_move
move_11 (Some c) Up = go (ltb c 255)
  where
    go : (b : Bool) → (move_step_number (cond b (step.Asks (c + 1)) step.Ends) ≡ 11) ↔ (Some c ≡ None)
    go true = (λ e. absurd (omega arith), λ e. absurd (none-some c (sym e)))
    go false = (λ e. absurd (omega arith), λ e. absurd (none-some c (sym e)))
move_11 (Some c) Down = go (ltb 0 c)
  where
    go : (b : Bool) → (move_step_number (cond b (step.Asks (c - 1)) step.Ends) ≡ 11) ↔ (Some c ≡ None)
    go true = (λ e. absurd (omega arith), λ e. absurd (none-some c (sym e)))
    go false = (λ e. absurd (omega arith), λ e. absurd (none-some c (sym e)))
move_11 None mode = (λ e. refl, λ e. refl)

asks_not_ends : (l : ℕ) → step.Asks l ≡ step.Ends → ⊥
asks_not_ends l e = let z : ◌≡◌ {A = ℕ} 0 1 = cc in omega arith

pub move_up : (c asked : ℕ) → (move_step_requests (next_move (Some c) Up) ≡ asked ∷ []) ↔ ((asked ≡ c + 1) × (asked ≤ 255))
unfolding next_move
move_up c asked = go (ltb c 255) refl
  where
    go : (b : Bool) → ltb c 255 ≡ b → (move_step_requests (cond b (step.Asks (c + 1)) step.Ends) ≡ asked ∷ []) ↔ ((asked ≡ c + 1) × (asked ≤ 255))
    go true e = (
      λ h. let same : c + 1 ≡ asked = one_is (c + 1) asked h in (sym same, omega (arith, ltb-true c 255 e)),
      λ h. one (c + 1) asked (sym h.0),
    )
    go false e = (λ h. absurd (none_is_not_one asked h), λ h. absurd (omega (arith, ltb-false c 255 e, h.0, h.1)))

pub move_down : (c asked : ℕ) → (move_step_requests (next_move (Some c) Down) ≡ asked ∷ []) ↔ (asked + 1 ≡ c)
unfolding next_move
move_down c asked = go (ltb 0 c) refl
  where
    go : (b : Bool) → ltb 0 c ≡ b → (move_step_requests (cond b (step.Asks (c - 1)) step.Ends) ≡ asked ∷ []) ↔ (asked + 1 ≡ c)
    go true e = (
      λ h. let same : c - 1 ≡ asked = one_is (c - 1) asked h in omega (arith, ltb-true 0 c e),
      λ h. one (c - 1) asked (omega arith),
    )
    go false e = (λ h. absurd (none_is_not_one asked h), λ h. absurd (omega (arith, ltb-false 0 c e)))

pub move_passes : (c : ℕ) → ((next_move (Some c) Up ≡ step.Ends) ↔ (255 < c + 1)) × ((next_move (Some c) Down ≡ step.Ends) ↔ (c < 1))
unfolding next_move
move_passes c = (up (ltb c 255) refl, down (ltb 0 c) refl)
  where
    up : (b : Bool) → ltb c 255 ≡ b → (cond b (step.Asks (c + 1)) step.Ends ≡ step.Ends) ↔ (255 < c + 1)
    up true e = (λ h. absurd (asks_not_ends (c + 1) h), λ h. absurd (omega (arith, ltb-true c 255 e)))
    up false e = (λ h. omega (arith, ltb-false c 255 e), λ h. refl)

    down : (b : Bool) → ltb 0 c ≡ b → (cond b (step.Asks (c - 1)) step.Ends ≡ step.Ends) ↔ (c < 1)
    down true e = (λ h. absurd (asks_not_ends (c - 1) h), λ h. absurd (omega (arith, ltb-true 0 c e)))
    down false e = (λ h. omega (arith, ltb-false 0 c e), λ h. refl)

pub move_end : (asked lo hi : ℕ) → (is_move_end asked lo hi ≡ true) ↔ ((asked ≡ lo) ⊎ (asked ≡ hi))
move_end asked lo hi = (
  λ e. ⊎_elim (λ f. inr (eqb-true asked hi f)) (λ f. inl (eqb-true asked lo f)) (or_cases (eqb asked hi) (eqb asked lo) e),
  ⊎_elim (λ h. or_right (eqb asked hi) (eqb asked lo) (eq-eqb asked lo h)) (λ h. or_left (eqb asked hi) (eqb asked lo) (eq-eqb asked hi h)),
)

up_not_down : Up ≡ Down → ⊥
up_not_down e = let z : ◌≡◌ {A = ℕ} 0 1 = cc in omega arith

pub at_limit_means : (level : Level) (mode : Mode) (lo hi : ℕ)
    → (at_limit level mode lo hi ≡ true) ↔ (((mode ≡ Down) × (level ≡ Some lo)) ⊎ ((mode ≡ Up) × (level ≡ Some hi)))
unfolding at_limit
at_limit_means (Some c) Up lo hi = (
  λ e. inr (refl, ap Some (eqb-true c hi e)),
  ⊎_elim (λ h. absurd (up_not_down h.0)) (λ h. eq-eqb c hi (same_Some c hi h.1)),
)
at_limit_means (Some c) Down lo hi = (
  λ e. inl (refl, ap Some (eqb-true c lo e)),
  ⊎_elim (λ h. eq-eqb c lo (same_Some c lo h.1)) (λ h. absurd (up_not_down (sym h.0))),
)
at_limit_means None Up lo hi = (
  λ e. absurd (false≢true e),
  ⊎_elim (λ h. absurd (up_not_down h.0)) (λ h. absurd (none-some hi h.1)),
)
at_limit_means None Down lo hi = (
  λ e. absurd (false≢true e),
  ⊎_elim (λ h. absurd (none-some lo h.1)) (λ h. absurd (up_not_down (sym h.0))),
)

-- Reactions

pub put_back_means : (put_back : Option ℕ) (on_level : Level) (before : ℕ)
    → (level_to_put_back put_back on_level ≡ Some before) ↔ ((put_back ≡ Some before) × (on_level ≡ None))
unfolding level_to_put_back
put_back_means None on_level before = (
  λ e. absurd (none-some before e),
  λ h. absurd (let e = h.0 in let z : ◌≡◌ {A = ℕ} 0 1 = cc in omega arith),
)
put_back_means (Some b) (Some c) before = (λ e. absurd (none-some before e), λ h. absurd (none-some c (sym h.1)))
put_back_means (Some b) None before = (
  λ e. (ap Some (same_Some b before e), refl),
  λ h. ap Some (let e = h.0 in let same : b ≡ before = cc in same),
)
