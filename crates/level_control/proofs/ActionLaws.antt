-- Actions pushed one after another, and what stands before them. Assumes nothing.
use Rattle.std.specs.Prelude.{Option, Some, None, is_some}
use Prim.Native.Nat.{ℕ, ◌+◌, ◌≤◌}
use mathlib.Core.Bool.{Bool, true, false, ◌&&◌, not, true≢false, false≢true}
use mathlib.Core.Path.{◌≡◌, refl, sym, ap, ◌∙◌}
use mathlib.Core.List.{List, [], ◌∷◌, ◌++◌, append-nil, append_assoc}
use native.Mathlib.Omega.{arith}
use lib.Dec.{eqb}
use lib.ListN.{length, take, drop, replicate, length-append}
use Rattle.std.proofs.lemmas.List.{take_all}
use Rattle.units.specs.declared.Micros.{Micros}
use Rattle.transitions.specs.Actions.{Reports, held, held_if, held_coupled, reports_of}
use Rattle.transitions.specs.Causes.{refusal_number}
use Rattle.transitions.specs.Actions.{act, act_if, act_coupled}
use Rattle.transitions.specs.Tasks.{begin_fade}
use Rattle.transitions.specs.Types.{Level, is_missing}
use Rattle.transitions.specs.declared.actions.Action.{Action}
use Rattle.transitions.specs.declared.actions.ActionKind.{ActionKind}
use Rattle.transitions.specs.declared.actions.ActionKind.TheVariants.{P, S, L, R}
use Rattle.transitions.specs.declared.causes.Refusal.{Refusal}
use Rattle.transitions.specs.declared.causes.Refusal.TheVariants.{TimeRefused, AnswerOpen, NoAnswerOpen, WakeRefused, StartUpLate, InvalidCommand, InvalidInState, ProductTooLarge, LevelOutside, RateZero}
use Rattle.transitions.specs.declared.tasks.Begin.{Begin}
use Rattle.transitions.specs.declared.tasks.Begin.TheVariants as begin
use Rattle.transitions.specs.declared.tasks.Fade.{Fade}
use Rattle.transitions.specs.declared.tasks.FadeRequest.{FadeRequest}
use Rattle.transitions.specs.declared.tasks.Move.{Move}
use Rattle.transitions.specs.declared.tasks.Motion.{Motion}
use Rattle.transitions.specs.declared.tasks.MoveStep.{MoveStep}
use Rattle.transitions.specs.declared.tasks.MoveStep.TheVariants as step
use Rattle.transitions.specs.declared.tasks.OnReaction.{OnReaction}
use Rattle.level_control.specs.Answer.{done, after, refusal_of}
use Rattle.level_control.specs.Reports.{Told}
use Rattle.level_control.specs.Targets.{quiet, go_to, go_to_by}
use Rattle.level_control.specs.Fades.{ended_put_back, fade_ended, fade_ended_by, fade_goes_on, fade_then}
use Rattle.level_control.specs.Moves.{move_by, move_goes_on, move_next, move_then}
use Rattle.level_control.specs.Reactions.{on_to, on_goes_on}

-- One action more, in a list that has room.

pub pushed : (l : List Action) (k : ActionKind) (v : ℕ) → length l ≤ 6 → held (l ++ act k v) ≡ l ++ act k v
pushed l k v h = take_all 7 (l ++ act k v) (omega (arith, length-append l (act k v)))

pub pushed_if : (l : List Action) (t : Bool) (k : ActionKind) → length l ≤ 6 → held_if t k l ≡ l ++ act_if t k
pushed_if l true k h = pushed l k 0 h
pushed_if l false k h = sym (append-nil l)

pub pushed_coupling : (l : List Action) (c : Option Bool) → length l ≤ 6 → held_coupled c l ≡ l ++ act_coupled c
pushed_coupling l (Some on) h = pushed l _ _ h
pushed_coupling l None h = sym (append-nil l)

length_if : (l : List Action) (t : Bool) (k : ActionKind) → length (l ++ act_if t k) ≤ length l + 1
length_if l true k = omega (arith, length-append l (act k 0))
length_if l false k = omega (arith, length-append l [])

length_coupled : (l : List Action) (c : Option Bool) → length (l ++ act_coupled c) ≤ length l + 1
length_coupled l (Some true) = omega (arith, length-append l (act_coupled (Some true)))
length_coupled l (Some false) = omega (arith, length-append l (act_coupled (Some false)))
length_coupled l None = omega (arith, length-append l [])

-- Two more.

pub coupled_then : (l : List Action) (c : Option Bool) (k : ActionKind) (v : ℕ) → length l ≤ 5
    → held (held_coupled c l ++ act k v) ≡ l ++ (act_coupled c ++ act k v)
coupled_then l c k v h =
    let few = length_coupled l c in
    ap (λ (x : List Action). held (x ++ act k v)) (pushed_coupling l c (omega arith))
    ∙ pushed (l ++ act_coupled c) k v (omega arith)
    ∙ simp append_assoc

pub coupled_then_if : (l : List Action) (c : Option Bool) (t : Bool) (k : ActionKind) → length l ≤ 5
    → held_if t k (held_coupled c l) ≡ l ++ (act_coupled c ++ act_if t k)
coupled_then_if l c t k h =
    let few = length_coupled l c in
    ap (held_if t k) (pushed_coupling l c (omega arith))
    ∙ pushed_if (l ++ act_coupled c) t k (omega arith)
    ∙ simp append_assoc

-- the same where the test asks whether a level is missing
pub coupled_then_missing : (l : List Action) (c : Option Bool) (r b : Bool) (level : Level) (k : ActionKind) → length l ≤ 5 → is_some level ≡ not b
    → held_if (r && b) k (held_coupled c l) ≡ l ++ (act_coupled c ++ act_if (r && is_missing level) k)
coupled_then_missing l c r true (Some v) k h e = absurd (true≢false e)
coupled_then_missing l c r false (Some v) k h e = coupled_then_if l c (r && false) k h
coupled_then_missing l c r true None k h e = coupled_then_if l c (r && true) k h
coupled_then_missing l c r false None k h e = absurd (false≢true e)

pub if_then : (l : List Action) (t : Bool) (j k : ActionKind) (v : ℕ) → length l ≤ 5
    → held (held_if t j l ++ act k v) ≡ l ++ (act_if t j ++ act k v)
if_then l t j k v h =
    let few = length_if l t j in
    ap (λ (x : List Action). held (x ++ act k v)) (pushed_if l t j (omega arith))
    ∙ pushed (l ++ act_if t j) k v (omega arith)
    ∙ simp append_assoc

-- What is told of a state.

first_three : (p s : Bool) (c : Option Bool)
    → held_coupled c (held_if s S (held_if p P [])) ≡ act_if p P ++ act_if s S ++ act_coupled c
first_three true true (Some on) = refl
first_three true true None = refl
first_three true false (Some on) = refl
first_three true false None = refl
first_three false true (Some on) = refl
first_three false true None = refl
first_three false false (Some on) = refl
first_three false false None = refl

three_few : (p s : Bool) (c : Option Bool) → length (act_if p P ++ act_if s S ++ act_coupled c) ≤ 3
three_few p s c =
    let one = length_if [] p P in
    let two = length_if (act_if p P) s S in
    let three = length_coupled (act_if p P ++ act_if s S) c in
    omega arith

pub five_pushed : (p s : Bool) (c : Option Bool) (l t : Bool)
    → held_if t R (held_if l L (held_coupled c (held_if s S (held_if p P []))))
    ≡ reports_of (record { stored = p; scene = s; coupling = c; level = l; time = t })
unfolding reports_of
five_pushed p s c l t =
    let few = three_few p s c in
    let x = act_if p P ++ act_if s S ++ act_coupled c in
    let four = length_if x l L in
    ap (λ (x : List Action). held_if t R (held_if l L x)) (first_three p s c)
    ∙ ap (held_if t R) (pushed_if x l L (omega arith))
    ∙ pushed_if (x ++ act_if l L) t R (omega arith)

pub missing_told : (p s : Bool) (k : ActionKind) (v : ℕ)
    → held (held_if s S (held_if p P []) ++ act k v) ≡ act_if p P ++ act_if s S ++ act k v
missing_told true true k v = refl
missing_told true false k v = refl
missing_told false true k v = refl
missing_told false false k v = refl

pub reports_few : (r : Reports) → length (reports_of r) ≤ 5
unfolding reports_of
reports_few r =
    let x = act_if r.stored P ++ act_if r.scene S ++ act_coupled r.coupling in
    let few = three_few r.stored r.scene r.coupling in
    let four = length_if x r.level L in
    let five = length_if (x ++ act_if r.level L) r.time R in
    omega arith

pub three_told : (p l : Bool)
    → held_if l L (held (held_if p P [] ++ act S 0))
    ≡ reports_of (record { stored = p; scene = true; coupling = None; level = l; time = false })
unfolding reports_of
three_told true true = refl
three_told true false = refl
three_told false true = refl
three_told false false = refl

pub time_told : (p l t : Bool)
    → reports_of (record { stored = p; scene = true; coupling = None; level = l; time = false }) ++ act_if t R
    ≡ reports_of (record { stored = p; scene = true; coupling = None; level = l; time = t })
unfolding reports_of
time_told true true true = refl
time_told true true false = refl
time_told true false true = refl
time_told true false false = refl
time_told false true true = refl
time_told false true false = refl
time_told false false true = refl
time_told false false false = refl

-- What is told of a state stands before what follows.

module _ (t : Told) where
  pub go_to_after : (r : FadeRequest) (at : Micros) (on : Bool) → go_to t r at on ≡ after (reports_of t.reports) (go_to (quiet t.state) r at on)
  unfolding go_to reports_of
  go_to_after r at on = by (begin_fade t.state.current_level r at)
    where
      by : (b : Begin) → go_to_by b t r on ≡ after (reports_of t.reports) (go_to_by b (quiet t.state) r on)
      by begin.Reached = ap (done _) (simp append_assoc)
      by begin.Lost = refl
      by (begin.Starts f) = refl

  pub fade_goes_on_after : (f : Fade) (since at : Micros) → fade_goes_on t f since at ≡ after (reports_of t.reports) (fade_goes_on (quiet t.state) f since at)
  unfolding fade_goes_on reports_of
  fade_goes_on_after f since at = by _
    where
      by : (n : Option Micros) → fade_then n t f at ≡ after (reports_of t.reports) (fade_then n (quiet t.state) f at)
      by (Some until) = refl
      by None = refl

  pub fade_ended_after : (puts_back : Option ℕ) → fade_ended t puts_back ≡ after (reports_of t.reports) (fade_ended (quiet t.state) puts_back)
  unfolding fade_ended ended_put_back reports_of
  fade_ended_after puts_back = by _
    where
      by : (back : Level) → fade_ended_by back t ≡ after (reports_of t.reports) (fade_ended_by back (quiet t.state))
      by (Some before) = ap (done _) (simp append_assoc)
      by None = ap (done _) (sym (append-nil (reports_of t.reports)))

  pub move_goes_on_after : (m : Motion) (at : Micros) (on : Bool) → move_goes_on t m at on ≡ after (reports_of t.reports) (move_goes_on (quiet t.state) m at on)
  unfolding move_goes_on reports_of
  move_goes_on_after m at on = by _
    where
      by : (n : MoveStep) → move_by n t m at on ≡ after (reports_of t.reports) (move_by n (quiet t.state) m at on)
      by step.Lost = refl
      by step.Ends = ap (done _) (sym (append-nil (reports_of t.reports)))
      by (step.Asks asked) = ap (done _) (simp append_assoc)

  pub move_then_after : (m : Move) (since at : Micros) (on : Bool) → move_then t m since at on ≡ after (reports_of t.reports) (move_then (quiet t.state) m since at on)
  unfolding move_then reports_of
  move_then_after m since at on = by _
    where
      by : (n : Option Micros) → move_next n t m at on ≡ after (reports_of t.reports) (move_next n (quiet t.state) m at on)
      by (Some until) = refl
      by None = move_goes_on_after m.motion at on

  pub on_goes_on_after : (r : OnReaction) (at : Micros) (on : Bool) → on_goes_on t r at on ≡ after (reports_of t.reports) (on_goes_on (quiet t.state) r at on)
  unfolding on_goes_on reports_of
  on_goes_on_after r at on = by _
    where
      by : (l : Level) → on_to l t at on ≡ after (reports_of t.reports) (on_to l (quiet t.state) at on)
      by (Some level) = go_to_after _ at on
      by None = refl

-- A refusal's number is not that of an accepted event.
pub refusal_not_0 : (cause : Refusal) → eqb (refusal_number cause) 0 ≡ false
refusal_not_0 TimeRefused = refl
refusal_not_0 AnswerOpen = refl
refusal_not_0 NoAnswerOpen = refl
refusal_not_0 WakeRefused = refl
refusal_not_0 StartUpLate = refl
refusal_not_0 InvalidCommand = refl
refusal_not_0 InvalidInState = refl
refusal_not_0 ProductTooLarge = refl
refusal_not_0 LevelOutside = refl
refusal_not_0 RateZero = refl

-- A refusal is the one that has its number.
pub refusal_found : (cause : Refusal) → refusal_of (refusal_number cause) ≡ Some cause
refusal_found TimeRefused = refl
refusal_found AnswerOpen = refl
refusal_found NoAnswerOpen = refl
refusal_found WakeRefused = refl
refusal_found StartUpLate = refl
refusal_found InvalidCommand = refl
refusal_found InvalidInState = refl
refusal_found ProductTooLarge = refl
refusal_found LevelOutside = refl
refusal_found RateZero = refl

-- A list of at most seven in an array of seven whose other slots are free.
pub array_filled : (l : List Action) (x : Action) → length l ≤ 7 → take 7 (l ++ replicate 7 x) ≡ l ++ drop (length l) (replicate 7 x)
array_filled [] x h = refl
array_filled (a ∷ []) x h = refl
array_filled (a ∷ b ∷ []) x h = refl
array_filled (a ∷ b ∷ c ∷ []) x h = refl
array_filled (a ∷ b ∷ c ∷ d ∷ []) x h = refl
array_filled (a ∷ b ∷ c ∷ d ∷ e ∷ []) x h = refl
array_filled (a ∷ b ∷ c ∷ d ∷ e ∷ f ∷ []) x h = refl
array_filled (a ∷ b ∷ c ∷ d ∷ e ∷ f ∷ g ∷ []) x h = refl
array_filled (a ∷ b ∷ c ∷ d ∷ e ∷ f ∷ g ∷ i ∷ l) x h = absurd (omega arith)
