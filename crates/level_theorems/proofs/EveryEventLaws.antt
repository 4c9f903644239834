-- Every event, proved. Assumes nothing.
use Prim.Native.Nat.{ℕ, ◌≤◌, min}
use Rattle.std.specs.Prelude.{Option, All}
use lib.ListN.{length, take, drop, replicate, length-append}
use mathlib.Core.Bool.{Bool, true, false, cond, true≢false, false≢true}
use mathlib.Core.Path.{◌≡◌, refl, sym, ap, subst, ◌∙◌}
use mathlib.Core.Logic.{◌↔◌, ◌⊎◌, inl, inr}
use mathlib.Core.List.{List, [], ◌∷◌, ◌++◌}
use native.Mathlib.Omega.{arith}
use borrow.Author.Tests.{eqb-true, eqb-false, ltb-false}
use lib.Dec.{eqb}
use Rattle.units.specs.Units.{before, micros}
use Rattle.units.specs.declared.Micros.{Micros}
use Rattle.transitions.specs.Causes.{Row, rows, first_cause, event_tests}
use Rattle.transitions.specs.declared.causes.CommandTests.{CommandTests}
use Rattle.transitions.specs.declared.causes.TurnTests.{TurnTests}
use Rattle.transitions.specs.Actions.{action, act}
use Rattle.transitions.specs.Search.{NoneOf, First}
use Rattle.transitions.specs.declared.actions.Action.{Action}
use Rattle.transitions.specs.declared.actions.ActionKind.TheVariants.{W, X}
use Rattle.transitions.specs.declared.causes.Refusal.{Refusal}
use Rattle.transitions.specs.declared.events.DeviceAnswer.{DeviceAnswer}
use Rattle.transitions.specs.declared.events.Event.{Event}
use Rattle.transitions.specs.declared.events.EventKind.{EventKind}
use Rattle.transitions.specs.declared.events.EventKind.TheVariants as kind
use Rattle.transitions.specs.declared.tasks.Phase.TheVariants.{Waiting}
use Rattle.transitions.proofs.RuleLaws.{rule_laws}
use Rattle.level_control.specs.Answer.{Outcome, done, refused, packed, answer_of, refusal_of, number_shown}
use Rattle.level_control.specs.Judge.{time_refused, turn_tests, command_tests_of}
use Rattle.level_control.specs.Handle.{run, number_of, event_of}
use Rattle.level_control.specs.Setters.{reset_all}
use Rattle.level_control.specs.State.{new_state, reset_state, accept}
use Rattle.level_theorems.specs.Orders.{kinds_of, OneOf, orders}
use Rattle.level_theorems.specs.EveryEvent as claim
use Rattle.level_theorems.specs.EveryEvent.{LevelFrom, AttributesFrom, unchanged, InPhase, WaitAfter, EveryEvent, tests_of}
use Rattle.level_control.specs.declared.state.LevelControlState.{LevelControlState}
use Rattle.std.proofs.lemmas.List.{length-take-le}
use Rattle.std.proofs.lemmas.List.Elements.{All-drop, All-replicate}
use lib.Seq.{drop-append_seam}
use Rattle.level_control.proofs.ActionLaws.{array_filled}
use Rattle.level_control.proofs.ArrayLaws.{unpacked}
use Rattle.level_control.proofs.EventLaws.{options_stop_in, event_refused, event_options_stop, event_runs, event_number, turn_passes}
use Rattle.event_theorems.specs.Brings.{brings}
use Rattle.event_theorems.specs.Fields.{next_state}
use Rattle.event_theorems.proofs.RunLaws.{gives}
use Rattle.event_theorems.proofs.ByFieldHolds.{runs_by}
use Rattle.level_theorems.proofs.LevelLaws.{level_from, attributes_from}
use Rattle.level_theorems.proofs.PatternLaws.{at_most_seven_of}
use Rattle.level_theorems.proofs.ShapeLaws.{orders_shape}
use Rattle.level_theorems.proofs.OrderLaws.{letters_ordered}
use Rattle.level_theorems.proofs.WaitLaws.{waits_in, Waited, no_wait, waits, gives_waited, no_entry, one_entry, found}
use Rattle.transitions.specs.declared.events.Command.TheVariants as command

-- an event is refused, or stopped by the options, or gives what the pages of event_theorems say
pub three_ways : (s : LevelControlState) (e : Event) (Q : Outcome → Type 0)
    → ((number_of s e ≡ 0 → ⊥) → Q (refused s (number_of s e)))
    → (number_of s e ≡ 0 → Q (done (accept s e.moment.at) []))
    → Q (gives s (brings s e.kind) e.moment.at e.moment.on_off)
    → Q (event_of s e)
three_ways s e Q kept stopped runs = go (eqb (number_of s e) 0) refl (options_stop_in s e) refl
  where
    go : (b : Bool) → eqb (number_of s e) 0 ≡ b → (c : Bool) → options_stop_in s e ≡ c → Q (event_of s e)
    go true p true q = let z = eqb-true (number_of s e) 0 p in subst Q (sym (event_options_stop s e z q)) (stopped z)
    go true p false q = let z = eqb-true (number_of s e) 0 p in subst Q (sym (runs_by s e z q)) runs
    go false p c q = let z = eqb-false (number_of s e) 0 p in subst Q (sym (event_refused s e z)) (kept z)

refused_keeps : (s : LevelControlState) (e : Event) → ((event_of s e).number ≡ 0 → ⊥) → ((event_of s e).state ≡ s) × ((event_of s e).actions ≡ [])
refused_keeps s e h =
    let same = event_refused s e (λ z. h (event_number s e ∙ z)) in
    (ap (λ (o : Outcome). o.state) same, ap (λ (o : Outcome). o.actions) same)

first_cause_is_first : (s : LevelControlState) (e : Event) (n : ℕ)
    → ((event_of s e).number ≡ n)
    ↔ (((r : Row) × First (λ r. r.applies) (rows (tests_of s e)) r × (r.number ≡ n))
    ⊎ (NoneOf (λ r. r.applies) (rows (tests_of s e)) × (n ≡ 0)))
unfolding number_of
first_cause_is_first s e n =
    let is : (event_of s e).number ≡ first_cause (tests_of s e) = event_number s e in
    let law = rule_laws.cause (tests_of s e) n in
    (λ h. law.0 (sym is ∙ h), λ h. is ∙ law.1 h)

reset_is : (s : LevelControlState) (e : Event) → e.kind ≡ (kind.Command command.FactoryReset) → number_of s e ≡ 0 → event_of s e ≡ done (reset_state (accept s e.moment.at)) (act X 0)
unfolding command_tests_of run reset_all
reset_is s e k z =
    event_runs s e z (ap (λ (k : EventKind). (command_tests_of s e.moment.on_off k).stopped_by_options) k)
    ∙ ap (λ (k : EventKind). run (accept s e.moment.at) k e.moment.at e.moment.on_off) k

-- the tests of an event's turn begin with its time
time_first : (s : LevelControlState) (at : Micros) (k : EventKind) → (turn_tests s at k).time_refused ≡ time_refused s at
unfolding turn_tests
time_first s at kind.StartUp = refl
time_first s at (kind.Answer a) = refl
time_first s at kind.Wake = refl
time_first s at (kind.Command c) = refl

is_in_time : (s : LevelControlState) (e : Event) → number_of s e ≡ 0 → s.last_accepted.0 ≤ e.moment.at.0
unfolding number_of time_refused
is_in_time s e z =
    let w = sym (time_first s e.moment.at e.kind) ∙ (turn_passes _ _ z).is_in_time in
    go (before e.moment.at s.last_accepted) refl w
  where
    go : (b : Bool) → before e.moment.at s.last_accepted ≡ b → time_refused s e.moment.at ≡ false → s.last_accepted.0 ≤ e.moment.at.0
    go true p w = absurd (true≢false (rw p at w))
    go false p w = ltb-false _ _ p

-- an accepted event's time is the last accepted
accepted_time : (s : LevelControlState) (e : Event) → number_of s e ≡ 0 → (event_of s e).state.last_accepted ≡ e.moment.at
unfolding next_state
accepted_time s e z = three_ways s e (λ (o : Outcome). o.state.last_accepted ≡ e.moment.at) (λ h. absurd (h z)) (λ h. refl) refl

time_never_falls : (s : LevelControlState) (e : Event) → s.last_accepted.0 ≤ (event_of s e).state.last_accepted.0
time_never_falls s e = go (eqb (number_of s e) 0) refl
  where
    go : (b : Bool) → eqb (number_of s e) 0 ≡ b → s.last_accepted.0 ≤ (event_of s e).state.last_accepted.0
    go true p = let z = eqb-true (number_of s e) 0 p in rw (accepted_time s e z) (is_in_time s e z)
    go false p = rw (event_refused s e (eqb-false (number_of s e) 0 p)) (omega arith)

level_comes_from : (s : LevelControlState) (e : Event) → LevelFrom s e.kind (event_of s e).state.current_level
unfolding next_state
level_comes_from s e =
    three_ways s e (λ (o : Outcome). LevelFrom s e.kind o.state.current_level) (λ h. claim.kept) (λ h. claim.kept) (level_from s e.kind)

settings_stay : (s : LevelControlState) (e : Event) → (event_of s e).state.settings ≡ s.settings
unfolding next_state
settings_stay s e = three_ways s e (λ (o : Outcome). o.state.settings ≡ s.settings) (λ h. refl) (λ h. refl) refl

attributes_come_from : (s : LevelControlState) (e : Event) → AttributesFrom s e.kind (event_of s e).state.attributes
unfolding next_state
attributes_come_from s e =
    three_ways s e (λ (o : Outcome). AttributesFrom s e.kind o.state.attributes) (λ h. unchanged) (λ h. unchanged) (attributes_from s e.kind)

action_order : (s : LevelControlState) (e : Event) → OneOf (orders s.task e.kind) (kinds_of (event_of s e).actions)
action_order s e =
    three_ways s e (λ (o : Outcome). OneOf (orders s.task e.kind) (kinds_of o.actions))
    (λ h. (orders_shape s.task e.kind).silent)
    (λ h. (orders_shape s.task e.kind).silent)
    (letters_ordered s e.kind e.moment.at e.moment.on_off).kinds

event_waited : (s : LevelControlState) (e : Event) → Waited s e.kind (event_of s e)
event_waited s e =
    three_ways s e (λ (o : Outcome). Waited s e.kind o) (λ h. no_wait refl) (λ h. no_wait refl) (gives_waited s e.kind e.moment.at e.moment.on_off)

wait_after_request : (s : LevelControlState) (e : Event) (u : ℕ) (earlier others : List Action)
    → (event_of s e).actions ≡ earlier ++ (action W u ∷ others) → WaitAfter s e u
wait_after_request s e u earlier others h = by (event_waited s e)
  where
    stands : waits_in (event_of s e).actions ≡ waits_in earlier ++ (u ∷ waits_in others)
    stands = found (event_of s e).actions earlier others u h

    by : Waited s e.kind (event_of s e) → WaitAfter s e u
    by (no_wait q) = absurd (no_entry (waits_in earlier) (waits_in others) u (sym q ∙ stands))
    by (waits v since until answers asked order waiting q) =
        let same : until.0 ≡ u = one_entry (waits_in earlier) (waits_in others) until.0 u (sym q ∙ stands) in
        record {
          level = v;
          answers = answers;
          since = since;
          asked = asked;
          not_before = λ n. rw (← same) (order n);
          waits = subst (λ (x : ℕ). InPhase (event_of s e).state.task (Waiting (micros x))) same waiting;
        }

at_most_seven : (s : LevelControlState) (e : Event) → length (event_of s e).actions ≤ 7
at_most_seven s e = at_most_seven_of (orders s.task e.kind) (event_of s e).actions (action_order s e) (orders_shape s.task e.kind).few

slots_hold : (refusal : Option Refusal) (s : LevelControlState) (l : List Action) → length l ≤ 7
    → take (answer_of refusal s l).count (answer_of refusal s l).actions ≡ l
unfolding packed answer_of
slots_hold refusal s l = unpacked (record { number = 0; state = s; actions = l })

-- A cause has a refusal that shows its number, and so has the first of several.
abbrev Shows : ℕ → Type 0
Shows n = number_shown (refusal_of n) ≡ n

row_shows : (b : Bool) (n others : ℕ) → Shows n → Shows others → Shows (cond b n others)
row_shows true n others p q = p
row_shows false n others p q = q

cause_shows : (turn : TurnTests) (c : CommandTests) → Shows (first_cause (event_tests turn c))
unfolding first_cause
cause_shows turn c =
    row_shows turn.time_refused 5 _ refl
    (row_shows turn.answer_open 6 _ refl
    (row_shows turn.no_answer_open 7 _ refl
    (row_shows turn.wake_refused 8 _ refl
    (row_shows turn.start_up_late 9 _ refl
    (row_shows c.invalid_command 10 _ refl
    (row_shows c.stopped_by_options 0 _ refl
    (row_shows c.invalid_in_state 11 _ refl
    (row_shows c.product_too_large 12 _ refl
    (row_shows c.level_outside 13 _ refl
    (row_shows c.rate_0 14 0 refl refl))))))))))

refusal_shows_number : (s : LevelControlState) (e : Event) → number_shown (packed (event_of s e)).refusal ≡ (event_of s e).number
unfolding packed answer_of number_of
refusal_shows_number s e =
    subst Shows (sym (event_number s e)) (cause_shows (turn_tests s e.moment.at e.kind) (command_tests_of s e.moment.on_off e.kind))

-- The array: what is not filled is free.

free_slots_of : (o : Outcome) → length o.actions ≤ 7
    → (length (packed o).actions ≡ 7) × All (λ a. a ≡ action X 0) (drop (packed o).count (packed o).actions)
unfolding packed answer_of
free_slots_of o h =
    let l = o.actions in
    let free : List Action = replicate 7 (action X 0) in
    let filled = array_filled l (action X 0) h in
    let count : min 7 (length l) ≡ length l = omega arith in
    let others : All (λ a. a ≡ action X 0) (drop (length l) free) =
    All-drop (λ a. a ≡ action X 0) (length l) free (All-replicate (λ a. a ≡ action X 0) 7 (action X 0) refl) in
    let seam : drop (length l) (l ++ drop (length l) free) ≡ drop (length l) free = drop-append_seam l (drop (length l) free) in
    (length-take-le 7 (l ++ free) (omega (arith, length-append l free)), rw (count, filled, seam) others)

-- Which events the causes 6 to 9 are of.

-- the causes from 10 on, and none
abbrev Later : ℕ → Type 0
Later n = (n ≡ 0) ⊎ (10 ≤ n)

row_later : (b : Bool) (n others : ℕ) → Later n → Later others → Later (cond b n others)
row_later true n others p q = p
row_later false n others p q = q

not_later : (x n : ℕ) → Later x → 1 ≤ n → n ≤ 9 → x ≡ n → ⊥
not_later x n (inl z) low high e = omega arith
not_later x n (inr h) low high e = omega arith

-- a number from 6 to 9 is that of a test that holds
abbrev ByTurn : TurnTests → ℕ → Type 0
ByTurn t n =
    (n ≡ 6 → t.answer_open ≡ true) × (n ≡ 7 → t.no_answer_open ≡ true) × (n ≡ 8 → t.wake_refused ≡ true) × (n ≡ 9 → t.start_up_late ≡ true)

turn_by : (a b c d f : Bool) (x : ℕ) → Later x
    → ByTurn (record { time_refused = a; answer_open = b; no_answer_open = c; wake_refused = d; start_up_late = f })
    (cond a 5 (cond b 6 (cond c 7 (cond d 8 (cond f 9 x)))))
turn_by true b c d f x h = (λ e. absurd (omega arith), λ e. absurd (omega arith), λ e. absurd (omega arith), λ e. absurd (omega arith))
turn_by false true c d f x h = (λ e. refl, λ e. absurd (omega arith), λ e. absurd (omega arith), λ e. absurd (omega arith))
turn_by false false true d f x h = (λ e. absurd (omega arith), λ e. refl, λ e. absurd (omega arith), λ e. absurd (omega arith))
turn_by false false false true f x h = (λ e. absurd (omega arith), λ e. absurd (omega arith), λ e. refl, λ e. absurd (omega arith))
turn_by false false false false true x h = (λ e. absurd (omega arith), λ e. absurd (omega arith), λ e. absurd (omega arith), λ e. refl)
turn_by false false false false false x h = (
  λ e. absurd (not_later x 6 h (omega arith) (omega arith) e),
  λ e. absurd (not_later x 7 h (omega arith) (omega arith) e),
  λ e. absurd (not_later x 8 h (omega arith) (omega arith) e),
  λ e. absurd (not_later x 9 h (omega arith) (omega arith) e),
)

turn_number : (s : LevelControlState) (e : Event) → ByTurn (turn_tests s e.moment.at e.kind) (event_of s e).number
unfolding number_of first_cause
turn_number s e =
    let t = turn_tests s e.moment.at e.kind in
    let c = command_tests_of s e.moment.on_off e.kind in
    subst (ByTurn t) (sym (event_number s e))
    (turn_by t.time_refused t.answer_open t.no_answer_open t.wake_refused t.start_up_late _
    (row_later c.invalid_command 10 _ (inr (omega arith))
    (row_later c.stopped_by_options 0 _ (inl refl)
    (row_later c.invalid_in_state 11 _ (inr (omega arith))
    (row_later c.product_too_large 12 _ (inr (omega arith))
    (row_later c.level_outside 13 _ (inr (omega arith))
    (row_later c.rate_0 14 0 (inr (omega arith)) (inl refl))))))))

module _ (s : LevelControlState) (at : Micros) where
  open_no_answer : (a : DeviceAnswer) → (turn_tests s at (kind.Answer a)).answer_open ≡ true → ⊥
  unfolding turn_tests
  open_no_answer a h = false≢true h

  none_open_answer : (k : EventKind) → (turn_tests s at k).no_answer_open ≡ true → (a : DeviceAnswer) × (k ≡ kind.Answer a)
  unfolding turn_tests
  none_open_answer kind.StartUp h = absurd (false≢true h)
  none_open_answer (kind.Answer a) h = (a, refl)
  none_open_answer kind.Wake h = absurd (false≢true h)
  none_open_answer (kind.Command c) h = absurd (false≢true h)

  refused_wake : (k : EventKind) → (turn_tests s at k).wake_refused ≡ true → k ≡ kind.Wake
  unfolding turn_tests
  refused_wake kind.StartUp h = absurd (false≢true h)
  refused_wake (kind.Answer a) h = absurd (false≢true h)
  refused_wake kind.Wake h = refl
  refused_wake (kind.Command c) h = absurd (false≢true h)

  late_start_up : (k : EventKind) → (turn_tests s at k).start_up_late ≡ true → k ≡ kind.StartUp
  unfolding turn_tests
  late_start_up kind.StartUp h = refl
  late_start_up (kind.Answer a) h = absurd (false≢true h)
  late_start_up kind.Wake h = absurd (false≢true h)
  late_start_up (kind.Command c) h = absurd (false≢true h)

never_6 : (s : LevelControlState) (e : Event) (a : DeviceAnswer) → e.kind ≡ kind.Answer a → (event_of s e).number ≡ 6 → ⊥
never_6 s e a k n =
    open_no_answer s e.moment.at a (subst (λ (k : EventKind). (turn_tests s e.moment.at k).answer_open ≡ true) k ((turn_number s e).0 n))

pub every_event : EveryEvent
unfolding new_state reset_state
every_event = record {
  first_state = λ x. record {
    settings = refl;
    attributes = refl;
    level = refl;
    previous_level = refl;
    remaining_time = refl;
    last_report = refl;
    rest = refl;
    last_accepted = refl;
    nothing_accepted = refl;
  };
  refused_keeps = refused_keeps;
  first_cause_is_first = first_cause_is_first;
  never_6_of_answer = never_6;
  only_answer_7 = λ s e n. none_open_answer s e.moment.at e.kind ((turn_number s e).1 n);
  only_wake_8 = λ s e n. refused_wake s e.moment.at e.kind ((turn_number s e).2 n);
  only_start_up_9 = λ s e n. late_start_up s e.moment.at e.kind ((turn_number s e).3 n);
  stopped_accepted = λ s e z q.
      let same = event_options_stop s e z q in
      (ap (λ (o : Outcome). o.number) same, ap (λ (o : Outcome). o.actions) same, ap (λ (o : Outcome). o.state) same);
  at_most_seven = at_most_seven;
  slots_are_actions = λ s e. unpacked (event_of s e) (at_most_seven s e);
  slots_hold = slots_hold;
  seven_slots = λ s e. (free_slots_of (event_of s e) (at_most_seven s e)).0;
  free_slots = λ s e. (free_slots_of (event_of s e) (at_most_seven s e)).1;
  refusal_shows_number = refusal_shows_number;
  action_order = action_order;
  reset = λ s e k z.
      let same = reset_is s e k (sym (event_number s e) ∙ z) in
      (ap (λ (o : Outcome). o.actions) same, ap (λ (o : Outcome). o.state) same);
  time_never_falls = time_never_falls;
  time_accepted = λ s e z. accepted_time s e (sym (event_number s e) ∙ z);
  level_comes_from = level_comes_from;
  wait_after_request = wait_after_request;
  settings_stay = settings_stay;
  attributes_come_from = attributes_come_from;
}
