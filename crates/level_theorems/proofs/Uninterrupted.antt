-- A list that only leads onward leaves a fade uninterrupted; and up to its end, where every answer has a level, the other way round. Assumes nothing.
use mathlib.Core.Bool.{Bool, true, false, cond, not, ◌&&◌, ◌||◌, false≢true}
use Prim.Native.Nat.{ℕ, ◌≤◌}
use mathlib.Core.Path.{◌≡◌, refl, sym, ap, subst, ◌∙◌}
use mathlib.Core.List.{List, [], ◌∷◌, ◌++◌}
use mathlib.Core.Logic.{◌↔◌, ◌⊎◌, inl, inr}
use borrow.Author.Tests.{not-false}
use Rattle.std.proofs.lemmas.Bool.{and_from, and_parts, or_left, or_right}
use Rattle.units.specs.declared.Micros.{Micros}
use Rattle.transitions.specs.Events.{event}
use Rattle.transitions.specs.Tasks.{task_open, task_due}
use Rattle.transitions.specs.declared.events.Event.{Event}
use Rattle.transitions.specs.declared.events.EventKind.{EventKind}
use Rattle.transitions.specs.declared.events.EventKind.TheVariants as kind
use Rattle.transitions.specs.declared.tasks.Phase.{Phase}
use Rattle.transitions.specs.declared.tasks.Phase.TheVariants.{Asked, Waiting}
use Rattle.transitions.specs.declared.tasks.Task.{Task}
use Rattle.transitions.specs.declared.tasks.Task.TheVariants as task
use Rattle.level_control.specs.Answer.{Outcome}
use Rattle.level_control.specs.Judge.{turn_tests}
use Rattle.level_control.specs.Handle.{number_of, event_of}
use Rattle.level_control.specs.EveryFade.{Starts}
use Rattle.level_control.specs.Run.{Run, Pending, accepted, started, next, play, is_onward, only_onward, all_refused}
use Rattle.level_control.specs.declared.state.LevelControlState.{LevelControlState}
use Rattle.level_control.proofs.EventLaws.{turn_passes}
use Rattle.level_control.proofs.EveryFade.{accepted_zero, kept}
use Rattle.level_control.proofs.FadeInvariant.{Inv, pending_in}
use Rattle.level_control.proofs.ReachedLaws.{refused_state}
use Rattle.level_theorems.specs.Uninterrupted.{is_answer_or_wake, at_rest, uninterrupted, up_to_end, after_end, loses_no_level, all_levels}
use Rattle.level_theorems.specs.FadeTheorems.{Uninterrupted, UninterruptedLists}
use Rattle.level_theorems.proofs.Progress.{next_state_is}

onward_is : (k : EventKind) → is_onward k ≡ true → is_answer_or_wake k ≡ true
onward_is kind.StartUp h = absurd (false≢true h)
onward_is (kind.Answer a) h = refl
onward_is kind.Wake h = refl
onward_is (kind.Command c) h = absurd (false≢true h)

-- refused, or onward
allowed : (b : Bool) (k : EventKind) → (b || is_onward k) ≡ true → (b || is_answer_or_wake k) ≡ true
allowed true k h = refl
allowed false k h = onward_is k h

pub uninterrupted_holds : Uninterrupted
uninterrupted_holds r [] h = refl
uninterrupted_holds r (e ∷ es) h =
    let one : Bool = not (accepted r.state e) || is_onward e.kind in
    or_right (at_rest r.pending) _
    (and_from _ _ (allowed (not (accepted r.state e)) e.kind (and_parts one (only_onward (next r e) es) h).0)
    (uninterrupted_holds (next r e) es (and_parts one (only_onward (next r e) es) h).1))

-- The other way round: onward is an answer or a wake that loses no level.

is_both : (b : Bool) (k : EventKind) → ((b || is_answer_or_wake k) ≡ true) → ((b || loses_no_level k) ≡ true) → (b || is_onward k) ≡ true
is_both true k h l = refl
is_both false kind.StartUp h l = h
is_both false (kind.Answer a) h l = l
is_both false kind.Wake h l = refl
is_both false (kind.Command c) h l = h

no_loss : (b : Bool) (k : EventKind) → (b || is_onward k) ≡ true → (b || loses_no_level k) ≡ true
no_loss true k h = refl
no_loss false kind.StartUp h = refl
no_loss false (kind.Answer a) h = h
no_loss false kind.Wake h = refl
no_loss false (kind.Command c) h = refl

abbrev Onward : Run → List Event → Type 0
Onward r es = only_onward r es ≡ true

abbrev Whole : Run → List Event → List Event → Type 0
Whole r es end = (uninterrupted r es ≡ true) × (all_levels r end ≡ true)

to_end : (r : Run) (es : List Event) → Onward r (up_to_end r es) ↔ Whole r es (up_to_end r es)
to_end r [] = (λ h. (refl, refl), λ h. refl)
to_end r (e ∷ es) = go (to_end (next r e) es) (at_rest r.pending)
  where
    one : Bool
    one = not (accepted r.state e)

    last : List Event
    last = up_to_end (next r e) es

    go : Onward (next r e) last ↔ Whole (next r e) es last → (b : Bool)
        → Onward r (cond b [] (e ∷ last))
        ↔ (((b || ((one || is_answer_or_wake e.kind) && uninterrupted (next r e) es)) ≡ true) × (all_levels r (cond b [] (e ∷ last)) ≡ true))
    go others true = (λ h. (refl, refl), λ h. refl)
    go others false = (
      λ h.
          let parts = and_parts (one || is_onward e.kind) (only_onward (next r e) last) h in
          let whole = others.0 parts.1 in
          (and_from _ _ (allowed one e.kind parts.0) whole.0, and_from _ _ (no_loss one e.kind parts.0) whole.1),
      λ h.
          let free = and_parts (one || is_answer_or_wake e.kind) (uninterrupted (next r e) es) h.0 in
          let levels = and_parts (one || loses_no_level e.kind) (all_levels (next r e) last) h.1 in
          and_from _ _ (is_both one e.kind free.0 levels.0) (others.1 (free.1, levels.1)),
    )

-- The list up to the end, and after it.

split : (r : Run) (es : List Event) → es ≡ up_to_end r es ++ after_end r es
split r [] = refl
split r (e ∷ es) = go (split (next r e) es) (at_rest r.pending)
  where
    go : es ≡ up_to_end (next r e) es ++ after_end (next r e) es → (b : Bool)
        → e ∷ es ≡ cond b [] (e ∷ up_to_end (next r e) es) ++ cond b (e ∷ es) (after_end (next r e) es)
    go others true = refl
    go others false = ap (λ (l : List Event). e ∷ l) others

ended : (r : Run) (es : List Event) → (after_end r es ≡ []) ⊎ (at_rest (play r (up_to_end r es)).pending ≡ true)
ended r [] = inl refl
ended r (e ∷ es) = go (ended (next r e) es) (at_rest r.pending) refl
  where
    go : (after_end (next r e) es ≡ []) ⊎ (at_rest (play (next r e) (up_to_end (next r e) es)).pending ≡ true) → (b : Bool) → at_rest r.pending ≡ b
        → (cond b (e ∷ es) (after_end (next r e) es) ≡ []) ⊎ (at_rest (play r (cond b [] (e ∷ up_to_end (next r e) es))).pending ≡ true)
    go others true q = inr q
    go others false q = others

onward_both : (r : Run) (es ds : List Event) → Onward r es → Onward (play r es) ds → Onward r (es ++ ds)
onward_both r [] ds h g = g
onward_both r (e ∷ es) ds h g =
    let parts = and_parts (not (accepted r.state e) || is_onward e.kind) (only_onward (next r e) es) h in
    and_from _ _ parts.0 (onward_both (next r e) es ds parts.1 g)

onward_parts : (r : Run) (es ds : List Event) → Onward r (es ++ ds) → Onward r es × Onward (play r es) ds
onward_parts r [] ds h = (refl, h)
onward_parts r (e ∷ es) ds h =
    let parts = and_parts (not (accepted r.state e) || is_onward e.kind) (only_onward (next r e) (es ++ ds)) h in
    let others = onward_parts (next r e) es ds parts.1 in
    (and_from _ _ parts.0 others.0, others.1)

-- refused events lead a list of the claim on, and at rest it has no others

refused_onward : (r : Run) (es : List Event) → all_refused r.state es ≡ true → Onward r es
refused_onward r [] h = refl
refused_onward r (e ∷ es) h =
    let parts = and_parts (not (accepted r.state e)) (all_refused (event_of r.state e).state es) h in
    and_from _ _ (or_left _ (is_onward e.kind) parts.0)
    (refused_onward (next r e) es (subst (λ (s : LevelControlState). all_refused s es ≡ true) (sym (next_state_is r e)) parts.1))

-- at rest neither an answer nor a wake is accepted
rest_bars : (s : LevelControlState) (at : Micros) (on : Bool) (k : EventKind) → s.task ≡ task.Rest → is_onward k ≡ true → number_of s (event at on k) ≡ 0 → ⊥
unfolding number_of turn_tests
rest_bars s at on kind.StartUp q w z = false≢true w
rest_bars s at on (kind.Answer a) q w z =
    false≢true (sym (ap task_open q) ∙ not-false (task_open s.task) (turn_passes _ _ z).opened)
rest_bars s at on kind.Wake q w z =
    false≢true (sym (ap (λ (x : Task). task_due x at) q) ∙ not-false (task_due s.task at) (turn_passes _ _ z).due)
rest_bars s at on (kind.Command c) q w z = false≢true w

rest_refuses : (r : Run) (es : List Event) → r.state.task ≡ task.Rest → Onward r es → all_refused r.state es ≡ true
rest_refuses r [] q h = refl
rest_refuses r (e ∷ es) q h =
    let parts = and_parts (not (accepted r.state e) || is_onward e.kind) (only_onward (next r e) es) h in
    let bars : accepted r.state e ≡ false = barred (accepted r.state e) refl parts.0 in
    let same : (event_of r.state e).state ≡ r.state = refused_state r.state e bars in
    let goes : (next r e).state ≡ (event_of r.state e).state = next_state_is r e in
    and_from _ _ (rw bars refl)
    (subst (λ (s : LevelControlState). all_refused s es ≡ true) goes
    (rest_refuses (next r e) es (ap (λ (s : LevelControlState). s.task) (goes ∙ same) ∙ q) parts.1))
  where
    barred : (b : Bool) → accepted r.state e ≡ b → (not b || is_onward e.kind) ≡ true → b ≡ false
    barred true ok w = absurd (rest_bars r.state e.moment.at e.moment.on_off e.kind q w (accepted_zero r.state e ok))
    barred false ok w = refl

-- a run of the claim that is seen at rest has no task
resting : (c t T : ℕ) (asked : List ℕ) (k shown : ℕ) (p : Pending) (x : Task) → Inv c t T asked k shown p x → at_rest p ≡ true → x ≡ task.Rest
resting c t T asked k shown p task.Rest h q = refl
resting c t T asked k shown p task.StartUp h q = absurd h
resting c t T asked k shown p (task.Fade f) h q = by f.phase h.1
  where
    by : (y : Phase) → p ≡ pending_in y → task.Fade f ≡ task.Rest
    by (Asked since) e = absurd (false≢true (sym (ap at_rest e) ∙ q))
    by (Waiting until) e = absurd (false≢true (sym (ap at_rest e) ∙ q))
resting c t T asked k shown p (task.Move m) h q = absurd h
resting c t T asked k shown p (task.OnReaction r) h q = absurd h

module _ (o : Outcome) (c t T : ℕ) (es : List Event) (w : Starts o c t T) (pos : 1 ≤ T) (small : T ≤ 65535) where
  abbrev Last : List Event
  Last = up_to_end (started o) es

  abbrev Left : List Event
  Left = after_end (started o) es

  left_refused : Onward (started o) Last → Onward (play (started o) Last) Left → all_refused (play (started o) Last).state Left ≡ true
  left_refused h g = by (ended (started o) es)
    where
      r : Run
      r = play (started o) Last

      by : (Left ≡ []) ⊎ (at_rest r.pending ≡ true) → all_refused r.state Left ≡ true
      by (inl q) = ap (λ (l : List Event). all_refused r.state l) q
      by (inr q) =
          rest_refuses r Left
          (resting c t T r.asked r.answers r.state.remaining_time.0 r.pending r.state.task (kept o c t T Last w pos small h) q) g

  whole : Onward (started o) es
      ↔ ((uninterrupted (started o) es ≡ true) × (all_levels (started o) Last ≡ true) × (all_refused (play (started o) Last).state Left ≡ true))
  whole = (
    λ h.
        let parts = onward_parts (started o) Last Left (subst (Onward (started o)) (split (started o) es) h) in
        let led = (to_end (started o) es).0 parts.0 in
        (led.0, led.1, left_refused parts.0 parts.1),
    λ h.
        let first : Onward (started o) Last = (to_end (started o) es).1 (h.0, h.1) in
        subst (Onward (started o)) (sym (split (started o) es)) (onward_both (started o) Last Left first (refused_onward (play (started o) Last) Left h.2)),
  )

pub uninterrupted_lists : UninterruptedLists
uninterrupted_lists = record { to_end = to_end; whole = λ o c t T es w pos small. whole o c t T es w pos small }
