-- A run over records is the run over the events that are read from them: a damaged record changes nothing that is seen. Assumes nothing.
use Rattle.std.specs.Prelude.{Option, Some, None}
use Prim.Native.Nat.{ℕ}
use mathlib.Core.Bool.{Bool, true, false, not, ◌&&◌, ◌||◌}
use mathlib.Core.Path.{◌≡◌, refl, sym, ap, subst, ◌∙◌}
use mathlib.Core.List.{List, [], ◌∷◌, ◌++◌, append-nil}
use lib.ListN.{length, drop}
use Rattle.transitions.specs.declared.events.Event.{Event}
use Rattle.transitions.specs.declared.events.EventKind.TheVariants as kind
use Rattle.records.specs.EventRecord.{event_read}
use Rattle.level_control.specs.Answer.{Outcome, refused}
use Rattle.level_control.specs.EveryFade as fade
use Rattle.level_control.specs.Handle.{event_of}
use Rattle.level_control.specs.Run as run
use Rattle.level_control.specs.Run.{Run, next_by, next, play}
use Rattle.level_control.specs.declared.state.LevelControlState.{LevelControlState}
use Rattle.level_theorems.proofs.Progress.{next_state_is}
use Rattle.sheet.specs.Lines.{read_outcome, record_outcome, outcomes_of}
use Rattle.record_theorems.specs.RecordPlays.{Record, all_bytes, answers_of, answer_to, state_after, accepts, kind_seen, onward_read, seen, only_onward, all_refused, StartsAt, directly, after_on}

-- the events that records are read as; damaged ones are left out

abbrev pub event_in : Option Event → List Event → List Event
event_in (Some e) es = e ∷ es
event_in None es = es

abbrev pub events_of : List Record → List Event
events_of [] = []
events_of (b ∷ bs) = event_in (event_read b.bytes) (events_of bs)

-- a damaged record leaves a run as it was
damaged : (r : Run) → next_by false (refused r.state 1) kind.StartUp r ≡ r
damaged r =
    ap (λ (l : List ℕ). record { state = r.state; asked = l; answers = r.answers; pending = r.pending }) (append-nil r.asked)

seen_goes_on : (bs : List Record) → ((r : Run) → seen r bs (answers_of r.state bs) ≡ play r (events_of bs)) → (r : Run) (x : Option Event)
    → seen (next_by (accepts (read_outcome r.state x)) (read_outcome r.state x) (kind_seen x) r) bs
    (outcomes_of (read_outcome r.state x).state (all_bytes bs))
    ≡ play r (event_in x (events_of bs))
unfolding next
seen_goes_on bs same r (Some e) =
    ap (λ (s : LevelControlState). seen (next r e) bs (outcomes_of s (all_bytes bs))) (sym (next_state_is r e)) ∙ same (next r e)
seen_goes_on bs same r None = ap (λ (x : Run). seen x bs (outcomes_of r.state (all_bytes bs))) (damaged r) ∙ same r

pub seen_is_play : (bs : List Record) (r : Run) → seen r bs (answers_of r.state bs) ≡ play r (events_of bs)
unfolding outcomes_of record_outcome
seen_is_play [] r = refl
seen_is_play (b ∷ bs) r = seen_goes_on bs (seen_is_play bs) r (event_read b.bytes)

onward_goes_on : (bs : List Record) → ((r : Run) → only_onward bs (answers_of r.state bs) ≡ run.only_onward r (events_of bs)) → (r : Run) (x : Option Event)
    → ((not (accepts (read_outcome r.state x)) || onward_read x) && only_onward bs (outcomes_of (read_outcome r.state x).state (all_bytes bs)))
    ≡ run.only_onward r (event_in x (events_of bs))
onward_goes_on bs same r (Some e) =
    ap (λ (y : Bool). (not (accepts (event_of r.state e)) || run.is_onward e.kind) && y)
    (ap (λ (s : LevelControlState). only_onward bs (outcomes_of s (all_bytes bs))) (sym (next_state_is r e)) ∙ same (next r e))
onward_goes_on bs same r None = same r

pub onward_is : (bs : List Record) (r : Run) → only_onward bs (answers_of r.state bs) ≡ run.only_onward r (events_of bs)
unfolding outcomes_of record_outcome
onward_is [] r = refl
onward_is (b ∷ bs) r = onward_goes_on bs (onward_is bs) r (event_read b.bytes)

refused_goes_on : (bs : List Record) → ((s : LevelControlState) → all_refused (answers_of s bs) ≡ run.all_refused s (events_of bs))
    → (s : LevelControlState) (x : Option Event)
    → (not (accepts (read_outcome s x)) && all_refused (outcomes_of (read_outcome s x).state (all_bytes bs))) ≡ run.all_refused s (event_in x (events_of bs))
refused_goes_on bs same s (Some e) = ap (λ (y : Bool). not (accepts (event_of s e)) && y) (same (event_of s e).state)
refused_goes_on bs same s None = same s

refused_is : (bs : List Record) (s : LevelControlState) → all_refused (answers_of s bs) ≡ run.all_refused s (events_of bs)
unfolding outcomes_of record_outcome
refused_is [] s = refl
refused_is (b ∷ bs) s = refused_goes_on bs (refused_is bs) s (event_read b.bytes)

after_goes_on : (bs : List Record) → ((s : LevelControlState) → state_after s bs ≡ run.state_after s (events_of bs)) → (s : LevelControlState) (x : Option Event)
    → state_after (read_outcome s x).state bs ≡ run.state_after s (event_in x (events_of bs))
after_goes_on bs same s (Some e) = same (event_of s e).state
after_goes_on bs same s None = same s

after_is : (bs : List Record) (s : LevelControlState) → state_after s bs ≡ run.state_after s (events_of bs)
unfolding record_outcome
after_is [] s = refl
after_is (b ∷ bs) s = after_goes_on bs (after_is bs) s (event_read b.bytes)

-- Records up to a place, and after it.

pub after_both : (earlier others : List Record) (s : LevelControlState) → state_after s (earlier ++ others) ≡ state_after (state_after s earlier) others
after_both [] others s = refl
after_both (b ∷ bs) others s = after_both bs others (answer_to s b).state

pub later_is : (up after : List Record) (s : LevelControlState) → drop (length up) (answers_of s (up ++ after)) ≡ answers_of (state_after s up) after
unfolding outcomes_of
later_is [] after s = refl
later_is (b ∷ bs) after s = later_is bs after (answer_to s b).state

-- a record that is read as an event is answered as the event
pub answer_is : (s : LevelControlState) (b : Record) (e : Event) → event_read b.bytes ≡ Some e → answer_to s b ≡ event_of s e
unfolding record_outcome
answer_is s b e p = ap (read_outcome s) p

-- The start of a fade.

pub start_state : (s : LevelControlState) (up : List Record) (o : Outcome) (c t T : ℕ) → StartsAt s up o c t T → state_after s up ≡ o.state
start_state s _ _ _ _ _ (directly earlier b e c t T p ok named) = after_both earlier (b ∷ []) s
start_state s _ _ _ _ _ (after_on earlier b e others b' a v c t T p ok on refusals q answered level named) =
    after_both (earlier ++ (b ∷ others)) (b' ∷ []) s

pub starts_is : (s : LevelControlState) (up : List Record) (o : Outcome) (c t T : ℕ) → StartsAt s up o c t T → fade.Starts o c t T
starts_is s _ _ _ _ _ (directly earlier b e c t T p ok named) =
    let same = answer_is (state_after s earlier) b e p in
    subst (λ (o : Outcome). fade.Starts o c t T) (sym same)
    (fade.directly (state_after s earlier) e c t T (subst (λ (o : Outcome). accepts o ≡ true) same ok) named)
starts_is s _ _ _ _ _ (after_on earlier b e others b' a v c t T p ok on refusals q answered level named) =
    let before : LevelControlState = state_after s earlier in
    let same : answer_to before b ≡ event_of before e = answer_is before b e p in
    let all : run.all_refused (event_of before e).state (events_of others) ≡ true =
    sym (refused_is others (event_of before e).state) ∙ subst (λ (o : Outcome). all_refused (answers_of o.state others) ≡ true) same refusals in
    let there : state_after s (earlier ++ (b ∷ others)) ≡ run.state_after (event_of before e).state (events_of others) =
    after_both earlier (b ∷ others) s ∙ ap (λ (o : Outcome). state_after o.state others) same ∙ after_is others (event_of before e).state in
    let reply : answer_to (state_after s (earlier ++ (b ∷ others))) b' ≡ event_of (run.state_after (event_of before e).state (events_of others)) a =
    answer_is (state_after s (earlier ++ (b ∷ others))) b' a q ∙ ap (λ (x : LevelControlState). event_of x a) there in
    subst (λ (o : Outcome). fade.Starts o c t T) (sym reply)
    (fade.after_on before e a (events_of others) v c t T (subst (λ (o : Outcome). accepts o ≡ true) same ok) on all
    (subst (λ (o : Outcome). accepts o ≡ true) reply answered) level named)
