-- Every fade, after every list of events of which only answers with a level and wakes are accepted. Assumes nothing.
use Rattle.std.specs.Prelude.{Some, None}
use Prim.Native.Nat.{ℕ, suc, ◌+◌, ◌≤◌, ◌<◌}
use mathlib.Core.Bool.{Bool, true, cond, not, ◌||◌}
use mathlib.Core.Path.{◌≡◌, refl, sym, ap, subst, ◌∙◌}
use mathlib.Core.List.{List, [], ◌∷◌, ◌++◌}
use native.Mathlib.Omega.{arith}
use borrow.Author.Tests.{eqb-true, eq-eqb, ne_eqb}
use lib.Dec.{eqb}
use lib.ListN.{length, take}
use lib.Seq.{take_all, take_at}
use Rattle.std.proofs.lemmas.Bool.{and_parts}
use Rattle.units.specs.declared.Micros.{Micros}
use Rattle.transitions.specs.Events.{event}
use Rattle.transitions.specs.Fade.{fade_period}
use Rattle.transitions.specs.Tasks.{fade_from}
use Rattle.transitions.specs.declared.events.DeviceAnswer.TheVariants as device
use Rattle.transitions.specs.declared.events.Event.{Event}
use Rattle.transitions.specs.declared.events.EventKind.{EventKind}
use Rattle.transitions.specs.declared.events.EventKind.TheVariants as kind
use Rattle.transitions.specs.declared.tasks.Fade.{Fade}
use Rattle.transitions.specs.declared.tasks.FadeRequest.{FadeRequest}
use Rattle.transitions.specs.declared.tasks.Phase.{Phase}
use Rattle.transitions.specs.declared.tasks.Phase.TheVariants.{Asked, Waiting}
use Rattle.transitions.specs.declared.tasks.Task.{Task}
use Rattle.transitions.specs.declared.tasks.Task.TheVariants as task
use Rattle.transitions.specs.Types.{Level}
use Rattle.level_control.specs.Answer.{Outcome}
use Rattle.level_control.specs.Targets.{go_to}
use Rattle.level_control.specs.Handle.{number_of, event_of}
use Rattle.level_control.specs.Path.{path}
use Rattle.level_control.specs.Run.{all_refused, asks, opened, Run, Pending, Nothing, waits, accepted, is_onward, started, next, play, only_onward, state_after}
use Rattle.level_control.specs.Starts.{Fades, distance, on_start_at, on_start}
use Rattle.level_control.specs.EveryFade.{Starts, directly, after_on, Shown, EveryFade}
use Rattle.level_control.specs.Reports.{Told}
use Rattle.level_control.specs.declared.state.LevelControlState.{LevelControlState}
use Rattle.level_control.proofs.PathLaws.{path_step, length_path}
use Rattle.level_control.proofs.TimeLaws as times
use Rattle.level_control.proofs.SeenLaws.{asks_after, opened_after}
use Rattle.level_control.proofs.EventLaws.{event_number}
use Rattle.level_control.proofs.FadeInvariant.{Running, Inv, openings, pending_in, Kept, keep}
use Rattle.level_control.proofs.StartLaws.{go_to_starts, Starting, direct_starts, reacting, on_is, refused_stays, on_starts, on_answered_is}
use Rattle.transitions.specs.declared.events.Command.TheVariants as command

-- a fade that starts makes the invariant hold
first_holds : (c m : ℕ) (r : FadeRequest) (at : Micros) → (c ≡ r.target → ⊥) → 1 ≤ r.transition_time.0
    → Running c r.target r.transition_time.0 ((fade_from c r at).counter ∷ []) 0 m (fade_from c r at).target (fade_from c r at).counter
    (fade_from c r at).transition_time.0 (fade_from c r at).remaining.0 (fade_from c r at).period.0 1
unfolding fade_from fade_period
first_holds c m r at ne pos = record {
  to = refl;
  within = refl;
  split = sym (path_step c r.target r.transition_time pos ne);
  count = refl;
  more = omega arith;
  each = refl;
  whole = omega arith;
  shows = λ one. absurd (omega arith);
}

-- what is seen of an outcome
abbrev Seen : ℕ → ℕ → ℕ → Outcome → Type 0
Seen c t T o = Inv c t T (asks o.actions) 0 o.state.remaining_time.0 (opened o.actions Nothing) o.state.task

go_to_holds : (told : Told) (r : FadeRequest) (at : Micros) (on : Bool) (c : ℕ) → told.state.current_level ≡ Some c → (c ≡ r.target → ⊥)
    → 1 ≤ r.transition_time.0 → Seen c r.target r.transition_time.0 (go_to told r at on)
unfolding fade_from
go_to_holds told r at on c level ne pos =
    rw (go_to_starts told r at on c level ne, asks_after, opened_after)
    (first_holds c told.state.remaining_time.0 r at ne pos, refl)

starting_holds : (o : Outcome) (at : Micros) (c t T : ℕ) → Starting o at c t T → 1 ≤ T → Seen c t T o
starting_holds o at c t T w pos =
    let holds = go_to_holds w.told w.request at w.on c w.level w.apart (rw w.time pos) in
    let same : Outcome = go_to w.told w.request at w.on in
    subst (λ (x : Outcome). Seen c t T x) (sym w.outcome)
    (subst (λ (x : ℕ). Seen c x T same) w.target
    (subst (λ (x : ℕ). Seen c w.request.target x same) w.time holds))

module _ (c t T : ℕ) (pos : 1 ≤ T) (small : T ≤ 65535) where
  goes_on : (es : List Event) (r : Run) → only_onward r es ≡ true → Kept c t T pos small r → Kept c t T pos small (play r es)
  goes_on [] r w h = h
  goes_on (e ∷ es) r w h =
      let one = not (accepted r.state e) || is_onward e.kind in
      goes_on es (next r e) (and_parts one (only_onward (next r e) es) w).1 (keep c t T pos small r e (and_parts one (only_onward (next r e) es) w).0 h)

  resting : (s : LevelControlState) (asked : List ℕ) (k : ℕ) (p : Pending)
      → (k ≡ distance t c) × (asked ≡ path c t) × (s.remaining_time.0 ≡ 0) × (p ≡ Nothing)
      → Shown c t T (record { state = s; asked = asked; answers = k; pending = p })
  resting s asked k p h = record {
    at_most = omega (arith, h.0);
    levels = levels;
    rest = (λ _. h.0, λ _. h.3);
    end = λ _. h.2;
    low = λ _. rw (h.0, h.2) (times.low_end T (distance t c));
    high = λ _. rw (h.0, h.2) (times.high_end T (distance t c));
  }
    where
      levels : asked ≡ take (cond (waits p || eqb k (distance t c)) k (suc k)) (path c t)
      levels = rw (h.3, eq-eqb k (distance t c) h.0) (h.1 ∙ sym (take_all k (path c t) (omega (arith, h.0, length_path c t))))

  -- what was asked for is as much of the path as it is long
  asked_is : (asked : List ℕ) (counter j : ℕ) → asked ++ path counter t ≡ path c t → length asked ≡ j → asked ≡ take j (path c t)
  asked_is asked counter j e n = sym (take_at asked (path counter t) j n) ∙ ap (λ (l : List ℕ). take j l) e

  levels_in : (q : Phase) (asked : List ℕ) (k counter : ℕ) → asked ++ path counter t ≡ path c t
      → length asked ≡ k + openings q → k < distance t c
      → asked ≡ take (cond (waits (pending_in q) || eqb k (distance t c)) k (suc k)) (path c t)
  levels_in (Asked since) asked k counter e n more =
      simp (ne_eqb k (distance t c) (λ z. omega arith)) (asked_is asked counter (suc k) e (omega arith))
  levels_in (Waiting until) asked k counter e n more = asked_is asked counter k e (omega arith)

  not_at_rest : (q : Phase) → pending_in q ≡ Nothing → ⊥
  not_at_rest (Asked since) e = let z : ◌≡◌ {A = ℕ} 0 1 = cc in omega arith
  not_at_rest (Waiting until) e = let z : ◌≡◌ {A = ℕ} 0 1 = cc in omega arith

  running : (s : LevelControlState) (asked : List ℕ) (k : ℕ) (p : Pending) (f : Fade)
      → Inv c t T asked k s.remaining_time.0 p (task.Fade f)
      → Shown c t T (record { state = s; asked = asked; answers = k; pending = p })
  running s asked k p f (h, e) =
      let some : 1 ≤ distance t c = omega (arith, h.more) in
      record {
        at_most = omega (arith, h.more);
        levels = rw e (levels_in f.phase asked k f.counter h.split h.count h.more);
        rest = (λ z. absurd (not_at_rest f.phase (sym e ∙ z)), λ z. absurd (omega (arith, h.more)));
        end = λ z. absurd (omega (arith, h.more));
        low = λ one. rw (h.shows one) (times.low T (distance t c) k f.remaining.0 small h.whole some);
        high = λ one. rw (h.shows one) (times.high T (distance t c) k f.remaining.0 small h.whole some);
      }

  shown : (s : LevelControlState) (asked : List ℕ) (k : ℕ) (p : Pending) (x : Task) → Inv c t T asked k s.remaining_time.0 p x
      → Shown c t T (record { state = s; asked = asked; answers = k; pending = p })
  shown s asked k p task.Rest h = resting s asked k p h
  shown s asked k p task.StartUp h = absurd h
  shown s asked k p (task.Fade f) h = running s asked k p f h
  shown s asked k p (task.Move m) h = absurd h
  shown s asked k p (task.OnReaction r) h = absurd h

pub accepted_zero : (s : LevelControlState) (e : Event) → accepted s e ≡ true → number_of s e ≡ 0
accepted_zero s e h = sym (event_number s e) ∙ eqb-true (event_of s e).number 0 h

-- the answer after on
reacting_starts : (s : LevelControlState) (at₀ at : Micros) (on : Bool) (v c t T : ℕ) → on_start s v ≡ Fades c t T
    → number_of (reacting s at₀) (event at on (kind.Answer (device.Level v))) ≡ 0
    → Starting (event_of (reacting s at₀) (event at on (kind.Answer (device.Level v)))) at c t T
unfolding on_start
reacting_starts s at₀ at on v c t T named z =
    subst (λ (o : Outcome). Starting o at c t T) (sym (on_answered_is (reacting s at₀) (record { before = s.current_level }) at on v refl z))
    (on_starts (reacting s at₀) s.current_level at on v c t T (same s.attributes.on_level s.current_level ∙ named))
  where
    same : (o b : Level) → on_start_at o b (reacting s at₀) v ≡ on_start_at o b s v
    same (Some l) b = refl
    same None (Some l) = refl
    same None None = refl

-- the answer after on and refused events, in the state that they leave
module _ (s : LevelControlState) (at₀ at : Micros) (on₀ on : Bool) (es : List Event) (v c t T : ℕ) where
  abbrev pub left : EventKind → LevelControlState
  left k = state_after (event_of s (event at₀ on₀ k)).state es

  abbrev pub Answers : EventKind → EventKind → Type 0
  Answers k a =
      accepted s (event at₀ on₀ k) ≡ true → all_refused (event_of s (event at₀ on₀ k)).state es ≡ true → accepted (left k) (event at on a) ≡ true
      → Starting (event_of (left k) (event at on a)) at c t T

  on_answers : on_start s v ≡ Fades c t T → Answers (kind.Command (command.OnOffChanged true)) (kind.Answer (device.Level v))
  on_answers named ok refusals answered =
      let first : (event_of s (event at₀ on₀ (kind.Command (command.OnOffChanged true)))).state ≡ reacting s at₀ =
      ap (λ (o : Outcome). o.state) (on_is s at₀ on₀ (accepted_zero s (event at₀ on₀ (kind.Command (command.OnOffChanged true))) ok)) in
      let same : left (kind.Command (command.OnOffChanged true)) ≡ reacting s at₀ = refused_stays _ es refusals ∙ first in
      let z : number_of (reacting s at₀) (event at on (kind.Answer (device.Level v))) ≡ 0 =
      accepted_zero (reacting s at₀) (event at on (kind.Answer (device.Level v)))
      (subst (λ (x : LevelControlState). accepted x (event at on (kind.Answer (device.Level v))) ≡ true) same answered) in
      subst (λ (x : LevelControlState). Starting (event_of x (event at on (kind.Answer (device.Level v)))) at c t T) (sym same)
      (reacting_starts s at₀ at on v c t T named z)

  pub after_on_starts : (k a : EventKind) → k ≡ kind.Command (command.OnOffChanged true) → a ≡ kind.Answer (device.Level v) → on_start s v ≡ Fades c t T → Answers k a
  after_on_starts k a q r named =
      subst (λ (x : EventKind). Answers x a) (sym q) (subst (λ (x : EventKind). Answers (kind.Command (command.OnOffChanged true)) x) (sym r) (on_answers named))

pub starts : (o : Outcome) (c t T : ℕ) → Starts o c t T → (at : Micros) × Starting o at c t T
starts _ _ _ _ (directly s e c t T ok named) = (e.moment.at, direct_starts s e.moment.at e.moment.on_off c t T e.kind (accepted_zero s e ok) named)
starts _ _ _ _ (after_on s e a es v c t T ok q refusals answered r named) =
    (a.moment.at, after_on_starts s e.moment.at a.moment.at e.moment.on_off a.moment.on_off es v c t T e.kind a.kind q r named ok refusals answered)

-- what holds after the list
pub kept : (o : Outcome) (c t T : ℕ) (es : List Event) → Starts o c t T → (pos : 1 ≤ T) (small : T ≤ 65535) → only_onward (started o) es ≡ true
    → Kept c t T pos small (play (started o) es)
kept o c t T es w pos small h = goes_on c t T pos small es (started o) h (starting_holds o (starts o c t T w).0 c t T (starts o c t T w).1 pos)

pub every_fade : EveryFade
every_fade o c t T es w ne pos small h =
    let r : Run = play (started o) es in
    shown c t T pos small r.state r.asked r.answers r.pending r.state.task
    (kept o c t T es w pos small h)
