-- The states that settings and events lead to, one event after another. Assumes nothing.
use mathlib.Core.Bool.{true, false, true≢false}
use mathlib.Core.Path.{◌≡◌, refl, sym, ap, subst, ◌∙◌}
use mathlib.Core.List.{List, [], ◌∷◌, ◌++◌, append-nil}
use borrow.Author.Tests.{eq-eqb}
use lib.Seq.{append_snoc}
use Rattle.transitions.specs.declared.events.Event.{Event}
use Rattle.transitions.specs.declared.settings.Settings.{Settings}
use Rattle.level_control.specs.Answer.{Outcome}
use Rattle.level_control.specs.Handle.{event_of}
use Rattle.level_control.specs.Reached.{ReachedFrom, ReachedStates}
use Rattle.level_control.specs.Run.{accepted, state_after}
use Rattle.level_control.specs.State.{new_state}
use Rattle.level_control.specs.declared.state.LevelControlState.{LevelControlState}
use Rattle.level_control.proofs.EventLaws.{event_refused, event_number}

-- a refused event leaves the state as it was
pub refused_state : (s : LevelControlState) (e : Event) → accepted s e ≡ false → (event_of s e).state ≡ s
refused_state s e h =
    ap (λ (o : Outcome). o.state)
    (event_refused s e (λ z. true≢false (sym (eq-eqb (event_of s e).number 0 (event_number s e ∙ z)) ∙ h)))

pub state_after_append : (s : LevelControlState) (es ds : List Event) → state_after s (es ++ ds) ≡ state_after (state_after s es) ds
state_after_append s [] ds = refl
state_after_append s (e ∷ es) ds = state_after_append (event_of s e).state es ds

-- What holds before the first event, and holds with each further one, holds of every list of events and the state after it.
module _ (first : LevelControlState) where
  pub lists_induction {ℓ} : (P : List Event → LevelControlState → Type ℓ) → P [] first
      → ((es : List Event) (e : Event) → P es (state_after first es) → P (es ++ (e ∷ [])) (event_of (state_after first es) e).state)
      → (es : List Event) → P es (state_after first es)
  lists_induction P base step es = go [] es base
    where
      go : (done es : List Event) → P done (state_after first done) → P (done ++ es) (state_after first (done ++ es))
      go done [] h = rw append-nil h
      go done (e ∷ es) h =
          let one = subst (P (done ++ (e ∷ []))) (sym (state_after_append first done (e ∷ []))) (step done e h) in
          subst (λ (l : List Event). P l (state_after first l)) (append_snoc done e es) (go (done ++ (e ∷ [])) es one)

-- What holds of the state that settings give, and of what every event makes of a reached state of which it holds, holds of every state reached from them.
pub reached_induction {ℓ} : (P : LevelControlState → Type ℓ) (x : Settings) → P (new_state x)
    → ((s : LevelControlState) (e : Event) → ReachedFrom x s → P s → P (event_of s e).state)
    → (s : LevelControlState) → ReachedFrom x s → P s
reached_induction P x base step s w =
    subst P w.leads
    (lists_induction (new_state x) (λ (es : List Event) (s : LevelControlState). P s) base
    (λ es e h. step (state_after (new_state x) es) e (record { events = es; leads = refl }) h) w.events)

pub reached_first : (x : Settings) → ReachedFrom x (new_state x)
reached_first x = record { events = []; leads = refl }

pub reached_next : (x : Settings) (s : LevelControlState) (e : Event) → ReachedFrom x s → ReachedFrom x (event_of s e).state
reached_next x s e w = record {
  events = w.events ++ (e ∷ []);
  leads = state_after_append (new_state x) w.events (e ∷ []) ∙ ap (λ (s : LevelControlState). (event_of s e).state) w.leads;
}

pub reached_states : ReachedStates
reached_states = record {
  first = reached_first;
  next = reached_next;
  induction = λ x holds base step. reached_induction (λ (s : LevelControlState). holds s ≡ true) x base step;
  every_induction = λ holds base step s w.
      reached_induction (λ (s : LevelControlState). holds s ≡ true) w.from (base w.from)
      (λ s e r. step s e (record { from = w.from; reached = r })) s w.reached;
}
