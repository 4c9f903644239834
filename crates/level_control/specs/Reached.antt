-- Settings and reset; Events and answers: the states that settings and events lead to.
use Rattle.std.specs.Prelude.{Bool, true, ◌≡◌, List}
use Rattle.transitions.specs.declared.events.Event.{Event}
use Rattle.transitions.specs.declared.settings.Settings.{Settings}
use Rattle.level_control.specs.Handle.{event_of}
use Rattle.level_control.specs.Run.{state_after}
use Rattle.level_control.specs.State.{new_state}
use Rattle.level_control.specs.declared.state.LevelControlState.{LevelControlState}

-- from these settings events, each in the state that the last one left, lead to the state
pub record ReachedFrom (settings : Settings) (s : LevelControlState) : Type 0 where
  pub events : List Event
  pub leads : state_after (new_state settings) events ≡ s

-- from some settings they do
pub record Reached (s : LevelControlState) : Type 0 where
  pub from : Settings
  pub reached : ReachedFrom from s

pub record ReachedStates : Type 0 where
  -- The state that settings give is reached from them, and so is the state after any event, a refused one too, in a state that is.
  pub first : (x : Settings) → ReachedFrom x (new_state x)
  pub next : (x : Settings) (s : LevelControlState) (e : Event) → ReachedFrom x s → ReachedFrom x (event_of s e).state
  -- There are no others: a test that holds in the state that settings give, and that no event ends in a state reached from them, holds in every state
  -- reached from them. The settings are given, so that what is known of them may be used.
  pub induction : (x : Settings) (holds : LevelControlState → Bool) → holds (new_state x) ≡ true
      → ((s : LevelControlState) (e : Event) → ReachedFrom x s → holds s ≡ true → holds (event_of s e).state ≡ true)
      → (s : LevelControlState) → ReachedFrom x s → holds s ≡ true
  -- So it is for all settings at once.
  pub every_induction : (holds : LevelControlState → Bool) → ((x : Settings) → holds (new_state x) ≡ true)
      → ((s : LevelControlState) (e : Event) → Reached s → holds s ≡ true → holds (event_of s e).state ≡ true)
      → (s : LevelControlState) → Reached s → holds s ≡ true
