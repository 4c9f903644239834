-- Every fade, what goes with the claim: the start of a fade that runs, in the list of events that led to it, and what was accepted since.
use Rattle.std.specs.Prelude.{ℕ, ◌+◌, ◌*◌, ◌/◌, ◌≤◌, Bool, true, false, not, ◌&&◌, ◌||◌, ◌≡◌, List, [], ◌∷◌, ◌++◌, Some}
use Rattle.units.specs.declared.Micros.{Micros}
use Rattle.transitions.specs.declared.events.Command.TheVariants as command
use Rattle.transitions.specs.declared.events.DeviceAnswer.TheVariants as device
use Rattle.transitions.specs.declared.events.Event.{Event}
use Rattle.transitions.specs.declared.events.EventKind.{EventKind}
use Rattle.transitions.specs.declared.events.EventKind.TheVariants as kind
use Rattle.transitions.specs.declared.settings.Settings.{Settings}
use Rattle.transitions.specs.declared.tasks.Fade.{Fade}
use Rattle.transitions.specs.declared.tasks.Phase.TheVariants.{Asked, Waiting}
use Rattle.transitions.specs.declared.tasks.Task.TheVariants as task
use Rattle.transitions.specs.Types.{Level, is_missing}
use Rattle.level_control.specs.Answer.{Outcome}
use Rattle.level_control.specs.EveryFade.{Starts, directly, after_on}
use Rattle.level_control.specs.Handle.{event_of}
use Rattle.level_control.specs.Reached.{ReachedFrom}
use Rattle.level_control.specs.Run.{accepted, state_after}
use Rattle.level_control.specs.Starts.{distance}
use Rattle.level_control.specs.State.{new_state}
use Rattle.level_control.specs.declared.state.LevelControlState.{LevelControlState}
use Rattle.event_theorems.specs.ByField.{options_stop}
use Rattle.event_theorems.specs.TaskAfter.{at_limit}
use Rattle.level_theorems.specs.Covered.{SameFade}

-- The start of a fade: where it stands.

-- the events of a start, from its command on
abbrev pub events_of : {o : Outcome} {c t T : ℕ} → Starts o c t T → List Event
events_of (directly s e c t T ok named) = e ∷ []
events_of (after_on s e a es v c t T ok on refusals answered level named) = e ∷ (es ++ (a ∷ []))

-- the state in which the move to level, step, off, scene or on was given. After on the fade starts in the answer; neither on nor that answer writes the remaining time
abbrev pub given_in : {o : Outcome} {c t T : ℕ} → Starts o c t T → LevelControlState
given_in (directly s e c t T ok named) = s
given_in (after_on s e a es v c t T ok on refusals answered level named) = s

-- the level that the fade starts from: the level then; after on, the answer to the request for MIN
abbrev pub level_from : {o : Outcome} {c t T : ℕ} → Starts o c t T → Level
level_from (directly s e c t T ok named) = s.current_level
level_from (after_on s e a es v c t T ok on refusals answered level named) = Some v

-- What leaves a fade as it was.

-- a setter; a scene without a level; a move at its limit
abbrev pub asks_nothing : LevelControlState → EventKind → Bool
asks_nothing s kind.StartUp = false
asks_nothing s (kind.Answer a) = false
asks_nothing s kind.Wake = false
asks_nothing s (kind.Command (command.MoveToLevel r)) = false
asks_nothing s (kind.Command (command.Move r)) = at_limit r.mode s.current_level s.settings
asks_nothing s (kind.Command (command.Step r)) = false
asks_nothing s (kind.Command (command.Stop r)) = false
asks_nothing s (kind.Command (command.OnOffChanged value)) = false
asks_nothing s (kind.Command (command.Scene r)) = is_missing r.level
asks_nothing s (kind.Command (command.DeviceUpdate level)) = false
asks_nothing s (kind.Command command.DeviceStop) = false
asks_nothing s (kind.Command (command.SetOnLevel level)) = true
asks_nothing s (kind.Command (command.SetDefaultMoveRate rate)) = true
asks_nothing s (kind.Command (command.SetStartUpCurrentLevel level)) = true
asks_nothing s (kind.Command command.FactoryReset) = false

-- such an event, or one that the options stop
abbrev pub leaves_task : LevelControlState → Event → Bool
leaves_task s e = options_stop s e || asks_nothing s e.kind

-- of the events, refused ones included, none that is accepted is such
abbrev pub none_leaves : LevelControlState → List Event → Bool
none_leaves s [] = true
none_leaves s (e ∷ es) = (not (accepted s e) || not (leaves_task s e)) && none_leaves (event_of s e).state es

-- What is accepted while a fade runs.

-- an event in a state where a fade runs, and the state after it, where it still runs
pub data Follows (s : LevelControlState) (e : Event) (s' : LevelControlState) : Type 0 where
  -- an answer with a level to its request
  answers : (f g : Fade) (since : Micros) (v : ℕ) → s.task ≡ task.Fade f → f.phase ≡ Asked since → e.kind ≡ kind.Answer (device.Level v)
      → s'.task ≡ task.Fade g → SameFade f g → Follows s e s'
  -- the wake that ends its wait
  wakes : (f g : Fade) (until : Micros) → s.task ≡ task.Fade f → f.phase ≡ Waiting until → until.0 ≤ e.moment.at.0 → e.kind ≡ kind.Wake
      → s'.task ≡ task.Fade g → SameFade f g → Follows s e s'
  -- an event that leaves it as it was
  leaves : (f : Fade) → s.task ≡ task.Fade f → leaves_task s e ≡ true → s'.task ≡ task.Fade f → Follows s e s'

-- of the events, refused ones included, each that is accepted is such
abbrev pub AllFollow : LevelControlState → List Event → Type 0
AllFollow s [] = Unit
AllFollow s (e ∷ es) = (accepted s e ≡ true → Follows s e (event_of s e).state) × AllFollow (event_of s e).state es

-- A fade that runs.

-- f is a fade from c: its period is 100·T ÷ n milliseconds; its counter has left c, is not past the target, and not yet there while it waits; a level that it
-- puts back is c
pub record FadesFrom (c : ℕ) (f : Fade) : Type 0 where
  pub period : f.period.0 ≡ 100 * f.transition_time.0 / distance f.target c
  pub between : distance f.target f.counter + distance f.counter c ≡ distance f.target c
  pub left : 1 ≤ distance f.counter c
  pub more : (until : Micros) → f.phase ≡ Waiting until → f.counter ≡ f.target → ⊥
  pub back : (before : ℕ) → f.put_back ≡ Some before → before ≡ c

-- after these events in a state, f runs: a start of it, from c to t in T tenths, stands among them, and those since left it running
pub record FadeRuns (first : LevelControlState) (es : List Event) (f : Fade) : Type 0 where
  pub outcome : Outcome
  pub c : ℕ
  pub t : ℕ
  pub T : ℕ
  pub start : Starts outcome c t T
  pub level : level_from start ≡ Some c
  pub target : f.target ≡ t
  pub time : f.transition_time.0 ≡ T
  pub fade : FadesFrom c f
  pub earlier : List Event
  pub since : List Event
  pub stands : es ≡ earlier ++ events_of start ++ since
  pub given : given_in start ≡ state_after first earlier
  pub followed : AllFollow outcome.state since

-- What else holds in every reached state.
pub record InReached : Type 0 where
  -- The settings are those that it is reached from.
  pub settings : (x : Settings) (s : LevelControlState) → ReachedFrom x s → s.settings ≡ x
  -- As long as no event was accepted it is the state that they give: at rest, with the last accepted time 0.
  pub untouched : (x : Settings) (s : LevelControlState) → ReachedFrom x s → s.started ≡ false → s ≡ new_state x
