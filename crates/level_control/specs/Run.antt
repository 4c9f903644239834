-- Every fade: what is seen of a play, read off the accepted events and their actions.
use Rattle.std.specs.Prelude.{ℕ, ◌+◌, Bool, true, false, not, ◌&&◌, ◌||◌, List, [], ◌∷◌, ◌++◌, eqb}
use Rattle.transitions.specs.declared.actions.Action.{Action}
use Rattle.transitions.specs.declared.actions.ActionKind.{ActionKind}
use Rattle.transitions.specs.declared.actions.ActionKind.TheVariants.{D, P, S, C, L, R, W, E, K, X}
use Rattle.transitions.specs.declared.events.DeviceAnswer.{DeviceAnswer}
use Rattle.transitions.specs.declared.events.DeviceAnswer.TheVariants as device
use Rattle.transitions.specs.declared.events.Event.{Event}
use Rattle.transitions.specs.declared.events.EventKind.{EventKind}
use Rattle.transitions.specs.declared.events.EventKind.TheVariants as kind
use Rattle.level_control.specs.Answer.{Outcome}
use Rattle.level_control.specs.Handle.{event_of}
use Rattle.level_control.specs.declared.state.LevelControlState.{LevelControlState}

-- the levels that a list of actions asks for

abbrev pub asked_by : ActionKind → ℕ → List ℕ
asked_by D v = v ∷ []
asked_by P v = []
asked_by S v = []
asked_by C v = []
asked_by L v = []
asked_by R v = []
asked_by W v = []
asked_by E v = []
asked_by K v = []
asked_by X v = []

abbrev pub asks : List Action → List ℕ
asks [] = []
asks (a ∷ l) = asked_by a.kind a.value ++ asks l

-- an open request lasts from D to the accepted answer, a wait from W to the accepted wake; at rest there is neither
pub data Pending : Type 0 where
  Nothing : Pending
  Request : Pending
  Wait : Pending

abbrev pub opened_by : ActionKind → Pending → Pending
opened_by D p = Request
opened_by W p = Wait
opened_by P p = p
opened_by S p = p
opened_by C p = p
opened_by L p = p
opened_by R p = p
opened_by E p = p
opened_by K p = p
opened_by X p = p

abbrev pub opened : List Action → Pending → Pending
opened [] p = p
opened (a ∷ l) p = opened l (opened_by a.kind p)

abbrev pub closed_by : EventKind → Pending → Pending
closed_by kind.StartUp p = p
closed_by (kind.Answer a) Nothing = Nothing
closed_by (kind.Answer a) Request = Nothing
closed_by (kind.Answer a) Wait = Wait
closed_by kind.Wake Nothing = Nothing
closed_by kind.Wake Request = Request
closed_by kind.Wake Wait = Nothing
closed_by (kind.Command c) p = p

abbrev pub waits : Pending → Bool
waits Nothing = false
waits Request = false
waits Wait = true

-- an event is accepted exactly when no cause refuses it
abbrev pub accepted : LevelControlState → Event → Bool
accepted s e = eqb (event_of s e).number 0

abbrev pub count_answer : EventKind → ℕ
count_answer kind.StartUp = 0
count_answer (kind.Answer a) = 1
count_answer kind.Wake = 0
count_answer (kind.Command c) = 0

-- a run from the start of a fade: the state, the levels asked for, the answers accepted since, and what is open
pub record Run : Type 0 where
  pub state : LevelControlState
  pub asked : List ℕ
  pub answers : ℕ
  pub pending : Pending

-- the event that starts a fade: its requests count, it is no answer to one of them
abbrev pub started : Outcome → Run
started o = record { state = o.state; asked = asks o.actions; answers = 0; pending = opened o.actions Nothing }

-- each event gets the state that the last one left
abbrev pub next_by : Bool → Outcome → EventKind → Run → Run
next_by true o t r = record {
  state = o.state;
  asked = r.asked ++ asks o.actions;
  answers = r.answers + count_answer t;
  pending = opened o.actions (closed_by t r.pending);
}
next_by false o t r = record {
  state = o.state;
  asked = r.asked ++ asks o.actions;
  answers = r.answers;
  pending = opened o.actions r.pending;
}

unfoldable pub next : Run → Event → Run
next r e = next_by (accepted r.state e) (event_of r.state e) e.kind r

abbrev pub play : Run → List Event → Run
play r [] = r
play r (e ∷ es) = play (next r e) es

-- answers with a level, and wakes

abbrev pub with_level : DeviceAnswer → Bool
with_level (device.Level v) = true
with_level device.Missing = false
with_level device.Failed = false

abbrev pub is_onward : EventKind → Bool
is_onward kind.StartUp = false
is_onward (kind.Answer a) = with_level a
is_onward kind.Wake = true
is_onward (kind.Command c) = false

-- of the events, refused ones included, only answers with a level and wakes are accepted
abbrev pub only_onward : Run → List Event → Bool
only_onward r [] = true
only_onward r (e ∷ es) = (not (accepted r.state e) || is_onward e.kind) && only_onward (next r e) es

-- A lamp that gives back each level that it was asked for.

-- the level asked for last, or 0 where none was
abbrev pub last_of : List ℕ → ℕ
last_of [] = 0
last_of (x ∷ []) = x
last_of (x ∷ y ∷ l) = last_of (y ∷ l)

abbrev pub gives_back : DeviceAnswer → ℕ → Bool
gives_back (device.Level v) asked = eqb v asked
gives_back device.Missing asked = false
gives_back device.Failed asked = false

-- an answer that gives back the level asked for last, and a wake
abbrev pub is_echo : EventKind → ℕ → Bool
is_echo kind.StartUp asked = false
is_echo (kind.Answer a) asked = gives_back a asked
is_echo kind.Wake asked = true
is_echo (kind.Command c) asked = false

-- of the events, refused ones included, only these are accepted
abbrev pub only_echo : Run → List Event → Bool
only_echo r [] = true
only_echo r (e ∷ es) = (not (accepted r.state e) || is_echo e.kind (last_of r.asked)) && only_echo (next r e) es

-- every event is refused
abbrev pub all_refused : LevelControlState → List Event → Bool
all_refused s [] = true
all_refused s (e ∷ es) = not (accepted s e) && all_refused (event_of s e).state es

-- the state after a list
abbrev pub state_after : LevelControlState → List Event → LevelControlState
state_after s [] = s
state_after s (e ∷ es) = state_after (event_of s e).state es
