-- Events and answers: what an event gives, and how the code's array holds it.
use Rattle.std.specs.Prelude.{ℕ, min, Option, Some, None, Result, Ok, Err, List, [], ◌∷◌, ◌++◌, eqb, length, take, replicate, find}
use Rattle.transitions.specs.Causes.{refusal_number}
use Rattle.transitions.specs.Actions.{action}
use Rattle.transitions.specs.declared.actions.Action.{Action}
use Rattle.transitions.specs.declared.actions.ActionKind.TheVariants.{X}
use Rattle.transitions.specs.declared.causes.Refusal.{Refusal}
use Rattle.transitions.specs.declared.causes.Refusal.TheVariants.{TimeRefused, AnswerOpen, NoAnswerOpen, WakeRefused, StartUpLate, InvalidCommand, InvalidInState, ProductTooLarge, LevelOutside, RateZero}
use Rattle.level_control.specs.declared.answer.Answer.{Answer}
use Rattle.level_control.specs.declared.state.LevelControlState.{LevelControlState}

-- what an event gives: its number, the state after it, its actions in order
pub record Outcome : Type 0 where
  pub number : ℕ
  pub state : LevelControlState
  pub actions : List Action

-- an accepted event
abbrev pub done : LevelControlState → List Action → Outcome
done s l = record { number = 0; state = s; actions = l }

-- a refused event changes nothing
abbrev pub refused : LevelControlState → ℕ → Outcome
refused s n = record { number = n; state = s; actions = [] }

-- what is handled in place: the state and the actions that it leaves
abbrev pub handled : {A : Type 0} → Result A Refusal → LevelControlState → List Action → Outcome
handled (Ok nothing) s l = done s l
handled (Err cause) s l = record { number = refusal_number cause; state = s; actions = l }

-- its number: 0 where the event is accepted
abbrev pub handled_number : {A : Type 0} → Result A Refusal → ℕ
handled_number (Ok nothing) = 0
handled_number (Err cause) = refusal_number cause

-- the number that an answer's refusal stands for
abbrev pub number_shown : Option Refusal → ℕ
number_shown None = 0
number_shown (Some cause) = refusal_number cause

-- the same after actions that stand before
abbrev pub after : List Action → Outcome → Outcome
after l o = record { number = o.number; state = o.state; actions = l ++ o.actions }

-- every cause that an event can be refused for
abbrev pub refusals : List Refusal
refusals =
    TimeRefused ∷ AnswerOpen ∷ NoAnswerOpen ∷ WakeRefused ∷ StartUpLate ∷ InvalidCommand ∷ InvalidInState ∷ ProductTooLarge ∷ LevelOutside ∷ RateZero ∷ []

-- the one that has a number; of 0, an accepted event's, there is none
abbrev pub refusal_of : ℕ → Option Refusal
refusal_of n = find (λ cause. eqb (refusal_number cause) n) refusals

-- actions in an array, beside the number filled. A free slot holds X with value 0. The array has the first seven: no event has more (`at_most_seven`)
unfoldable pub answer_of : Option Refusal → LevelControlState → List Action → Answer
answer_of refusal s l = record {
  refusal = refusal;
  state = s;
  actions = take 7 (l ++ replicate 7 (action X 0));
  count = min 7 (length l);
}

unfoldable pub packed : Outcome → Answer
packed o = answer_of (refusal_of o.number) o.state o.actions
