-- Events and answers: the actions of an answer, and what is told of a state.
use Rattle.std.specs.Prelude.{ℕ, Bool, false, cond, Option, Some, None, List, [], ◌∷◌, ◌++◌, take, replicate}
use Rattle.transitions.specs.declared.actions.Action.{Action}
use Rattle.transitions.specs.declared.actions.ActionKind.{ActionKind}
use Rattle.transitions.specs.declared.actions.ActionKind.TheVariants.{P, S, C, L, R, X}

abbrev pub action : ActionKind → ℕ → Action
action k v = record { kind = k; value = v }

-- one action
abbrev pub act : ActionKind → ℕ → List Action
act k v = action k v ∷ []

-- one action with no value, where a test holds
abbrev pub act_if : Bool → ActionKind → List Action
act_if test k = cond test (act k 0) []

-- C, where it is sent
abbrev pub act_coupled : Option Bool → List Action
act_coupled (Some wanted) = act C (cond wanted 1 0)
act_coupled None = []

-- slots that are not filled
abbrev pub free_slots : ℕ → List Action
free_slots n = replicate n (action X 0)

-- a list holds seven actions, and drops what comes after
abbrev pub held : List Action → List Action
held actions = take 7 actions

-- one more with no value, where a test holds; and C, where it is sent

abbrev pub held_if : Bool → ActionKind → List Action → List Action
held_if test kind actions = cond test (held (actions ++ act kind 0)) actions

abbrev pub held_coupled : Option Bool → List Action → List Action
held_coupled (Some on) actions = held (actions ++ act C (cond on 1 0))
held_coupled None actions = actions

-- what is to be told of a state that an answer left
pub record Reports : Type 0 where
  pub stored : Bool
  pub scene : Bool
  pub coupling : Option Bool
  pub level : Bool
  pub time : Bool

-- after a device's answer the order is P, S, C, L, R
unfoldable pub reports_of : Reports → List Action
reports_of r = act_if r.stored P ++ act_if r.scene S ++ act_coupled r.coupling ++ act_if r.level L ++ act_if r.time R

abbrev pub no_reports : Reports
no_reports = record { stored = false; scene = false; coupling = None; level = false; time = false }
