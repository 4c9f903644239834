-- Events and answers: the orders in which the kinds of the actions stand.
use Rattle.std.specs.Prelude.{true, false, List, [], ◌∷◌}
use Rattle.transitions.specs.declared.actions.Action.{Action}
use Rattle.transitions.specs.declared.actions.ActionKind.{ActionKind}
use Rattle.transitions.specs.declared.actions.ActionKind.TheVariants.{D, P, S, C, L, R, W, E, K, X}
use Rattle.transitions.specs.declared.events.DeviceAnswer.{DeviceAnswer}
use Rattle.transitions.specs.declared.events.DeviceAnswer.TheVariants as device
use Rattle.transitions.specs.declared.events.EventKind.{EventKind}
use Rattle.transitions.specs.declared.events.EventKind.TheVariants as kind
use Rattle.transitions.specs.declared.tasks.Task.{Task}
use Rattle.transitions.specs.declared.tasks.Task.TheVariants as task
use Rattle.transitions.specs.declared.events.Command.TheVariants as command

-- the kinds of some actions
abbrev pub kinds_of : List Action → List ActionKind
kinds_of [] = []
kinds_of (a ∷ l) = a.kind ∷ kinds_of l

-- kinds that a pattern leads to when entries of it are left out, and nothing is moved
pub data LeavesOut : List ActionKind → List ActionKind → Type 0 where
  end : LeavesOut [] []
  takes : {k : ActionKind} {pattern kinds : List ActionKind} → LeavesOut pattern kinds → LeavesOut (k ∷ pattern) (k ∷ kinds)
  leaves : {k : ActionKind} {pattern kinds : List ActionKind} → LeavesOut pattern kinds → LeavesOut (k ∷ pattern) kinds

-- kinds that one of some patterns leads to
pub data OneOf : List (List ActionKind) → List ActionKind → Type 0 where
  this : {pattern kinds : List ActionKind} {others : List (List ActionKind)} → LeavesOut pattern kinds → OneOf (pattern ∷ others) kinds
  later : {pattern kinds : List ActionKind} {others : List (List ActionKind)} → OneOf others kinds → OneOf (pattern ∷ others) kinds

abbrev pub only : List ActionKind → List (List ActionKind)
only pattern = pattern ∷ []

abbrev pub nothing : List (List ActionKind)
nothing = only []

-- an answer with a level gives P, S, C, L, R, then W, or D, or the P, L of a level put back; a missing one P, S, E
abbrev pub fade_orders : DeviceAnswer → List (List ActionKind)
fade_orders (device.Level v) =
    (P ∷ S ∷ C ∷ L ∷ R ∷ W ∷ [])
    ∷ (P ∷ S ∷ C ∷ L ∷ R ∷ D ∷ [])
    ∷ (P ∷ S ∷ C ∷ L ∷ R ∷ P ∷ L ∷ [])
    ∷ []
fade_orders device.Missing = only (P ∷ S ∷ E ∷ [])
fade_orders device.Failed = only (E ∷ [])

-- an answer with a level gives P, S, L, then C at the end, or W, or C, D; a missing one P, S, L, E
abbrev pub move_orders : DeviceAnswer → List (List ActionKind)
move_orders (device.Level v) =
    (P ∷ S ∷ L ∷ C ∷ [])
    ∷ (P ∷ S ∷ L ∷ W ∷ [])
    ∷ (P ∷ S ∷ L ∷ C ∷ D ∷ [])
    ∷ []
move_orders device.Missing = only (P ∷ S ∷ L ∷ E ∷ [])
move_orders device.Failed = only (E ∷ [])

-- an answer with a level gives P, S, L, then C where the target is already reached, or D, or E; a missing one P, S, L, E
abbrev pub on_orders : DeviceAnswer → List (List ActionKind)
on_orders (device.Level v) =
    (P ∷ S ∷ L ∷ C ∷ [])
    ∷ (P ∷ S ∷ L ∷ D ∷ [])
    ∷ (P ∷ S ∷ L ∷ E ∷ [])
    ∷ []
on_orders device.Missing = only (P ∷ S ∷ L ∷ E ∷ [])
on_orders device.Failed = only (E ∷ [])

-- an answer gives P at most; a failed one nothing
abbrev pub start_up_orders : DeviceAnswer → List (List ActionKind)
start_up_orders (device.Level v) = only (P ∷ [])
start_up_orders device.Missing = only (P ∷ [])
start_up_orders device.Failed = nothing

-- an answer goes to the task whose request is open
abbrev pub answer_orders : Task → DeviceAnswer → List (List ActionKind)
answer_orders task.Rest a = nothing
answer_orders task.StartUp a = start_up_orders a
answer_orders (task.Fade f) a = fade_orders a
answer_orders (task.Move m) a = move_orders a
answer_orders (task.OnReaction r) a = on_orders a

-- a wake goes to the task that waits: a fade asks; a move asks, after C, or has no level to go on from
abbrev pub wake_orders : Task → List (List ActionKind)
wake_orders task.Rest = nothing
wake_orders task.StartUp = nothing
wake_orders (task.Fade f) = only (D ∷ [])
wake_orders (task.Move m) = (C ∷ D ∷ []) ∷ (E ∷ []) ∷ []
wake_orders (task.OnReaction r) = nothing

-- the patterns of an event, by the task that it finds and its kind
unfoldable pub orders : Task → EventKind → List (List ActionKind)
orders t kind.StartUp = only (D ∷ [])
-- a target is asked for, or reached (C), or there is no level to start from (E)
orders t (kind.Command (command.MoveToLevel r)) = (D ∷ []) ∷ (C ∷ []) ∷ (E ∷ []) ∷ []
orders t (kind.Command (command.Move r)) = (C ∷ D ∷ []) ∷ (E ∷ []) ∷ []
-- a step from a missing level was refused: no E
orders t (kind.Command (command.Step r)) = (D ∷ []) ∷ (C ∷ []) ∷ []
orders t (kind.Command (command.Stop r)) = only (R ∷ [])
orders t (kind.Answer a) = answer_orders t a
orders t kind.Wake = wake_orders t
-- on asks for MIN; off is a target, and reports the level where it was reached
orders t (kind.Command (command.OnOffChanged true)) = only (D ∷ [])
orders t (kind.Command (command.OnOffChanged false)) = (D ∷ []) ∷ (C ∷ L ∷ []) ∷ (E ∷ []) ∷ []
-- a scene is a target without on/off: no C
orders t (kind.Command (command.Scene r)) = (D ∷ []) ∷ (E ∷ []) ∷ []
orders t (kind.Command (command.DeviceUpdate level)) = only (P ∷ S ∷ L ∷ R ∷ [])
orders t (kind.Command command.DeviceStop) = only (R ∷ [])
orders t (kind.Command (command.SetOnLevel level)) = only (K ∷ [])
orders t (kind.Command (command.SetDefaultMoveRate rate)) = only (K ∷ [])
orders t (kind.Command (command.SetStartUpCurrentLevel level)) = only (K ∷ [])
orders t (kind.Command command.FactoryReset) = only (X ∷ [])
