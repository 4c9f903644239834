-- Every fade: an uninterrupted one; and what of it the task says is open.
use Rattle.std.specs.Prelude.{Bool, true, false, cond, not, ◌&&◌, ◌||◌, List, [], ◌∷◌}
use Rattle.transitions.specs.declared.events.Event.{Event}
use Rattle.transitions.specs.declared.events.EventKind.{EventKind}
use Rattle.transitions.specs.declared.events.EventKind.TheVariants as kind
use Rattle.transitions.specs.declared.tasks.Phase.{Phase}
use Rattle.transitions.specs.declared.tasks.Phase.TheVariants.{Asked, Waiting}
use Rattle.transitions.specs.declared.tasks.Task.{Task}
use Rattle.transitions.specs.declared.tasks.Task.TheVariants as task
use Rattle.level_control.specs.Run.{Run, Pending, Nothing, Request, Wait, accepted, next, with_level}

abbrev pub is_answer_or_wake : EventKind → Bool
is_answer_or_wake kind.StartUp = false
is_answer_or_wake (kind.Answer a) = true
is_answer_or_wake kind.Wake = true
is_answer_or_wake (kind.Command c) = false

abbrev pub at_rest : Pending → Bool
at_rest Nothing = true
at_rest Request = false
at_rest Wait = false

-- up to the fade's end only answers and wakes are accepted
abbrev pub uninterrupted : Run → List Event → Bool
uninterrupted r [] = true
uninterrupted r (e ∷ es) =
    at_rest r.pending || ((not (accepted r.state e) || is_answer_or_wake e.kind) && uninterrupted (next r e) es)

-- the events up to the fade's end, where there is neither a request nor a wait; and those after it

abbrev pub up_to_end : Run → List Event → List Event
up_to_end r [] = []
up_to_end r (e ∷ es) = cond (at_rest r.pending) [] (e ∷ up_to_end (next r e) es)

abbrev pub after_end : Run → List Event → List Event
after_end r [] = []
after_end r (e ∷ es) = cond (at_rest r.pending) (e ∷ es) (after_end (next r e) es)

-- every answer that is accepted has a level

abbrev pub loses_no_level : EventKind → Bool
loses_no_level kind.StartUp = true
loses_no_level (kind.Answer a) = with_level a
loses_no_level kind.Wake = true
loses_no_level (kind.Command c) = true

abbrev pub all_levels : Run → List Event → Bool
all_levels r [] = true
all_levels r (e ∷ es) = (not (accepted r.state e) || loses_no_level e.kind) && all_levels (next r e) es

-- the request or the wait that a task keeps

abbrev pub phase_shows : Phase → Pending
phase_shows (Asked since) = Request
phase_shows (Waiting until) = Wait

abbrev pub open_of : Task → Pending
open_of task.Rest = Nothing
open_of task.StartUp = Request
open_of (task.Fade f) = phase_shows f.phase
open_of (task.Move m) = phase_shows m.phase
open_of (task.OnReaction r) = Request
