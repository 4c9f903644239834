-- Events and answers: the request that is open, and the wait. Fades and Moves: how they begin and go on.
use Rattle.std.specs.Prelude.{ℕ, ◌+◌, ◌-◌, ◌*◌, ◌/◌, Bool, true, false, cond, if◌then◌else◌, ◌||◌, List, [], ◌∷◌, ◌++◌, ltb, eqb, Option, Some, None}
use Rattle.units.specs.Numbers.{apart}
use Rattle.units.specs.Units.{tenths_to_millis, millis_to_micros, at_most}
use Rattle.units.specs.declared.Millis.{Millis}
use Rattle.units.specs.declared.Micros.{Micros}
use Rattle.transitions.specs.Types.{is_level, level_values}
use Rattle.transitions.specs.Fade.{fade_period, is_transition_start, remaining_after, next_level, wait_or_ask}
use Rattle.transitions.specs.Types.{Level}
use Rattle.transitions.specs.declared.types.Mode.{Mode}
use Rattle.transitions.specs.declared.types.Mode.TheVariants.{Up, Down}
use Rattle.transitions.specs.declared.tasks.Begin.{Begin}
use Rattle.transitions.specs.declared.tasks.Begin.TheVariants as begin
use Rattle.transitions.specs.declared.tasks.Fade.{Fade}
use Rattle.transitions.specs.declared.tasks.FadeRequest.{FadeRequest}
use Rattle.transitions.specs.declared.tasks.Move.{Move}
use Rattle.transitions.specs.declared.tasks.Motion.{Motion}
use Rattle.transitions.specs.declared.tasks.MoveStep.{MoveStep}
use Rattle.transitions.specs.declared.tasks.MoveStep.TheVariants as step
use Rattle.transitions.specs.declared.tasks.Phase.{Phase}
use Rattle.transitions.specs.declared.tasks.Phase.TheVariants.{Asked, Waiting}
use Rattle.transitions.specs.declared.tasks.Task.{Task}
use Rattle.transitions.specs.declared.tasks.Request.{Request}
use Rattle.transitions.specs.declared.tasks.Request.TheVariants as request
use Rattle.transitions.specs.declared.tasks.Wait.{Wait}
use Rattle.transitions.specs.declared.tasks.Wait.TheVariants as wait
use Rattle.transitions.specs.declared.tasks.Task.TheVariants as task

-- a request to the device is open

abbrev pub phase_open : Phase → Bool
phase_open (Asked since) = true
phase_open (Waiting until) = false

abbrev pub task_open : Task → Bool
task_open task.Rest = false
task_open task.StartUp = true
task_open (task.Fade f) = phase_open f.phase
task_open (task.Move m) = phase_open m.phase
task_open (task.OnReaction o) = true

abbrev pub open_in : Phase → (Micros → Request) → Option Request
open_in (Asked since) request = Some (request since)
open_in (Waiting until) request = None

-- that request: of a fade and a move with the time since when it is open
abbrev pub open_request : Task → Option Request
open_request task.Rest = None
open_request task.StartUp = Some request.StartUp
open_request (task.Fade f) = open_in f.phase (request.Fade f)
open_request (task.Move m) = open_in m.phase (request.Move m)
open_request (task.OnReaction o) = Some (request.OnReaction o)

-- 7: no request is open
abbrev pub request_number : Option Request → ℕ
request_number (Some r) = 0
request_number None = 7

abbrev pub flag_number : Bool → ℕ
flag_number b = cond b 1 0

abbrev pub mode_number : Mode → ℕ
mode_number Up = 0
mode_number Down = 1

-- since when a request is open, or until when the task waits
abbrev pub phase_values : Phase → List ℕ
phase_values (Asked since) = 0 ∷ since.0 ∷ []
phase_values (Waiting until) = 1 ∷ until.0 ∷ []

-- what a fade keeps: its phase, the target, the level that was asked for last, T, the unrounded remaining time, the period, whether it is with on/off, whether it
-- is a scene's, the level that it puts back, if any
abbrev pub fade_values : Fade → List ℕ
fade_values f =
    phase_values f.phase
    ++ f.target ∷ f.counter ∷ f.transition_time.0 ∷ f.remaining.0 ∷ f.period.0 ∷ flag_number f.with_on_off ∷ flag_number f.scene_apply ∷ level_values f.put_back

-- a move's motion: whether it is with on/off, the mode, 0 up and 1 down, the period
abbrev pub motion_values : Motion → List ℕ
motion_values m = flag_number m.with_on_off ∷ mode_number m.mode ∷ m.period.0 ∷ []

-- what a move keeps: its phase, the level that was asked for last, its motion
abbrev pub move_values : Move → List ℕ
move_values m = phase_values m.phase ++ m.asked ∷ motion_values m.motion

-- whose request it is: 0 start-up's, 1 a fade's, 2 a move's, 3 the reaction to on's; of a fade and a move since when it is open, and what the task keeps; of the
-- reaction to on the level before, if it is known
abbrev pub request_values : Option Request → List ℕ
request_values (Some request.StartUp) = 0 ∷ []
request_values (Some (request.Fade f since)) = 1 ∷ since.0 ∷ fade_values f
request_values (Some (request.Move m since)) = 2 ∷ since.0 ∷ move_values m
request_values (Some (request.OnReaction o)) = 3 ∷ level_values o.before
request_values None = []

-- the same, read from the task itself

abbrev pub asked_in : Phase → ℕ → List ℕ → List ℕ
asked_in (Asked since) whose values = whose ∷ since.0 ∷ values
asked_in (Waiting until) whose values = []

abbrev pub asked_values : Task → List ℕ
asked_values task.Rest = []
asked_values task.StartUp = 0 ∷ []
asked_values (task.Fade f) = asked_in f.phase 1 (fade_values f)
asked_values (task.Move m) = asked_in m.phase 2 (move_values m)
asked_values (task.OnReaction o) = 3 ∷ level_values o.before

-- a wait is over: a wake at its time or later is accepted

abbrev pub phase_due : Phase → Micros → Bool
phase_due (Asked since) now = false
phase_due (Waiting until) now = at_most until now

abbrev pub task_due : Task → Micros → Bool
task_due task.Rest now = false
task_due task.StartUp now = false
task_due (task.Fade f) now = phase_due f.phase now
task_due (task.Move m) now = phase_due m.phase now
task_due (task.OnReaction o) now = false

abbrev pub due_in : Phase → Micros → Wait → Option Wait
due_in (Asked since) now wait = None
due_in (Waiting until) now wait = cond (at_most until now) (Some wait) None

-- that wait
abbrev pub due_wait : Task → Micros → Option Wait
due_wait task.Rest now = None
due_wait task.StartUp now = None
due_wait (task.Fade f) now = due_in f.phase now (wait.Fade f)
due_wait (task.Move m) now = due_in m.phase now (wait.Move m.motion)
due_wait (task.OnReaction o) now = None

-- 8: nothing waits, or not so long
abbrev pub wait_number : Option Wait → ℕ
wait_number (Some w) = 0
wait_number None = 8

-- whose wait it is, by the numbers above; of a fade all that it keeps, of a move its motion
abbrev pub wait_values : Option Wait → List ℕ
wait_values (Some (wait.Fade f)) = 1 ∷ fade_values f
wait_values (Some (wait.Move motion)) = 2 ∷ motion_values motion
wait_values None = []

-- the same of a task whose wait is over, read from the task itself
abbrev pub waiting_values : Task → List ℕ
waiting_values task.Rest = []
waiting_values task.StartUp = []
waiting_values (task.Fade f) = 1 ∷ fade_values f
waiting_values (task.Move m) = 2 ∷ motion_values m.motion
waiting_values (task.OnReaction o) = []

-- Fades.

-- the request that is open is the last
abbrev pub fade_last : Fade → Bool
fade_last f = eqb f.counter f.target

abbrev pub fade_start : Fade → Bool
fade_start f = is_transition_start f.remaining f.transition_time

-- the unrounded remaining time after the answer to it
abbrev pub fade_left : Fade → Millis
fade_left f = remaining_after f.remaining f.period (fade_last f)

abbrev pub fade_next : Fade → Micros → Micros → Option Micros
fade_next f asked answered = wait_or_ask asked answered (millis_to_micros f.period)

-- the next request is open: the counter has moved
unfoldable pub fade_asking : Fade → Millis → Micros → Fade
fade_asking f remaining now = record f { counter = next_level f.counter f.target f.transition_time; remaining = remaining; phase = Asked now }

unfoldable pub fade_waiting : Fade → Millis → Micros → Fade
fade_waiting f remaining until = record f { remaining = remaining; phase = Waiting until }

-- the level that the end of an off fade may put back
abbrev pub kept_to_put_back : Bool → ℕ → Option ℕ
kept_to_put_back puts_back level = cond puts_back (Some level) None

-- Reactions: it is put back if the on level is missing when the fade has ended
unfoldable pub level_to_put_back : Option ℕ → Level → Level
level_to_put_back None on_level = None
level_to_put_back (Some before) (Some level) = None
level_to_put_back (Some before) None = Some before

-- from a level c: n = |t − c|, 100·T milliseconds remain, and the first request is open
unfoldable pub fade_from : ℕ → FadeRequest → Micros → Fade
fade_from level r now = record {
  with_on_off = r.with_on_off;
  scene_apply = r.scene_apply;
  target = r.target;
  counter = next_level level r.target r.transition_time;
  transition_time = r.transition_time;
  remaining = tenths_to_millis r.transition_time;
  period = fade_period r.transition_time (apart r.target level);
  put_back = kept_to_put_back r.puts_back level;
  phase = Asked now;
}

-- Targets: one equal to the current level is reached; from a missing level there is nothing to fade from
unfoldable pub begin_fade : Level → FadeRequest → Micros → Begin
begin_fade (Some from) r now = cond (eqb from r.target) begin.Reached (begin.Starts (fade_from from r now))
begin_fade None r now = begin.Lost

-- E11: from a missing level
abbrev pub begin_number : Begin → ℕ
begin_number begin.Reached = 0
begin_number begin.Lost = 11
begin_number (begin.Starts f) = 0

-- the levels of the D actions that a beginning stands for
abbrev pub begin_requests : Begin → List ℕ
begin_requests begin.Reached = []
begin_requests begin.Lost = []
begin_requests (begin.Starts f) = f.counter ∷ []

-- of a fade that starts all that it keeps
abbrev pub begin_values : Begin → List ℕ
begin_values begin.Reached = []
begin_values begin.Lost = []
begin_values (begin.Starts f) = fade_values f

-- the same, from the level c and what is asked: the request is open since now, for t if T = 0, else for the next level on the way; 100·T milliseconds remain, the
-- period is 100·T ÷ |t − c| rounded down, and c is put back if it is to be
abbrev first_asked : ℕ → ℕ → ℕ → ℕ
first_asked level target time = if eqb time 0 then target else if ltb level target then level + 1 else level - 1

abbrev pub begun_values : ℕ → FadeRequest → Micros → List ℕ
begun_values level r now =
    let time = r.transition_time.0 in
    0 ∷ now.0 ∷ r.target ∷ first_asked level r.target time ∷ time ∷ time * 100 ∷ time * 100 / apart r.target level
    ∷ flag_number r.with_on_off ∷ flag_number r.scene_apply ∷ (if r.puts_back then level ∷ [] else [])

-- Moves.

abbrev pub move_asking : Motion → ℕ → Micros → Move
move_asking motion asked now = record { motion = motion; asked = asked; phase = Asked now }

abbrev pub move_waiting : Move → Micros → Move
move_waiting m until = record { motion = m.motion; asked = m.asked; phase = Waiting until }

-- from the stored level by one; it ends where it would pass 0 or 255
unfoldable pub next_move : Level → Mode → MoveStep
next_move (Some from) Up = cond (ltb from 255) (step.Asks (from + 1)) step.Ends
next_move (Some from) Down = cond (ltb 0 from) (step.Asks (from - 1)) step.Ends
next_move None mode = step.Lost

-- E11, as above
abbrev pub move_step_number : MoveStep → ℕ
move_step_number step.Lost = 11
move_step_number step.Ends = 0
move_step_number (step.Asks level) = 0

-- the levels of the D actions that a step of a move stands for
abbrev pub move_step_requests : MoveStep → List ℕ
move_step_requests step.Lost = []
move_step_requests step.Ends = []
move_step_requests (step.Asks level) = level ∷ []

-- the level that lies one up or down of another, within 0 to 255
abbrev pub one_on : Mode → ℕ → List ℕ
one_on Up level = cond (eqb level 255) [] ((level + 1) ∷ [])
one_on Down level = cond (eqb level 0) [] ((level - 1) ∷ [])

-- the answer to a request for MIN or for MAX is the end, in either direction
abbrev pub is_move_end : ℕ → ℕ → ℕ → Bool
is_move_end asked lo hi = eqb asked hi || eqb asked lo

-- at MIN going down or at MAX going up nothing happens
unfoldable pub at_limit : Level → Mode → ℕ → ℕ → Bool
at_limit level Up lo hi = is_level level hi
at_limit level Down lo hi = is_level level lo
