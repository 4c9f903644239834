-- What every event gives: a refused one its number and the state it was given, an accepted one the number 0. Assumes nothing.
use Rattle.std.specs.Prelude.{Option, Some, None, Result, Ok, Err, ℕ}
use Prim.Native.Nat.{ℕ}
use mathlib.Core.Bool.{Bool, true, false, cond}
use mathlib.Core.Path.{◌≡◌, refl, sym, ap, ◌∙◌}
use mathlib.Core.List.{[]}
use native.Mathlib.Omega.{arith}
use borrow.Author.Tests.{eqb-true, eqb-false, eq-eqb, ne_eqb}
use lib.Dec.{eqb}
use Rattle.units.specs.declared.Micros.{Micros}
use Rattle.transitions.specs.Causes.{event_tests, first_cause}
use Rattle.transitions.specs.Fade.{wait_or_ask}
use Rattle.transitions.specs.Tasks.{begin_fade, fade_last, fade_next, level_to_put_back, next_move, at_limit}
use Rattle.transitions.specs.Types.{level_or}
use Rattle.transitions.specs.declared.causes.CommandTests.{CommandTests}
use Rattle.transitions.specs.declared.causes.TurnTests.{TurnTests}
use Rattle.transitions.specs.declared.events.DeviceAnswer.{DeviceAnswer}
use Rattle.transitions.specs.declared.events.DeviceAnswer.TheVariants as device
use Rattle.transitions.specs.declared.events.Event.{Event}
use Rattle.transitions.specs.declared.events.EventKind.{EventKind}
use Rattle.transitions.specs.declared.events.EventKind.TheVariants as kind
use Rattle.transitions.specs.declared.events.StepRequest.{StepRequest}
use Rattle.transitions.specs.declared.tasks.Begin.{Begin}
use Rattle.transitions.specs.declared.tasks.Begin.TheVariants as begin
use Rattle.transitions.specs.declared.tasks.Fade.{Fade}
use Rattle.transitions.specs.declared.tasks.FadeRequest.{FadeRequest}
use Rattle.transitions.specs.declared.tasks.Move.{Move}
use Rattle.transitions.specs.declared.tasks.Motion.{Motion}
use Rattle.transitions.specs.declared.tasks.MoveStep.{MoveStep}
use Rattle.transitions.specs.declared.tasks.MoveStep.TheVariants as step
use Rattle.transitions.specs.declared.tasks.OnReaction.{OnReaction}
use Rattle.transitions.specs.declared.tasks.Phase.{Phase}
use Rattle.transitions.specs.declared.tasks.Phase.TheVariants.{Asked, Waiting}
use Rattle.transitions.specs.declared.tasks.Task.{Task}
use Rattle.transitions.specs.declared.tasks.Task.TheVariants as task
use Rattle.transitions.specs.Types.{Level}
use Rattle.level_control.specs.State.{accept}
use Rattle.level_control.specs.Answer.{Outcome, done, refused}
use Rattle.level_control.specs.Reports.{told_level}
use Rattle.level_control.specs.Targets.{go_to_by, go_to, moved_to_level, stepped_by, stepped_from, stepped, stepped_time, recalled_at, recalled, stopped}
use Rattle.level_control.specs.Fades.{ended_put_back, fade_ended_by, fade_ended, fade_then, fade_goes_on, fade_told, move_to_level_transition, fade_missing, device_failed, fade_answered, fade_woken}
use Rattle.level_control.specs.Moves.{move_by, move_goes_on, move_at, begin_move, move_next, move_then, move_ends, move_transition, move_missing, move_answered, rate_by}
use Rattle.level_control.specs.Reactions.{turned_on, on_to, on_goes_on, on_answered, turned_off, switched}
use Rattle.level_control.specs.StartUp.{start_up_level, start_up_at, started_up, stored_start_up, start_up_answered}
use Rattle.level_control.specs.Updates.{updated}
use Rattle.level_control.specs.Setters.{on_level_set, default_move_rate_set, start_up_current_level_set, reset_all}
use Rattle.level_control.specs.Judge.{command_tests_of}
use Rattle.level_control.specs.Handle.{fade_answered_in, move_answered_in, answered_in, answered, woken_in, woken, run, number_of, event_of}
use Rattle.level_control.specs.Reports.{Told}
use Rattle.level_control.specs.declared.state.LevelControlState.{LevelControlState}
use Rattle.units.specs.declared.Tenths.{Tenths}
use Rattle.transitions.specs.declared.causes.Refusal.{Refusal}
use Rattle.transitions.specs.declared.events.Command.TheVariants as command

-- Whatever runs is accepted: its number is 0.

abbrev Zero : Outcome → Type 0
Zero o = o.number ≡ 0

cond_zero : (b : Bool) (x y : Outcome) → Zero x → Zero y → Zero (cond b x y)
cond_zero true x y p q = p
cond_zero false x y p q = q

go_to_zero : (t : Told) (r : FadeRequest) (at : Micros) (on : Bool) → Zero (go_to t r at on)
unfolding go_to
go_to_zero t r at on = by (begin_fade t.state.current_level r at)
  where
    by : (b : Begin) → Zero (go_to_by b t r on)
    by begin.Reached = refl
    by begin.Lost = refl
    by (begin.Starts f) = refl

stepped_zero : (s : LevelControlState) (r : StepRequest) (at : Micros) (on : Bool) → Zero (stepped s r at on)
unfolding stepped
stepped_zero s r at on = by s.current_level
  where
    takes : (level : ℕ) (t : Result Tenths Refusal) → Zero (stepped_by t s level r at on)
    takes level (Ok time) = go_to_zero _ _ at on
    takes level (Err cause) = refl

    by : (l : Level) → Zero (stepped_from l s r at on)
    by (Some level) = takes level (stepped_time s level r)
    by None = refl

ended_zero : (t : Told) (put_back : Option ℕ) → Zero (fade_ended t put_back)
unfolding fade_ended ended_put_back
ended_zero t put_back = by (level_to_put_back put_back t.state.attributes.on_level)
  where
    by : (l : Level) → Zero (fade_ended_by l t)
    by (Some before) = refl
    by None = refl

goes_on_zero : (t : Told) (f : Fade) (since at : Micros) → Zero (fade_goes_on t f since at)
unfolding fade_goes_on
goes_on_zero t f since at = by (fade_next f since at)
  where
    by : (n : Option Micros) → Zero (fade_then n t f at)
    by (Some until) = refl
    by None = refl

fade_answered_zero : (s : LevelControlState) (f : Fade) (since at : Micros) (on : Bool) (a : DeviceAnswer) → Zero (fade_answered s f since at on a)
unfolding fade_answered move_to_level_transition fade_missing device_failed
fade_answered_zero s f since at on (device.Level level) =
    cond_zero (fade_last f) _ _ (ended_zero (fade_told s f at on level) f.put_back) (goes_on_zero (fade_told s f at on level) f since at)
fade_answered_zero s f since at on device.Missing = refl
fade_answered_zero s f since at on device.Failed = refl

move_zero : (t : Told) (m : Motion) (at : Micros) (on : Bool) → Zero (move_goes_on t m at on)
unfolding move_goes_on
move_zero t m at on = by (next_move t.state.current_level m.mode)
  where
    by : (x : MoveStep) → Zero (move_by x t m at on)
    by step.Lost = refl
    by step.Ends = refl
    by (step.Asks asked) = refl

move_then_zero : (t : Told) (m : Move) (since at : Micros) (on : Bool) → Zero (move_then t m since at on)
unfolding move_then
move_then_zero t m since at on = by (wait_or_ask since at m.motion.period)
  where
    by : (n : Option Micros) → Zero (move_next n t m at on)
    by (Some until) = refl
    by None = move_zero t m.motion at on

move_answered_zero : (s : LevelControlState) (m : Move) (since at : Micros) (on : Bool) (a : DeviceAnswer) → Zero (move_answered s m since at on a)
unfolding move_answered move_transition move_missing device_failed
move_answered_zero s m since at on (device.Level level) =
    cond_zero (move_ends s m.asked) _ _ refl (move_then_zero (told_level s (Some level) at (move_ends s m.asked)) m since at on)
move_answered_zero s m since at on device.Missing = refl
move_answered_zero s m since at on device.Failed = refl

on_answered_zero : (s : LevelControlState) (r : OnReaction) (at : Micros) (on : Bool) (a : DeviceAnswer) → Zero (on_answered s r at on a)
unfolding on_answered on_goes_on move_missing device_failed
on_answered_zero s r at on (device.Level level) =
    by (level_or (told_level s (Some level) at false).state.attributes.on_level r.before)
  where
    by : (l : Level) → Zero (on_to l (told_level s (Some level) at false) at on)
    by (Some target) = go_to_zero _ _ at on
    by None = refl
on_answered_zero s r at on device.Missing = refl
on_answered_zero s r at on device.Failed = refl

start_up_answered_zero : (s : LevelControlState) (a : DeviceAnswer) → Zero (start_up_answered s a)
unfolding start_up_answered stored_start_up
start_up_answered_zero s (device.Level level) = refl
start_up_answered_zero s device.Missing = refl
start_up_answered_zero s device.Failed = refl

answered_zero : (s : LevelControlState) (a : DeviceAnswer) (at : Micros) (on : Bool) → Zero (answered s a at on)
unfolding answered
answered_zero s a at on = by s.task
  where
    fade : (p : Phase) (f : Fade) → Zero (fade_answered_in p s f a at on)
    fade (Asked since) f = fade_answered_zero s f since at on a
    fade (Waiting until) f = refl

    move : (p : Phase) (m : Move) → Zero (move_answered_in p s m a at on)
    move (Asked since) m = move_answered_zero s m since at on a
    move (Waiting until) m = refl

    by : (x : Task) → Zero (answered_in x s a at on)
    by task.Rest = refl
    by task.StartUp = start_up_answered_zero s a
    by (task.Fade f) = fade f.phase f
    by (task.Move m) = move m.phase m
    by (task.OnReaction r) = on_answered_zero s r at on a

woken_zero : (s : LevelControlState) (at : Micros) (on : Bool) → Zero (woken s at on)
unfolding woken fade_woken
woken_zero s at on = by s.task
  where
    by : (x : Task) → Zero (woken_in x s at on)
    by task.Rest = refl
    by task.StartUp = refl
    by (task.Fade f) = refl
    by (task.Move m) = move_zero _ m.motion at on
    by (task.OnReaction r) = refl

pub run_zero : (s : LevelControlState) (k : EventKind) (at : Micros) (on : Bool) → (run s k at on).number ≡ 0
unfolding run started_up moved_to_level begin_move stopped switched turned_on turned_off recalled updated on_level_set default_move_rate_set start_up_current_level_set reset_all
run_zero s kind.StartUp at on = by (start_up_level s)
  where
    by : (l : Level) → Zero (start_up_at l s)
    by (Some level) = refl
    by None = refl
run_zero s (kind.Command (command.MoveToLevel r)) at on = go_to_zero _ _ at on
run_zero s (kind.Command (command.Move r)) at on =
    cond_zero (at_limit s.current_level r.mode s.settings.range.min s.settings.range.max) _ _ refl (by (rate_by s r))
  where
    by : (x : Result ℕ Refusal) → Zero (move_at x s r at on)
    by (Ok rate) = move_zero _ _ at on
    by (Err cause) = refl
run_zero s (kind.Command (command.Step r)) at on = stepped_zero s r at on
run_zero s (kind.Command (command.Stop r)) at on = refl
run_zero s (kind.Answer a) at on = answered_zero s a at on
run_zero s kind.Wake at on = woken_zero s at on
run_zero s (kind.Command (command.OnOffChanged value)) at on = cond_zero value _ _ refl (go_to_zero _ _ at on)
run_zero s (kind.Command (command.Scene r)) at on = by r.level
  where
    by : (l : Level) → Zero (recalled_at l s r at on)
    by (Some level) = go_to_zero _ _ at on
    by None = refl
run_zero s (kind.Command (command.DeviceUpdate level)) at on = refl
run_zero s (kind.Command command.DeviceStop) at on = refl
run_zero s (kind.Command (command.SetOnLevel level)) at on = refl
run_zero s (kind.Command (command.SetDefaultMoveRate rate)) at on = refl
run_zero s (kind.Command (command.SetStartUpCurrentLevel level)) at on = refl
run_zero s (kind.Command command.FactoryReset) at on = refl

-- The three ways of an event.

abbrev pub options_stop_in : LevelControlState → Event → Bool
options_stop_in s e = (command_tests_of s e.moment.on_off e.kind).stopped_by_options

pub event_refused : (s : LevelControlState) (e : Event) → (number_of s e ≡ 0 → ⊥) → event_of s e ≡ refused s (number_of s e)
unfolding event_of
event_refused s e h = simp (ne_eqb (number_of s e) 0 h)

pub event_options_stop : (s : LevelControlState) (e : Event) → number_of s e ≡ 0 → options_stop_in s e ≡ true → event_of s e ≡ done (accept s e.moment.at) []
unfolding event_of
event_options_stop s e h q = simp (eq-eqb (number_of s e) 0 h, q)

pub event_runs : (s : LevelControlState) (e : Event) → number_of s e ≡ 0 → options_stop_in s e ≡ false
    → event_of s e ≡ run (accept s e.moment.at) e.kind e.moment.at e.moment.on_off
unfolding event_of
event_runs s e h q = simp (eq-eqb (number_of s e) 0 h, q)

-- the number of the outcome is that of the first cause
pub event_number : (s : LevelControlState) (e : Event) → (event_of s e).number ≡ number_of s e
event_number s e = go (eqb (number_of s e) 0) refl (options_stop_in s e) refl
  where
    go : (b : Bool) → eqb (number_of s e) 0 ≡ b → (c : Bool) → options_stop_in s e ≡ c → (event_of s e).number ≡ number_of s e
    go true p true q = let z = eqb-true (number_of s e) 0 p in ap (λ (o : Outcome). o.number) (event_options_stop s e z q) ∙ sym z
    go true p false q =
        let z = eqb-true (number_of s e) 0 p in
        ap (λ (o : Outcome). o.number) (event_runs s e z q) ∙ run_zero (accept s e.moment.at) e.kind e.moment.at e.moment.on_off ∙ sym z
    go false p c q = ap (λ (o : Outcome). o.number) (event_refused s e (eqb-false (number_of s e) 0 p))

-- where the number is 0, none of the tests of the event's turn holds
pub record TurnPasses (t : TurnTests) : Type 0 where
  pub is_in_time : t.time_refused ≡ false
  pub not_open : t.answer_open ≡ false
  pub opened : t.no_answer_open ≡ false
  pub due : t.wake_refused ≡ false
  pub first : t.start_up_late ≡ false

passes : (a b c d f : Bool) (x : ℕ) → cond a 5 (cond b 6 (cond c 7 (cond d 8 (cond f 9 x)))) ≡ 0
    → (a ≡ false) × (b ≡ false) × (c ≡ false) × (d ≡ false) × (f ≡ false)
passes true b c d f x h = absurd (omega arith)
passes false true c d f x h = absurd (omega arith)
passes false false true d f x h = absurd (omega arith)
passes false false false true f x h = absurd (omega arith)
passes false false false false true x h = absurd (omega arith)
passes false false false false false x h = (refl, refl, refl, refl, refl)

pub turn_passes : (t : TurnTests) (c : CommandTests) → first_cause (event_tests t c) ≡ 0 → TurnPasses t
unfolding first_cause
turn_passes t c h =
    let w = passes t.time_refused t.answer_open t.no_answer_open t.wake_refused t.start_up_late _ h in
    record { is_in_time = w.0; not_open = w.1; opened = w.2; due = w.3; first = w.4 }

-- and where no options stop it, none of the tests of its values
pub record CommandPasses (c : CommandTests) : Type 0 where
  pub valid : c.invalid_command ≡ false
  pub in_state : c.invalid_in_state ≡ false
  pub fits : c.product_too_large ≡ false
  pub inside : c.level_outside ≡ false
  pub moves : c.rate_0 ≡ false

rest_passes : (i s p l r : Bool) → ◌≡◌ {A = ℕ} (cond i 10 (cond false 0 (cond s 11 (cond p 12 (cond l 13 (cond r 14 0)))))) 0
    → (i ≡ false) × (s ≡ false) × (p ≡ false) × (l ≡ false) × (r ≡ false)
rest_passes true s p l r h = absurd (omega arith)
rest_passes false true p l r h = absurd (omega arith)
rest_passes false false true l r h = absurd (omega arith)
rest_passes false false false true r h = absurd (omega arith)
rest_passes false false false false true h = absurd (omega arith)
rest_passes false false false false false h = (refl, refl, refl, refl, refl)

pub command_passes : (t : TurnTests) (c : CommandTests) → first_cause (event_tests t c) ≡ 0 → c.stopped_by_options ≡ false → CommandPasses c
unfolding first_cause
command_passes t c h q =
    let w = turn_passes t c h in
    let u = rest_passes c.invalid_command c.invalid_in_state c.product_too_large c.level_outside c.rate_0
    (rw (w.is_in_time, w.not_open, w.opened, w.due, w.first, q) at h) in
    record { valid = u.0; in_state = u.1; fits = u.2; inside = u.3; moves = u.4 }
