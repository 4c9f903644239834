-- What an event leaves of the task: no fade, the fade that ran before gone on, or the task as it was. Assumes nothing.
use Rattle.std.specs.Prelude.{Option, Some, None, Result, Ok, Err, ℕ}
use mathlib.Core.Bool.{Bool, true, false, cond}
use mathlib.Core.Path.{◌≡◌, refl, ap}
use Rattle.units.specs.declared.Micros.{Micros}
use Rattle.units.specs.declared.Millis.{Millis}
use Rattle.transitions.specs.Fade.{wait_or_ask}
use Rattle.transitions.specs.Tasks.{fade_last, fade_next, fade_asking, fade_waiting, level_to_put_back, next_move, at_limit}
use Rattle.transitions.specs.declared.events.DeviceAnswer.{DeviceAnswer}
use Rattle.transitions.specs.declared.events.DeviceAnswer.TheVariants as device
use Rattle.transitions.specs.declared.events.MoveRequest.{MoveRequest}
use Rattle.transitions.specs.declared.tasks.Fade.{Fade}
use Rattle.transitions.specs.declared.tasks.Move.{Move}
use Rattle.transitions.specs.declared.tasks.Motion.{Motion}
use Rattle.transitions.specs.declared.tasks.MoveStep.{MoveStep}
use Rattle.transitions.specs.declared.tasks.MoveStep.TheVariants as step
use Rattle.transitions.specs.declared.tasks.OnReaction.{OnReaction}
use Rattle.transitions.specs.declared.tasks.Task.{Task}
use Rattle.transitions.specs.declared.tasks.Task.TheVariants as task
use Rattle.transitions.specs.Types.{Level}
use Rattle.level_control.specs.Answer.{Outcome}
use Rattle.level_control.specs.Reports.{told_level}
use Rattle.level_control.specs.Fades.{ended_put_back, fade_ended_by, fade_ended, fade_then, fade_goes_on, fade_told, move_to_level_transition, fade_missing, device_failed, fade_answered, fade_woken}
use Rattle.level_control.specs.Moves.{move_by, move_goes_on, move_at, begin_move, move_next, move_then, move_ends, move_transition, move_missing, move_answered, rate_by}
use Rattle.level_control.specs.StartUp.{stored_start_up, start_up_answered}
use Rattle.level_control.specs.Run.{with_level as has_level}
use Rattle.level_theorems.specs.Covered.{SameFade}
use Rattle.level_control.specs.Reports.{Told}
use Rattle.level_control.specs.declared.state.LevelControlState.{LevelControlState}
use Rattle.transitions.specs.declared.causes.Refusal.{Refusal}

-- no fade, and no on reaction
abbrev pub is_plain : Task → Bool
is_plain task.Rest = true
is_plain task.StartUp = true
is_plain (task.Fade f) = false
is_plain (task.Move m) = true
is_plain (task.OnReaction r) = false

-- from a task to a task, by an event that leads onward or not; R is what holds of an on reaction that begins
pub data Becomes (R : OnReaction → Type 0) (x : Task) (onward : Bool) (y : Task) : Type 0 where
  gone : is_plain y ≡ true → Becomes R x onward y
  reacts : (r : OnReaction) → y ≡ task.OnReaction r → R r → Becomes R x onward y
  further : (f g : Fade) → x ≡ task.Fade f → y ≡ task.Fade g → SameFade f g → onward ≡ true → Becomes R x onward y
  stays : y ≡ x → Becomes R x onward y

module _ (R : OnReaction → Type 0) (x : Task) (onward : Bool) where
  abbrev To : Outcome → Type 0
  To o = Becomes R x onward o.state.task

  pub plain : (y : Task) → is_plain y ≡ true → Becomes R x onward y
  plain y e = gone e

  pub rests : (y : Task) → y ≡ task.Rest → Becomes R x onward y
  rests y e = gone (ap is_plain e)

  pub cond_goes : (b : Bool) (o p : Outcome) → To o → To p → To (cond b o p)
  cond_goes true o p g h = g
  cond_goes false o p g h = h

  ended_goes : (t : Told) (put_back : Option ℕ) → To (fade_ended t put_back)
  unfolding fade_ended ended_put_back
  ended_goes t put_back = by (level_to_put_back put_back t.state.attributes.on_level)
    where
      by : (l : Level) → To (fade_ended_by l t)
      by (Some before) = plain task.Rest refl
      by None = plain task.Rest refl

  pub move_goes : (t : Told) (m : Motion) (at : Micros) (on : Bool) → To (move_goes_on t m at on)
  unfolding move_goes_on
  move_goes t m at on = by (next_move t.state.current_level m.mode)
    where
      by : (n : MoveStep) → To (move_by n t m at on)
      by step.Lost = plain task.Rest refl
      by step.Ends = plain task.Rest refl
      by (step.Asks asked) = plain _ refl

  move_then_goes : (t : Told) (m : Move) (since at : Micros) (on : Bool) → To (move_then t m since at on)
  unfolding move_then
  move_then_goes t m since at on = by (wait_or_ask since at m.motion.period)
    where
      by : (n : Option Micros) → To (move_next n t m at on)
      by (Some until) = plain _ refl
      by None = move_goes t m.motion at on

  pub move_answered_goes : (s : LevelControlState) (m : Move) (since at : Micros) (on : Bool) (a : DeviceAnswer) → To (move_answered s m since at on a)
  unfolding move_answered move_transition move_missing device_failed
  move_answered_goes s m since at on (device.Level level) =
      cond_goes (move_ends s m.asked) _ _ (plain task.Rest refl) (move_then_goes (told_level s (Some level) at (move_ends s m.asked)) m since at on)
  move_answered_goes s m since at on device.Missing = plain task.Rest refl
  move_answered_goes s m since at on device.Failed = plain task.Rest refl

  pub start_up_answered_goes : (s : LevelControlState) (a : DeviceAnswer) → To (start_up_answered s a)
  unfolding start_up_answered stored_start_up
  start_up_answered_goes s (device.Level level) = plain task.Rest refl
  start_up_answered_goes s device.Missing = plain task.Rest refl
  start_up_answered_goes s device.Failed = plain task.Rest refl

-- the move command
pub begin_move_goes : (R : OnReaction → Type 0) (onward : Bool) (s : LevelControlState) (r : MoveRequest) (at : Micros) (on : Bool) → Becomes R s.task onward (begin_move s r at on).state.task
unfolding begin_move
begin_move_goes R onward s r at on =
    cond_goes R s.task onward (at_limit s.current_level r.mode s.settings.range.min s.settings.range.max) _ _ (stays refl) (by (rate_by s r))
  where
    by : (n : Result ℕ Refusal) → Becomes R s.task onward (move_at n s r at on).state.task
    by (Ok rate) = move_goes R s.task onward _ _ at on
    by (Err cause) = stays refl

-- a fade's answer and its wake

asking : (f : Fade) (x : Millis) (at : Micros) → SameFade f (fade_asking f x at)
unfolding fade_asking
asking f x at = record { with_on_off = refl; scene = refl; target = refl; time = refl; period = refl; put_back = refl }

waiting : (f : Fade) (x : Millis) (until : Micros) → SameFade f (fade_waiting f x until)
unfolding fade_waiting
waiting f x until = record { with_on_off = refl; scene = refl; target = refl; time = refl; period = refl; put_back = refl }

goes_on_goes : (R : OnReaction → Type 0) (t : Told) (f : Fade) (since at : Micros) → Becomes R (task.Fade f) true (fade_goes_on t f since at).state.task
unfolding fade_goes_on
goes_on_goes R t f since at = by (fade_next f since at)
  where
    by : (n : Option Micros) → Becomes R (task.Fade f) true (fade_then n t f at).state.task
    by (Some until) = further f _ refl refl (waiting f _ until) refl
    by None = further f _ refl refl (asking f _ at) refl

pub fade_answered_goes : (R : OnReaction → Type 0) (s : LevelControlState) (f : Fade) (since at : Micros) (on : Bool) (a : DeviceAnswer)
    → Becomes R (task.Fade f) (has_level a) (fade_answered s f since at on a).state.task
unfolding fade_answered move_to_level_transition fade_missing device_failed
fade_answered_goes R s f since at on (device.Level level) =
    cond_goes R (task.Fade f) true (fade_last f) _ _ (ended_goes R (task.Fade f) true (fade_told s f at on level) f.put_back)
    (goes_on_goes R (fade_told s f at on level) f since at)
fade_answered_goes R s f since at on device.Missing = plain R (task.Fade f) false task.Rest refl
fade_answered_goes R s f since at on device.Failed = plain R (task.Fade f) false task.Rest refl

pub fade_woken_goes : (R : OnReaction → Type 0) (s : LevelControlState) (f : Fade) (at : Micros) → Becomes R (task.Fade f) true (fade_woken s f at).state.task
unfolding fade_woken
fade_woken_goes R s f at = further f _ refl refl (asking f _ at) refl
