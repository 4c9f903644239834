-- Every event: how an accepted one that no options stop leaves the task, and the letter that goes with it: D, W or E. The machine uses nothing of this page.
use Rattle.std.specs.Prelude.{ℕ, ◌+◌, ◌-◌, ◌*◌, ◌/◌, min, max, Bool, true, false, cond, List, [], eqb, leb, ltb, Some, None}
use Rattle.units.specs.Units.{tenths, millis, micros}
use Rattle.units.specs.declared.Micros.{Micros}
use Rattle.transitions.specs.Actions.{act}
use Rattle.transitions.specs.Fade.{next_level}
use Rattle.transitions.specs.Matter.{move_rate}
use Rattle.transitions.specs.declared.actions.Action.{Action}
use Rattle.transitions.specs.declared.actions.ActionKind.TheVariants.{D, W, E}
use Rattle.transitions.specs.declared.events.DeviceAnswer.{DeviceAnswer}
use Rattle.transitions.specs.declared.events.DeviceAnswer.TheVariants as device
use Rattle.transitions.specs.declared.events.MoveRequest.{MoveRequest}
use Rattle.transitions.specs.declared.settings.Settings.{Settings}
use Rattle.transitions.specs.declared.tasks.Fade.{Fade}
use Rattle.transitions.specs.declared.tasks.Move.{Move}
use Rattle.transitions.specs.declared.tasks.Motion.{Motion}
use Rattle.transitions.specs.declared.tasks.Phase.{Phase}
use Rattle.transitions.specs.declared.tasks.Phase.TheVariants.{Asked, Waiting}
use Rattle.transitions.specs.declared.tasks.Task.{Task}
use Rattle.transitions.specs.declared.tasks.Task.TheVariants as task
use Rattle.transitions.specs.Types.{Level}
use Rattle.transitions.specs.declared.types.Mode.{Mode}
use Rattle.transitions.specs.declared.types.Mode.TheVariants.{Up, Down}
use Rattle.level_control.specs.Starts.{distance, given_or, target}
use Rattle.level_control.specs.declared.state.LevelControlState.{LevelControlState}
use Rattle.event_theorems.specs.Brings.{Brings, TaskEvent, is_end}
use Rattle.event_theorems.specs.Brings as bring

pub data TaskAfter : Type 0 where
  -- no request, no wait, no failure; the task is as it was, or there is none
  AsItWas : TaskAfter
  AtRest : TaskAfter
  -- E number; no task
  Fails : ℕ → TaskAfter
  -- D level, by a task whose request it is; W µs, by a task that waits for it
  Asks : ℕ → Task → TaskAfter
  Waits : ℕ → Task → TaskAfter

abbrev pub task_on : TaskAfter → Task → Task
task_on AsItWas before = before
task_on AtRest before = task.Rest
task_on (Fails n) before = task.Rest
task_on (Asks level t) before = t
task_on (Waits until t) before = t

abbrev pub task_letter : TaskAfter → List Action
task_letter AsItWas = []
task_letter AtRest = []
task_letter (Fails n) = act E n
task_letter (Asks level t) = act D level
task_letter (Waits until t) = act W until

-- Fades.

-- from c to t in T tenths: n = |t − c|, the period 100·T ÷ n milliseconds, rounded down. T = 0: the one request is for t; else the counter moves by one from c
abbrev pub fade_over : ℕ → ℕ → ℕ → Bool → Bool → Bool → Micros → Fade
fade_over c t T with_on_off scene puts_back now = record {
  with_on_off = with_on_off;
  scene_apply = scene;
  target = t;
  counter = next_level c t (tenths T);
  transition_time = tenths T;
  remaining = millis (T * 100);
  period = millis (T * 100 / distance t c);
  put_back = cond puts_back (Some c) None;
  phase = Asked now;
}

-- Targets: one equal to the current level ends the running task; from a missing level E11
abbrev pub towards : Level → ℕ → ℕ → Bool → Bool → Bool → Micros → TaskAfter
towards (Some c) t T with_on_off scene puts_back now =
    cond (eqb c t) AtRest
    (Asks (next_level c t (tenths T)) (task.Fade (fade_over c t T with_on_off scene puts_back now)))
towards None t T with_on_off scene puts_back now = Fails 11

-- the same fade, with this much of it left, this level asked for last, in this phase
abbrev pub fade_at : Fade → ℕ → ℕ → Phase → Fade
fade_at f remaining counter phase = record f { counter = counter; remaining = millis remaining; phase = phase }

abbrev pub fade_asks : Fade → ℕ → Micros → TaskAfter
fade_asks f remaining now =
    let level = next_level f.counter f.target f.transition_time in
    Asks level (task.Fade (fade_at f remaining level (Asked now)))

-- the request's time + the period; beyond 2^64 − 1, which no play reaches, it is held there
abbrev pub until : Micros → ℕ → ℕ
until since span = min 18446744073709551615 (since.0 + span)

-- the unrounded remaining time falls by the period at each answer before the end. The fade waits until the request's time + the period if
-- period ≥ answer's time − request's time; otherwise the next request is made at once
abbrev pub fade_on : Fade → Phase → Micros → TaskAfter
fade_on f (Asked since) now =
    let span = f.period.0 * 1000 in
    let left = f.remaining.0 - f.period.0 in
    cond (leb (now.0 - since.0) span)
    (Waits (until since span) (task.Fade (fade_at f left f.counter (Waiting (micros (until since span))))))
    (fade_asks f left now)
fade_on f (Waiting end) now = AsItWas

abbrev pub fade_answer : DeviceAnswer → Fade → Micros → TaskAfter
fade_answer (device.Level v) f now = cond (eqb f.counter f.target) AtRest (fade_on f f.phase now)
fade_answer device.Missing f now = Fails 15
fade_answer device.Failed f now = Fails 15

-- Moves.

-- from the stored level by one; it ends where it would pass 0 or 255; E11 from a missing level
abbrev pub step : Motion → Mode → Level → Micros → TaskAfter
step m Up (Some c) now =
    cond (ltb c 255) (Asks (c + 1) (task.Move (record { motion = m; asked = c + 1; phase = Asked now }))) AtRest
step m Down (Some c) now =
    cond (ltb 0 c) (Asks (c - 1) (task.Move (record { motion = m; asked = c - 1; phase = Asked now }))) AtRest
step m Up None now = Fails 11
step m Down None now = Fails 11

-- at MIN going down or at MAX going up nothing happens
abbrev pub at_limit : Mode → Level → Settings → Bool
at_limit Up (Some c) settings = eqb c settings.range.max
at_limit Down (Some c) settings = eqb c settings.range.min
at_limit Up None settings = false
at_limit Down None settings = false

-- the period is (1,000,000 + rate ÷ 2) ÷ rate µs
abbrev pub motion_of : LevelControlState → MoveRequest → Motion
motion_of s r =
    let rate = move_rate r.rate s.attributes.default_move_rate s.settings.fastest_rate in
    record { with_on_off = r.options.with_on_off; mode = r.mode; period = micros ((1000000 + rate / 2) / rate) }

abbrev pub move_on : Move → Phase → Level → Micros → TaskAfter
move_on m (Asked since) level now =
    let span = m.motion.period.0 in
    cond (leb (now.0 - since.0) span)
    (Waits (until since span) (task.Move (record { motion = m.motion; asked = m.asked; phase = Waiting (micros (until since span)) })))
    (step m.motion m.motion.mode level now)
move_on m (Waiting end) level now = AsItWas

abbrev pub move_answer : DeviceAnswer → Move → LevelControlState → Micros → TaskAfter
move_answer (device.Level v) m s now = cond (is_end m.asked s.settings) AtRest (move_on m m.phase (Some v) now)
move_answer device.Missing m s now = Fails 15
move_answer device.Failed m s now = Fails 15

-- The reaction to on.

-- the on level, else the level before, is a target; with both missing, E15
abbrev pub on_towards : Level → Level → ℕ → LevelControlState → Micros → TaskAfter
on_towards (Some level) before v s now =
    towards (Some v) (target s level) (given_or s.attributes.on_transition_time s.attributes.on_off_transition_time.0) true false false now
on_towards None (Some level) v s now =
    towards (Some v) (target s level) (given_or s.attributes.on_transition_time s.attributes.on_off_transition_time.0) true false false now
on_towards None None v s now = Fails 15

abbrev pub on_answer : DeviceAnswer → Level → LevelControlState → Micros → TaskAfter
on_answer (device.Level v) before s now = on_towards s.attributes.on_level before v s now
on_answer device.Missing before s now = Fails 15
on_answer device.Failed before s now = Fails 15

-- Events.

-- Start-up: the device is asked for the start-up level held to MIN..MAX, else for the stored level as it is, else for nothing
abbrev pub start_up : Level → Level → LevelControlState → TaskAfter
start_up (Some level) stored s = Asks (min s.settings.range.max (max s.settings.range.min level)) task.StartUp
start_up None (Some level) s = Asks level task.StartUp
start_up None None s = AsItWas

abbrev pub wake : Task → LevelControlState → Micros → TaskAfter
wake task.Rest s now = AsItWas
wake task.StartUp s now = AsItWas
wake (task.Fade f) s now = fade_asks f f.remaining.0 now
wake (task.Move m) s now = step m.motion m.motion.mode s.current_level now
wake (task.OnReaction r) s now = AsItWas

abbrev pub task_after_command : LevelControlState → TaskEvent → Micros → TaskAfter
task_after_command s bring.StartUp now = start_up s.attributes.start_up_current_level s.current_level s
task_after_command s (bring.Target t T with_on_off scene puts_back) now = towards s.current_level t T with_on_off scene puts_back now
task_after_command s bring.NoTarget now = AsItWas
task_after_command s (bring.Move r) now =
    cond (at_limit r.mode s.current_level s.settings) AsItWas (step (motion_of s r) r.mode s.current_level now)
task_after_command s bring.On now = Asks s.settings.range.min (task.OnReaction (record { before = s.current_level }))
task_after_command s bring.Wake now = wake s.task s now

abbrev pub task_after_answer : Task → LevelControlState → DeviceAnswer → Micros → TaskAfter
task_after_answer task.Rest s a now = AsItWas
task_after_answer task.StartUp s a now = AtRest
task_after_answer (task.Fade f) s a now = fade_answer a f now
task_after_answer (task.Move m) s a now = move_answer a m s now
task_after_answer (task.OnReaction r) s a now = on_answer a r.before s now

unfoldable pub task_after : LevelControlState → Brings → Micros → TaskAfter
task_after s (bring.Runs c) now = task_after_command s c now
task_after s bring.Stops now = AtRest
task_after s (bring.Answers a) now = task_after_answer s.task s a now
task_after s (bring.Updates level) now = AtRest
task_after s (bring.Sets a) now = AsItWas
task_after s bring.Resets now = AtRest
