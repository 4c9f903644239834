-- Every fade: the table of starts. The machine does not use these definitions; `every_fade_is_covered` says that they agree with it.
use Rattle.std.specs.Prelude.{ℕ, ◌+◌, ◌-◌, ◌*◌, ◌/◌, min, max, Bool, true, false, cond, ◌||◌, leb, eqb, Some, None}
use Rattle.transitions.specs.Matter.{executes}
use Rattle.transitions.specs.declared.events.Command.{Command}
use Rattle.transitions.specs.declared.events.EventKind.{EventKind}
use Rattle.transitions.specs.declared.events.EventKind.TheVariants as kind
use Rattle.transitions.specs.declared.events.StepRequest.{StepRequest}
use Rattle.transitions.specs.Types.{Level}
use Rattle.transitions.specs.declared.types.Mode.{Mode}
use Rattle.transitions.specs.declared.types.Mode.TheVariants.{Up, Down}
use Rattle.transitions.specs.declared.types.OptionsBitmap.{OptionsBitmap}
use Rattle.transitions.specs.Types.{Time}
use Rattle.level_control.specs.declared.state.LevelControlState.{LevelControlState}
use Rattle.transitions.specs.declared.events.Command.TheVariants as command

-- a fade from c to t in T tenths, or none
pub data Start : Type 0 where
  NoFade : Start
  Fades : ℕ → ℕ → ℕ → Start

-- c is the level; a target that is reached, or a level that is missing, starts none
abbrev pub start_from : Level → ℕ → ℕ → Start
start_from (Some c) t T = cond (eqb c t) NoFade (Fades c t T)
start_from None t T = NoFade

-- Targets: 255 is kept, unclamped; a target of at most 254 is held to MIN..MAX
abbrev pub target : LevelControlState → ℕ → ℕ
target s level = cond (leb 255 level) level (min s.settings.range.max (max s.settings.range.min level))

-- the options let a command pass (of a target of 255 nobody asks, below)
abbrev pub passes : LevelControlState → Bool → Bool → OptionsBitmap → OptionsBitmap → Bool
passes s with_on_off on mask override = executes with_on_off s.settings.coupled on s.attributes.options.0 mask.0 override.0

abbrev pub when : Bool → Start → Start
when test start = cond test start NoFade

abbrev pub given_or : Time → ℕ → ℕ
given_or (Some t) other = t.0
given_or None other = other

-- Steps: the sum held to 255, then capped at MAX, or the difference held at 0, then raised to MIN
abbrev pub step_to : Mode → LevelControlState → ℕ → ℕ → ℕ
step_to Up s c size = min s.settings.range.max (min 255 (c + size))
step_to Down s c size = max s.settings.range.min (c - size)

abbrev pub distance : ℕ → ℕ → ℕ
distance a b = (a - b) + (b - a)

-- where the size came out different, the time is given time × actual size ÷ asked size, rounded down
abbrev pub step_in : Time → ℕ → ℕ → ℕ
step_in None actual size = 0
step_in (Some t) actual size = cond (eqb actual size) t.0 (t.0 * actual / size)

abbrev pub step_start : Level → LevelControlState → StepRequest → Start
step_start (Some c) s r =
    start_from (Some c) (target s (step_to r.mode s c r.step_size))
    (step_in r.transition_time (distance (step_to r.mode s c r.step_size) c) r.step_size)
step_start None s r = NoFade

abbrev pub scene_start : Level → LevelControlState → Bool → ℕ → Start
scene_start (Some level) s on ms =
    when (leb 255 level || passes s false on (record { 0 = 0 }) (record { 0 = 0 }))
    (start_from s.current_level (target s level) (min 65535 (ms / 100)))
scene_start None s on ms = NoFade

-- the fade that an accepted move to level, step, off or scene starts in a state
abbrev pub command_start : LevelControlState → Bool → Command → Start
command_start s on (command.MoveToLevel r) =
    when (leb 255 r.level || passes s r.options.with_on_off on r.options.options_mask r.options.options_override)
    (start_from s.current_level (target s r.level) (given_or r.transition_time 0))
command_start s on (command.Move r) = NoFade
command_start s on (command.Step r) = when (passes s r.options.with_on_off on r.options.options_mask r.options.options_override) (step_start s.current_level s r)
command_start s on (command.Stop r) = NoFade
command_start s on (command.OnOffChanged true) = NoFade
command_start s on (command.OnOffChanged false) =
    start_from s.current_level (target s s.settings.range.min)
    (given_or s.attributes.off_transition_time s.attributes.on_off_transition_time.0)
command_start s on (command.Scene r) = scene_start r.level s on r.transition_time.0
command_start s on (command.DeviceUpdate level) = NoFade
command_start s on command.DeviceStop = NoFade
command_start s on (command.SetOnLevel level) = NoFade
command_start s on (command.SetDefaultMoveRate rate) = NoFade
command_start s on (command.SetStartUpCurrentLevel level) = NoFade
command_start s on command.FactoryReset = NoFade

unfoldable pub start_of : LevelControlState → Bool → EventKind → Start
start_of s on kind.StartUp = NoFade
start_of s on (kind.Answer a) = NoFade
start_of s on kind.Wake = NoFade
start_of s on (kind.Command c) = command_start s on c

-- after on in a state, the answer v to the request for MIN starts a fade to the on level, else to the level before

abbrev pub on_start_at : Level → Level → LevelControlState → ℕ → Start
on_start_at (Some level) before s v =
    start_from (Some v) (target s level) (given_or s.attributes.on_transition_time s.attributes.on_off_transition_time.0)
on_start_at None (Some level) s v =
    start_from (Some v) (target s level) (given_or s.attributes.on_transition_time s.attributes.on_off_transition_time.0)
on_start_at None None s v = NoFade

unfoldable pub on_start : LevelControlState → ℕ → Start
on_start s v = on_start_at s.attributes.on_level s.current_level s v
