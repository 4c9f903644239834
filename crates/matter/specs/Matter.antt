-- What the Matter Application Cluster Specification, Level Control (revision 6), says of whole commands, in our words and without our definitions: it
-- goes on from the rules in transitions/specs/Matter.antt. The document itself is not at hand. Each definition is marked:
--   [source]   quoted in the comments of the source, level_control.rs
--   [told]     told by others, as in a list of known disagreements; not seen in the text
--   [general]  general knowledge, not checked against the text
-- docs/DIFFERENCES.md has a row for each disagreement.
use Rattle.std.specs.Prelude.{ℕ, ◌-◌, ◌*◌, ◌/◌, Bool, false, cond, ltb, eqb, Some, None}
use Rattle.units.specs.Numbers.{apart}
use Rattle.transitions.specs.Matter.{increased, decreased}
use Rattle.transitions.specs.Types.{Level}
use Rattle.transitions.specs.declared.types.Mode.{Mode}
use Rattle.transitions.specs.declared.types.Mode.TheVariants.{Up, Down}
use Rattle.transitions.specs.Types.{Rate}
use Rattle.transitions.specs.Types.{Time}

-- what a command does to CurrentLevel
pub data Effect : Type 0 where
  -- the command is answered with INVALID_COMMAND
  Invalid : Effect
  -- the Options processing stops the command: nothing happens [source]
  NotExecuted : Effect
  -- CurrentLevel is at its target already: it stays, and what ran is over [general]
  NoEffect : Effect
  -- CurrentLevel goes from a level to another in so many tenths of a second
  Goes : ℕ → ℕ → ℕ → Effect

abbrev pub goes : ℕ → ℕ → ℕ → Effect
goes from to tenths = cond (eqb from to) NoEffect (Goes from to tenths)

-- a level outside the device's range is taken for the end that it is nearer to [general]
abbrev pub within : ℕ → ℕ → ℕ → ℕ
within min max level = cond (ltb level min) min (cond (ltb max level) max level)

-- a null time takes another
abbrev pub or_else : Time → ℕ → ℕ
or_else (Some t) other = t.0
or_else None other = other

-- "MoveToLevel Command": a level above 254 is INVALID_COMMAND [told]; past the Options processing, from CurrentLevel to Level, in TransitionTime or, where
-- that is null, in OnOffTransitionTime [told]
abbrev pub move_to_level : Bool → ℕ → ℕ → ℕ → ℕ → Time → ℕ → Effect
move_to_level executed min max current level given on_off_time =
    cond (ltb 254 level) Invalid (cond executed (goes current (within min max level) (or_else given on_off_time)) NotExecuted)

-- "Step Command": a StepSize of 0 is INVALID_COMMAND [source]; else by StepSize units, or until the limit is reached, and in the latter case the time is
-- proportionally reduced [source]; rounded down, which is ours. A null time is as fast as able [general]

abbrev pub step_to : Mode → ℕ → ℕ → ℕ → ℕ → ℕ
step_to Up min max current size = increased size current max
step_to Down min max current size = decreased size current min

abbrev pub reduced : Time → ℕ → ℕ → ℕ
reduced (Some t) actual size = t.0 * actual / size
reduced None actual size = 0

abbrev pub step : Bool → Mode → ℕ → ℕ → ℕ → ℕ → Time → Effect
step executed mode min max current size given =
    cond (eqb size 0) Invalid
    (cond executed
    (goes current (step_to mode min max current size) (reduced given (apart (step_to mode min max current size) current) size))
    NotExecuted)

-- "Move Command": a Rate of 0 is INVALID_COMMAND [source]; of a null Rate and a DefaultMoveRate of 0 the document is not explicit [source]
abbrev pub move_is_invalid : Rate → Bool
move_is_invalid (Some rate) = eqb rate 0
move_is_invalid None = false

-- one unit after the other, up or down, as long as the limit is not reached [source, general]
abbrev pub move_to : Mode → ℕ → ℕ → ℕ → Level
move_to Up min max current = cond (eqb current max) None (Some (increased 1 current max))
move_to Down min max current = cond (eqb current min) None (Some (decreased 1 current min))

-- "On": CurrentLevel is stored and set to the minimum; then it goes to OnLevel, or to the stored level if OnLevel is not defined [source], in OnTransitionTime or,
-- where that is null, in OnOffTransitionTime [source]. This is what happens after the minimum is reached
abbrev pub after_on : Level → Level → ℕ → ℕ → Time → ℕ → Effect
after_on (Some on_level) stored min max given on_off_time = goes min (within min max on_level) (or_else given on_off_time)
after_on None (Some stored) min max given on_off_time = goes min (within min max stored) (or_else given on_off_time)
after_on None None min max given on_off_time = NoEffect

-- "Off": CurrentLevel is stored and goes to the minimum in OffTransitionTime or, where that is null, in OnOffTransitionTime [source]
abbrev pub off : ℕ → ℕ → Time → ℕ → Effect
off current min given on_off_time = goes current min (or_else given on_off_time)

-- "OnTransitionTime", "OffTransitionTime": "the time taken to move the current level from the minimum level to the maximum level", and back [source]. To the letter
-- a shorter way takes its part of it; above they are taken for the whole way, as the rules take them (Reactions)
abbrev pub part_of_time : ℕ → ℕ → ℕ → ℕ → ℕ
part_of_time min max way time = time * way / (max - min)

-- and then, "if OnLevel is not defined, set the CurrentLevel to the stored level" [source]; else it stays where the device is
abbrev pub after_off : Level → ℕ → ℕ → ℕ
after_off (Some on_level) stored reached = reached
after_off None stored reached = stored

-- "StartUpCurrentLevel Attribute" [source]: 0 is the minimum, null the previous value, other values are that value
abbrev pub start_up : Level → ℕ → Level → Level
start_up (Some value) min previous = cond (eqb value 0) (Some min) (Some value)
start_up None min previous = previous

-- "RemainingTime Attribute": "the time remaining until the current command is complete" [general]: of a command whose CurrentLevel goes in some tenths, these
-- when it is received; none, if its target is reached already
abbrev pub remaining_at_start : Effect → ℕ → ℕ
remaining_at_start Invalid before = before
remaining_at_start NotExecuted before = before
remaining_at_start NoEffect before = 0
remaining_at_start (Goes from to tenths) before = tenths
