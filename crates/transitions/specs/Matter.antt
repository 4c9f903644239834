-- What the Matter Application Cluster Specification, Level Control (revision 6), says of the rules of this crate, in our words and
-- without our definitions; and where the two agree. The document itself is not at hand. Each definition is marked:
--   [source]   quoted in the comments of the source, level_control.rs
--   [general]  general knowledge, not checked against the text
-- docs/DIFFERENCES.md has a row for each disagreement.
use Rattle.std.specs.Prelude.{ℕ, zero, suc, ◌+◌, ◌-◌, ◌*◌, ◌/◌, ◌%◌, ◌^◌, ◌≤◌, ◌<◌, Bool, true, false, cond, ◌&&◌, ◌||◌, not, ◌≡◌, ltb, leb, eqb, Option, Some, None, Ok, Err}
use Rattle.std.specs.Bool.{beq}
use Rattle.units.specs.Units.{tenths, micros}
use Rattle.units.specs.declared.Micros.{Micros}
use Rattle.units.specs.declared.Tenths.{Tenths}
use Rattle.transitions.specs.Options.{should_continue}
use Rattle.transitions.specs.RemainingTime.{remaining_time_due}
use Rattle.transitions.specs.CurrentLevel.{second, current_level_due}
use Rattle.transitions.specs.Coupling.{coupled_on_off}
use Rattle.transitions.specs.Commands.{target_level, step_level, step_time, rate_in_force}
use Rattle.transitions.specs.Types.{Level}
use Rattle.transitions.specs.declared.types.Mode.TheVariants.{Up, Down}
use Rattle.transitions.specs.Types.{Rate}
use Rattle.transitions.specs.declared.types.OptionsBitmap.{OptionsBitmap}
use Rattle.transitions.specs.declared.causes.Refusal.TheVariants.{InvalidCommand, ProductTooLarge}

-- "OptionsMask and OptionsOverride fields" [source]: each bit of the temporary bitmap comes from Options, unless the mask has that bit: then from the override

abbrev pub bit : ℕ → ℕ → Bool
bit i b = eqb (b / 2 ^ i % 2) 1

abbrev pub temporary_bit : ℕ → ℕ → ℕ → ℕ → Bool
temporary_bit i options mask override = cond (bit i mask) (bit i override) (bit i options)

-- "Command execution SHALL NOT continue beyond the Options processing if all of these criteria are true" [source]:
-- a command without on/off; an On/Off cluster on the endpoint; its OnOff is FALSE; the ExecuteIfOff bit (bit 0) is 0
unfoldable pub executes : Bool → Bool → Bool → ℕ → ℕ → ℕ → Bool
executes with_on_off exists on_off options mask override =
    not (not with_on_off && exists && not on_off && not (temporary_bit 0 options mask override))

-- quiet reporting of CurrentLevel [source]: "at most once per second, or at the end of the movement/transition, or when it changes from
-- null to any other value and vice versa". What is reported is a change [general].

abbrev pub is_null : Level → Bool
is_null (Some l) = false
is_null None = true

abbrev pub changed : Level → Level → Bool
changed (Some a) (Some b) = not (eqb a b)
changed (Some a) None = true
changed None (Some b) = true
changed None None = false

unfoldable pub level_reportable : ℕ → Bool → Level → Level → Bool
level_reportable micros_since end old new =
    changed old new && (leb 1000000 micros_since || end || not (beq (is_null old) (is_null new)))

-- quiet reporting of RemainingTime [source]: "when it changes to 0, or when it changes from 0 to any value higher than 10, or when it
-- changes, with a delta larger than 10, caused by the invoke of a command"
unfoldable pub time_reportable : ℕ → ℕ → Bool → Bool
time_reportable old new invoked =
    (ltb 0 old && eqb new 0) || (eqb old 0 && ltb 10 new) || (invoked && (ltb (old + 10) new || ltb (new + 10) old))

-- the effect of Step [source]: "increase/decrease CurrentLevel by StepSize units, or until it reaches the maximum/minimum level allowed for
-- the device": one unit after the other
abbrev pub increased : ℕ → ℕ → ℕ → ℕ
increased zero level max = level
increased (suc units) level max = cond (eqb level max) level (increased units (level + 1) max)

abbrev pub decreased : ℕ → ℕ → ℕ → ℕ
decreased zero level min = level
decreased (suc units) level min = cond (eqb level min) level (decreased units (level - 1) min)

-- "in the latter case, the transition time SHALL be proportionally reduced" [source]; that it is in whole tenths, rounded down, is ours
abbrev pub ProportionallyReduced : ℕ → ℕ → ℕ → ℕ → Type 0
ProportionallyReduced given actual size t = (size * t ≤ given * actual) × (given * actual < size * (t + 1))

-- the rate of Move [source]: a null Rate takes DefaultMoveRate if that is not null, else "the device SHOULD move as fast as it is able"
abbrev pub move_rate : Rate → Rate → ℕ → ℕ
move_rate (Some r) default fastest = r
move_rate None (Some r) fastest = r
move_rate None None fastest = fastest

-- the range of levels: at most 254, and at least 1 with the lighting feature [source]; 255 stands for null [general]
abbrev pub IsLevel : ℕ → Type 0
IsLevel level = level ≤ 254

-- the coupling to on/off [source]: "when the level is reduced to its minimum the OnOff attribute is automatically turned to FALSE, and when the
-- level is increased above its minimum the OnOff attribute is automatically turned to TRUE", by the with-on/off commands alone
unfoldable pub on_off_after : Bool → Bool → Bool → ℕ → ℕ → Bool
on_off_after with_on_off exists on_off min level =
    cond (with_on_off && exists) (cond (eqb level min) false (cond (ltb min level) true on_off)) on_off

-- the OnOff attribute after what our rule sends
abbrev pub after_sent : Bool → Option Bool → Bool
after_sent on_off (Some v) = v
after_sent on_off None = on_off

pub record Agreement : Type 0 where
  -- options processing: everywhere
  pub options : (with_on_off coupled on : Bool) (o mask override : OptionsBitmap)
      → should_continue with_on_off coupled on o mask override ≡ executes with_on_off coupled on o.0 mask.0 override.0
  -- CurrentLevel's report: wherever the level changes
  pub level_report : (last now : Micros) (end : Bool) (old new : Level) → changed old new ≡ true
      → current_level_due second last now end old new ≡ level_reportable (now.0 - last.0) end old new
  -- it is told also where the level stays as it was, which is no change
  pub level_report_parts : (current_level_due second (micros 0) (micros 0) true (Some 10) (Some 10) ≡ true)
      × (level_reportable 0 true (Some 10) (Some 10) ≡ false)
  -- RemainingTime's report: everywhere, "caused by the invoke of a command" being the start of a fade
  pub time_report : (old new : Tenths) (start : Bool) → remaining_time_due old new start ≡ time_reportable old.0 new.0 start
  -- a step's level: wherever the level lies within MIN..MAX
  pub step_up : (level size lo hi : ℕ) → level ≤ hi → IsLevel hi → step_level Up level size lo hi ≡ increased size level hi
  pub step_down : (level size lo hi : ℕ) → lo ≤ level → step_level Down level size lo hi ≡ decreased size level lo
  -- a step's time: wherever the step is not refused (a step that is lengthened too, of which the document does not speak)
  pub step_time_rounds : (given actual size : ℕ) (t : Tenths) → 1 ≤ size → step_time (Some (tenths given)) actual size ≡ Ok t
      → ProportionallyReduced given actual size t.0
  -- the refusal of a large product, which the document does not have: 40,000 tenths by 2 of 3 levels
  pub step_time_parts : (step_time (Some (tenths 40000)) 2 3 ≡ (Err ProductTooLarge)) × ProportionallyReduced 40000 2 3 26666
  -- a move's rate, where it is not 0; a rate of 0 is refused, wherever it comes from
  pub rate : (given default : Rate) (fastest : ℕ) → 1 ≤ move_rate given default fastest
      → rate_in_force given default fastest ≡ Ok (move_rate given default fastest)
  pub rate_parts : (given default : Rate) (fastest : ℕ) → move_rate given default fastest ≡ 0 → rate_in_force given default fastest ≡ (Err InvalidCommand)
  -- the range of levels: a level is moved to within MIN..MAX; 255, which is no level, is kept
  pub range : (level lo hi : ℕ) → IsLevel level → lo ≤ hi → (lo ≤ target_level level lo hi) × (target_level level lo hi ≤ hi)
  pub range_parts : (IsLevel 255 → ⊥) × (target_level 255 1 254 ≡ 255)
  -- the coupling: wherever the level is not below MIN
  pub coupling : (with_on_off coupled on : Bool) (min level : ℕ) → min ≤ level
      → after_sent on (coupled_on_off with_on_off coupled on min level) ≡ on_off_after with_on_off coupled on min level
