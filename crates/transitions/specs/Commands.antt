-- Targets, Steps and the rate of Moves.
use Rattle.std.specs.Prelude.{ℕ, ◌-◌, min, max, Bool, cond, ltb, leb, eqb, List, [], ◌∷◌, Option, Some, None, Result, Ok, Err, is_err}
use Rattle.units.specs.Numbers.{held_to, sum_to255}
use Rattle.units.specs.Units.{tenths, scaled_floor}
use Rattle.transitions.specs.Causes.{refusal_number}
use Rattle.transitions.specs.Types.{rate_or}
use Rattle.transitions.specs.declared.types.Mode.{Mode}
use Rattle.transitions.specs.declared.types.Mode.TheVariants.{Up, Down}
use Rattle.transitions.specs.Types.{Rate}
use Rattle.transitions.specs.Types.{Time}
use Rattle.units.specs.declared.Tenths.{Tenths}
use Rattle.transitions.specs.declared.causes.Refusal.{Refusal}
use Rattle.transitions.specs.declared.causes.Refusal.TheVariants.{InvalidCommand, ProductTooLarge}

-- 255 is kept, unclamped; a target of at most 254 is held to MIN..MAX
unfoldable pub target_level : ℕ → ℕ → ℕ → ℕ
target_level level lo hi = cond (ltb 254 level) level (held_to lo hi level)

-- of a target of 255 the options are not consulted
abbrev pub consults_options : ℕ → Bool
consults_options level = leb level 254

-- up: the sum is held to 255, then capped at MAX. Down: the difference is held at 0, then raised to MIN
unfoldable pub step_level : Mode → ℕ → ℕ → ℕ → ℕ → ℕ
step_level Up level size lo hi = min (sum_to255 level size) hi
step_level Down level size lo hi = max (level - size) lo

abbrev pub scaled_time : Option Tenths → Result Tenths Refusal
scaled_time (Some t) = Ok t
scaled_time None = Err ProductTooLarge

-- where the size came out different, the time is given time × actual size ÷ asked size, rounded down. A missing time is 0
unfoldable pub step_time : Time → ℕ → ℕ → Result Tenths Refusal
step_time (Some t) actual size = cond (eqb actual size) (Ok t) (scaled_time (scaled_floor t actual size))
step_time None actual size = Ok (tenths 0)

-- 12: that product is above 65,535
abbrev pub step_time_number : Result Tenths Refusal → ℕ
step_time_number (Ok t) = 0
step_time_number (Err cause) = refusal_number cause

-- the tenths that it takes
abbrev pub step_time_values : Result Tenths Refusal → List ℕ
step_time_values (Ok t) = t.0 ∷ []
step_time_values (Err cause) = []

-- 12 is due
abbrev pub is_overflow : Result Tenths Refusal → Bool
is_overflow t = is_err t

-- the given rate, else the default rate, else the fastest. A default rate of 0 does not fall through to the fastest
unfoldable pub rate_in_force : Rate → Rate → ℕ → Result ℕ Refusal
rate_in_force given default fastest =
    cond (eqb (rate_or given default fastest) 0) (Err InvalidCommand) (Ok (rate_or given default fastest))

-- 10: the rate in force is 0
abbrev pub move_rate_number : Result ℕ Refusal → ℕ
move_rate_number (Ok r) = 0
move_rate_number (Err cause) = refusal_number cause

-- the rate
abbrev pub move_rate_values : Result ℕ Refusal → List ℕ
move_rate_values (Ok r) = r ∷ []
move_rate_values (Err cause) = []

-- 10 is due
abbrev pub is_invalid : Result ℕ Refusal → Bool
is_invalid r = is_err r
