-- Fades: the rules of `move_to_level_transition` that need no state.
use Rattle.std.specs.Prelude.{ℕ, ◌+◌, ◌-◌, Bool, cond, List, [], ◌∷◌, ltb, Option, Some, None}
use Rattle.units.specs.Units.{millis, is_zero, tenths_to_millis, millis_same, millis_less, millis_divided, at_most, later, elapsed}
use Rattle.units.specs.declared.Tenths.{Tenths}
use Rattle.units.specs.declared.Millis.{Millis}
use Rattle.units.specs.declared.Micros.{Micros}

-- the period is 100·T ÷ n milliseconds, rounded down
unfoldable pub fade_period : Tenths → ℕ → Millis
fade_period time n = millis_divided (tenths_to_millis time) n

-- start holds while the unrounded remaining time equals 100·T
unfoldable pub is_transition_start : Millis → Tenths → Bool
is_transition_start remaining time = millis_same remaining (tenths_to_millis time)

-- the unrounded remaining time falls by the period at each answer before the end; at the end it is 0
unfoldable pub remaining_after : Millis → Millis → Bool → Millis
remaining_after remaining period end = cond end (millis 0) (millis_less remaining period)

-- T = 0: the one request is for t. Otherwise the fade's own counter moves by one, whatever level the device answers
unfoldable pub next_level : ℕ → ℕ → Tenths → ℕ
next_level counter target time =
    cond (is_zero time) target
    (cond (ltb counter target) (counter + 1) (cond (ltb target counter) (counter - 1) target))

-- Events and answers, a wait: until the request's time + the period if period ≥ answer's time − request's time; otherwise the next request is made at once
unfoldable pub wait_or_ask : Micros → Micros → Micros → Option Micros
wait_or_ask asked answered period = cond (at_most (elapsed asked answered) period) (Some (later asked period)) None

-- the values of the W actions that an answer stands for
abbrev pub waits : Option Micros → List ℕ
waits (Some until) = until.0 ∷ []
waits None = []
