-- Units: tenths, milliseconds and microseconds, and what is computed of them.
use Rattle.std.specs.Prelude.{ℕ, ◌+◌, ◌-◌, ◌*◌, ◌/◌, ◌%◌, min, Bool, ◌&&◌, cond, if◌then◌else◌, ltb, leb, eqb, nat_eq, nat_le, List, [], ◌∷◌, Option, Some, None}
use Rattle.std.specs.Int.{w16, w32, w64, to_le_bytes}
use Rattle.units.specs.Numbers.{apart, div_ceil}
use Rattle.units.specs.declared.Tenths.{Tenths}
use Rattle.units.specs.declared.Millis.{Millis}
use Rattle.units.specs.declared.Micros.{Micros}

abbrev pub tenths : ℕ → Tenths
tenths n = record { 0 = n }

abbrev pub millis : ℕ → Millis
millis n = record { 0 = n }

abbrev pub micros : ℕ → Micros
micros n = record { 0 = n }

-- Conversions.

-- tenths as milliseconds, exactly
abbrev pub tenths_to_millis : Tenths → Millis
tenths_to_millis t = millis (t.0 * 100)

-- milliseconds ÷ 100 rounded up. The attribute has 16 bits: of a larger count, which no fade reaches, the low ones are kept
abbrev pub tenths_up : Millis → Tenths
tenths_up m = tenths (div_ceil m.0 100 % 65536)

-- milliseconds ÷ 100 rounded down, at most 65,535
abbrev pub tenths_down : Millis → Tenths
tenths_down m = tenths (min 65535 (m.0 / 100))

-- milliseconds as microseconds, exactly
abbrev pub millis_to_micros : Millis → Micros
millis_to_micros m = micros (m.0 * 1000)

-- microseconds as tenths, each of 100,000, where they are whole and 16 bits hold them
abbrev pub micros_to_tenths : Micros → Option Tenths
micros_to_tenths u = if nat_eq (u.0 % 100000) 0 && nat_le (u.0 / 100000) 65535 then Some (tenths (u.0 / 100000)) else None

-- 1, a time that has no such tenths
abbrev pub tenths_number : Option Tenths → ℕ
tenths_number (Some t) = 0
tenths_number None = 1

-- the tenths that are given
abbrev pub tenths_values : Option Tenths → List ℕ
tenths_values (Some t) = t.0 ∷ []
tenths_values None = []

-- microseconds as milliseconds, where they are whole and 32 bits hold them
abbrev pub micros_to_millis : Micros → Option Millis
micros_to_millis u = if nat_eq (u.0 % 1000) 0 && nat_le (u.0 / 1000) 4294967295 then Some (millis (u.0 / 1000)) else None

-- 1, a time that has no such milliseconds
abbrev pub millis_number : Option Millis → ℕ
millis_number (Some m) = 0
millis_number None = 1

-- the milliseconds that are given
abbrev pub millis_values : Option Millis → List ℕ
millis_values (Some m) = m.0 ∷ []
millis_values None = []

-- The bytes of a unit's number, the low one first.

abbrev pub tenths_bytes : Tenths → List ℕ
tenths_bytes t = to_le_bytes w16 t.0

abbrev pub millis_bytes : Millis → List ℕ
millis_bytes m = to_le_bytes w32 m.0

abbrev pub micros_bytes : Micros → List ℕ
micros_bytes u = to_le_bytes w64 u.0

-- Tests and sums within a unit.

abbrev pub is_zero : Tenths → Bool
is_zero t = eqb t.0 0

-- the first is more than the second
abbrev pub exceeds : Tenths → Tenths → Bool
exceeds a b = ltb b.0 a.0

abbrev pub tenths_apart : Tenths → Tenths → Tenths
tenths_apart a b = tenths (apart a.0 b.0)

-- t × factor ÷ divisor rounded down, if the product is at most 65,535
unfoldable pub scaled_floor : Tenths → ℕ → ℕ → Option Tenths
scaled_floor t factor divisor = cond (ltb 65535 (t.0 * factor)) None (Some (tenths (t.0 * factor / divisor)))

-- Causes: 12, a product above 65,535
abbrev pub scaled_number : Option Tenths → ℕ
scaled_number (Some t) = 0
scaled_number None = 12

-- the tenths that are given
abbrev pub scaled_values : Option Tenths → List ℕ
scaled_values (Some t) = t.0 ∷ []
scaled_values None = []

abbrev pub millis_same : Millis → Millis → Bool
millis_same a b = eqb a.0 b.0

-- the difference, or 0 where it would fall below
abbrev pub millis_less : Millis → Millis → Millis
millis_less a b = millis (a.0 - b.0)

abbrev pub millis_divided : Millis → ℕ → Millis
millis_divided m n = millis (m.0 / n)

abbrev pub before : Micros → Micros → Bool
before a b = ltb a.0 b.0

abbrev pub at_most : Micros → Micros → Bool
at_most a b = leb a.0 b.0

-- a span later, held at 2^64 − 1. No play reaches that: its times end at 2^62 − 1, and its longest span is 6,553,500,000 µs
abbrev pub later : Micros → Micros → Micros
later at span = micros (min 18446744073709551615 (at.0 + span.0))

-- the span from the first reading to the second; 0 where the second is earlier, which no play reaches
abbrev pub elapsed : Micros → Micros → Micros
elapsed from to = micros (to.0 - from.0)
