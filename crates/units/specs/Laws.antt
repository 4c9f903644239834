-- Units: laws of the conversions, for every value, in the words of docs/RULES.md.
use Rattle.std.specs.Prelude.{ℕ, ◌+◌, ◌*◌, ◌%◌, ◌≤◌, ◌<◌, ◌≡◌, ◌↔◌, Some}
use Rattle.std.specs.Int.{w16, w32, w64, from_le_bytes}
use Rattle.units.specs.Numbers.{apart, div_ceil}
use Rattle.units.specs.Units.{tenths_up, tenths_down, tenths_to_millis, tenths_bytes, later, elapsed, millis_to_micros, millis_bytes, micros_to_tenths, micros_to_millis, micros_bytes, millis_less, millis_divided, scaled_floor, scaled_number}
use Rattle.units.specs.declared.Tenths.{Tenths}
use Rattle.units.specs.declared.Millis.{Millis}
use Rattle.units.specs.declared.Micros.{Micros}

pub record Laws : Type 0 where
  -- a tenth is 100 ms, a millisecond 1,000 µs, and ten tenths a second of the clock, 1,000,000 µs
  pub tenth_in_millis : (t : Tenths) → (tenths_to_millis t).0 ≡ 100 * t.0
  pub milli_in_micros : (ms : Millis) → (millis_to_micros ms).0 ≡ 1000 * ms.0
  pub second_in_micros : (t : Tenths) → 10 * (millis_to_micros (tenths_to_millis t)).0 ≡ 1000000 * t.0
  -- rounded up: the fewest tenths that are no less than the milliseconds, where 16 bits hold them
  pub up_covers : (ms : Millis) → ms.0 ≤ 6553500 → ms.0 ≤ 100 * (tenths_up ms).0
  pub up_is_least : (ms : Millis) → 100 * (tenths_up ms).0 < ms.0 + 100
  -- above that too it is the low 16 bits of their number
  pub up_low_bits : (ms : Millis) (n : ℕ) → ms.0 ≤ 100 * n → 100 * n < ms.0 + 100 → (tenths_up ms).0 ≡ n % 65536
  -- rounded down: the most tenths that are no more than the milliseconds, and none above 65,535
  pub down_is_covered : (ms : Millis) → 100 * (tenths_down ms).0 ≤ ms.0
  pub down_is_most : (ms : Millis) → ms.0 < 6553600 → ms.0 < 100 * (tenths_down ms).0 + 100
  pub down_ends : (ms : Millis) → 6553500 ≤ ms.0 → (tenths_down ms).0 ≡ 65535
  -- tenths to milliseconds and back lose nothing, whichever way is rounded
  pub up_returns : (t : Tenths) → t.0 ≤ 65535 → tenths_up (tenths_to_millis t) ≡ t
  pub down_returns : (t : Tenths) → t.0 ≤ 65535 → tenths_down (tenths_to_millis t) ≡ t
  -- microseconds become tenths, or milliseconds, exactly if these are no more than their bits hold and become the same time again
  pub whole_tenths : (u : Micros) (t : Tenths) → (micros_to_tenths u ≡ Some t) ↔ ((t.0 ≤ 65535) × (millis_to_micros (tenths_to_millis t) ≡ u))
  pub whole_millis : (u : Micros) (m : Millis) → (micros_to_millis u ≡ Some m) ↔ ((m.0 ≤ 4294967295) × (millis_to_micros m ≡ u))
  -- a unit's number, from its bytes, the low one first
  pub tenths_of_bytes : (t : Tenths) → t.0 ≤ 65535 → from_le_bytes w16 (tenths_bytes t) ≡ t.0
  pub millis_of_bytes : (m : Millis) → m.0 ≤ 4294967295 → from_le_bytes w32 (millis_bytes m) ≡ m.0
  pub micros_of_bytes : (u : Micros) → u.0 ≤ 18446744073709551615 → from_le_bytes w64 (micros_bytes u) ≡ u.0
  -- a difference of milliseconds: with the second it makes the first, and it falls no lower than 0
  pub less_makes : (a b : Millis) → b.0 ≤ a.0 → (millis_less a b).0 + b.0 ≡ a.0
  pub less_ends : (a b : Millis) → a.0 ≤ b.0 → (millis_less a b).0 ≡ 0
  -- a division by 0 gives 0
  pub divided_by_0 : (ms : Millis) → (millis_divided ms 0).0 ≡ 0
  -- a span added to a reading has passed at the sum, where 64 bits hold it; it lies at or after the reading
  pub later_elapsed : (at span : Micros) → at.0 + span.0 ≤ 18446744073709551615 → elapsed at (later at span) ≡ span
  pub later_is_later : (at span : Micros) → at.0 ≤ 18446744073709551615 → at.0 ≤ (later at span).0
  -- a sum that 64 bits do not hold is held at their end, and the span to an earlier reading is 0
  pub later_ends : (at span : Micros) → 18446744073709551615 ≤ at.0 + span.0 → (later at span).0 ≡ 18446744073709551615
  pub elapsed_ends : (from to : Micros) → to.0 ≤ from.0 → (elapsed from to).0 ≡ 0
  -- 12 exactly if the product is above 65,535; else the quotient q, rounded down: divisor·q ≤ T·factor < divisor·(q + 1)
  pub scaled_12 : (t : Tenths) (factor divisor : ℕ) → (scaled_number (scaled_floor t factor divisor) ≡ 12) ↔ (65535 < t.0 * factor)
  pub scaled_rounds_down : (t q : Tenths) (factor divisor : ℕ) → 1 ≤ divisor → scaled_floor t factor divisor ≡ Some q
      → (divisor * q.0 ≤ t.0 * factor) × (t.0 * factor < divisor * (q.0 + 1))
  -- a ÷ b rounded up: the least number of times b that is no less than a; over 0 it is 0
  pub ceil_covers : (a b : ℕ) → 1 ≤ b → a ≤ b * div_ceil a b
  pub ceil_is_least : (a b : ℕ) → 1 ≤ b → b * div_ceil a b < a + b
  pub ceil_over_0 : (a : ℕ) → div_ceil a 0 ≡ 0
  -- |a − b|: with the smaller of the two it makes the larger
  pub apart_between : (a b : ℕ) → a ≤ b → (a + apart a b ≡ b) × (a + apart b a ≡ b)
