-- Numbers and times in words.
use Rattle.std.specs.Prelude.{ℕ, ◌+◌, ◌-◌, ◌*◌, ◌^◌, Bool, ◌||◌, ◌&&◌, if◌then◌else◌, List, [], ◌∷◌, nat_eq, nat_le, nat_lt, take, drop, length, get_or, Option, Some, None}
use Rattle.std.specs.List.{prefix_len}
use Rattle.units.specs.Units.{micros}
use Rattle.units.specs.declared.Micros.{Micros}
use Rattle.words.specs.Lexis.{is_other}

abbrev pub is_digit : ℕ → Bool
is_digit b = nat_le 48 b && nat_le b 57

-- the number that these digits make behind a number, if 64 bits hold it
unfoldable pub number_after : ℕ → List ℕ → Option ℕ
number_after n [] = Some n
number_after n (b ∷ s) = if is_digit b && nat_lt (10 * n + (b - 48)) (2 ^ 64) then number_after (10 * n + (b - 48)) s else None

-- no leading zeros
abbrev pub number_of : List ℕ → Option ℕ
number_of w = if nat_eq (length w) 0 || (nat_lt 1 (length w) && nat_eq (get_or w 0 0) 48) then None else number_after 0 w

abbrev pub scaled : ℕ → ℕ → Option Micros
scaled n places = if nat_lt (n * 10 ^ places) (2 ^ 64) then Some (micros (n * 10 ^ places)) else None

abbrev pub scaled_if : Option ℕ → ℕ → Option Micros
scaled_if (Some n) places = scaled n places
scaled_if None places = None

-- what stands before the point, and from it on: one to six digits behind it
abbrev pub parts_of : Option ℕ → List ℕ → Option Micros
parts_of (Some whole) [] = scaled whole 6
parts_of (Some whole) (point ∷ fraction) =
    if nat_eq (length fraction) 0 || nat_lt 6 (length fraction) then None else scaled_if (number_after whole fraction) (6 - length fraction)
parts_of None rest = None

-- seconds, with or without a point
unfoldable pub seconds_of : List ℕ → Option Micros
seconds_of w = parts_of (number_of (take (prefix_len (is_other 46) w) w)) (drop (prefix_len (is_other 46) w) w)

-- a time has its unit at its end
unfoldable pub micros_of : List ℕ → Option Micros
micros_of w =
    if nat_eq (length w) 0 then None
    else if nat_eq (get_or w (length w - 1) 0) 115 then seconds_of (take (length w - 1) w) else None
