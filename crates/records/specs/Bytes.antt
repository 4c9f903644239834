-- Records: 20 bytes, numbers of several bytes low byte first, unnamed bytes 0, flags 0 or 1.
use Rattle.std.specs.Prelude.{ℕ, zero, suc, ◌+◌, ◌*◌, Bool, ◌&&◌, List, nat_le, nat_eq, length, get_or, drop, Option}
use Rattle.std.specs.Bool.{then_some}
use Rattle.std.specs.List.{list_all}
use Rattle.units.specs.Units.{micros, tenths}
use Rattle.units.specs.declared.Micros.{Micros}
use Rattle.units.specs.declared.Tenths.{Tenths}

-- the byte at a place; 0 past the end, which no record of 20 bytes shows
abbrev pub byte_at : List ℕ → ℕ → ℕ
byte_at s at = get_or s at 0

-- the number of n bytes from a place on, low byte first: each counts 256 of the one before it
abbrev pub low_first : ℕ → List ℕ → ℕ → ℕ
low_first zero s at = 0
low_first (suc n) s at = byte_at s at + 256 * low_first n s (at + 1)

abbrev pub le16 : List ℕ → ℕ → ℕ
le16 s at = low_first 2 s at

abbrev pub le32 : List ℕ → ℕ → ℕ
le32 s at = low_first 4 s at

abbrev pub le64 : List ℕ → ℕ → ℕ
le64 s at = low_first 8 s at

abbrev pub tenths_at : List ℕ → ℕ → Tenths
tenths_at s at = tenths (le16 s at)

-- of an event: bytes 4 to 11
abbrev pub clock_time : List ℕ → Micros
clock_time s = micros (le64 s 4)

-- what a flag's byte says
abbrev pub flag_of : ℕ → Option Bool
flag_of byte = then_some (nat_le byte 1) (nat_eq byte 1)

abbrev pub is_flag : List ℕ → ℕ → Bool
is_flag s at = nat_le (byte_at s at) 1

abbrev pub is_set : List ℕ → ℕ → Bool
is_set s at = nat_eq (byte_at s at) 1

-- the bytes from a place on are 0
abbrev pub zeros_from : List ℕ → ℕ → Bool
zeros_from s from = list_all (λ byte. nat_eq byte 0) (drop from s)

-- 20 bytes, of which the first is 4C and the second the mark of its sort
abbrev pub has_marks : List ℕ → ℕ → Bool
has_marks s mark = nat_eq (length s) 20 && nat_eq (byte_at s 0) 0x4C && nat_eq (byte_at s 1) mark
