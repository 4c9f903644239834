-- Records, settings: what a record says, and why it is refused (Causes, 1 to 4).
use Rattle.std.specs.Prelude.{ℕ, ◌/◌, ◌%◌, ◌^◌, Bool, if◌then◌else◌, not, ◌&&◌, List, [], ◌∷◌, ◌++◌, nat_le, nat_lt, nat_eq, Result, Ok, Err}
use Rattle.std.specs.Bool.{then_some}
use Rattle.transitions.specs.declared.settings.Attributes.{Attributes}
use Rattle.transitions.specs.declared.settings.Settings.{Settings}
use Rattle.transitions.specs.Types.{level_values, time_values}
use Rattle.records.specs.Written.{bit, known}
use Rattle.records.specs.Bytes.{byte_at, le16, tenths_at, is_flag, is_set, zeros_from, has_marks}
use Rattle.records.specs.declared.refusal.RecordRefusal.{RecordRefusal}
use Rattle.records.specs.declared.refusal.RecordRefusal.TheVariants.{RecordWrong, MaxAbove254, MinAboveMax, LightingMin0}

-- a mark, a flag, known bit 6 or 7, or the unnamed byte
abbrev pub settings_wrong : List ℕ → Bool
settings_wrong s = not (has_marks s 0x47 && (is_flag s 4 && nat_le (byte_at s 11) 63 && is_flag s 18 && zeros_from s 19))

-- known bits: 0 level, 1 on level, 2 start-up level, 3 default rate, 4 on time, 5 off time
abbrev pub known_bit : List ℕ → ℕ → Bool
known_bit s bit = nat_eq (byte_at s 11 / 2 ^ bit % 2) 1

abbrev pub attributes_at : List ℕ → Attributes
attributes_at s = record {
  on_level = then_some (known_bit s 1) (byte_at s 8);
  options = record { 0 = byte_at s 5 };
  on_off_transition_time = tenths_at s 12;
  on_transition_time = then_some (known_bit s 4) (tenths_at s 14);
  off_transition_time = then_some (known_bit s 5) (tenths_at s 16);
  default_move_rate = then_some (known_bit s 3) (byte_at s 10);
  start_up_current_level = then_some (known_bit s 2) (byte_at s 9);
}

abbrev pub settings_at : List ℕ → Settings
settings_at s = record {
  range = record { min = byte_at s 2; max = byte_at s 3 };
  coupled = is_set s 4;
  fastest_rate = byte_at s 6;
  lighting = is_set s 18;
  current_level = then_some (known_bit s 0) (byte_at s 7);
  attributes = attributes_at s;
}

-- MAX, MIN and lighting, in the order of the causes
abbrev pub checked : Settings → Result Settings RecordRefusal
checked x =
    if nat_lt 254 x.range.max then Err MaxAbove254
    else if nat_lt x.range.max x.range.min then Err MinAboveMax
    else if x.lighting && nat_eq x.range.min 0 then Err LightingMin0
    else Ok x

-- what a record is read as, for every list of bytes
unfoldable pub settings_read : List ℕ → Result Settings RecordRefusal
settings_read s = if settings_wrong s then Err RecordWrong else checked (settings_at s)

-- the number of a refusal
abbrev pub refusal_number : RecordRefusal → ℕ
refusal_number RecordWrong = 1
refusal_number MaxAbove254 = 2
refusal_number MinAboveMax = 3
refusal_number LightingMin0 = 4

-- the number of a record: 0 where it is accepted
abbrev pub settings_read_number : Result Settings RecordRefusal → ℕ
settings_read_number (Ok settings) = 0
settings_read_number (Err refusal) = refusal_number refusal

-- the values that are read, in the order of the record; before each that may be missing, whether it is known
abbrev pub settings_read_values : Result Settings RecordRefusal → List ℕ
settings_read_values (Ok x) =
    let a = x.attributes in
    x.range.min ∷ x.range.max ∷ bit x.coupled ∷ a.options.0 ∷ x.fastest_rate
    ∷ known x.current_level ∷ level_values x.current_level ++ known a.on_level ∷ level_values a.on_level
    ++ known a.start_up_current_level ∷ level_values a.start_up_current_level ++ known a.default_move_rate ∷ level_values a.default_move_rate
    ++ a.on_off_transition_time.0 ∷ known a.on_transition_time ∷ time_values a.on_transition_time
    ++ known a.off_transition_time ∷ time_values a.off_transition_time ++ bit x.lighting ∷ []
settings_read_values (Err refusal) = []

-- the same, as they stand in the bytes

abbrev known_setting : List ℕ → ℕ → ℕ → List ℕ
known_setting s bit value = byte_at s 11 / 2 ^ bit % 2 ∷ (if known_bit s bit then value ∷ [] else [])

abbrev pub settings_values_at : List ℕ → List ℕ
settings_values_at s =
    byte_at s 2 ∷ byte_at s 3 ∷ byte_at s 4 ∷ byte_at s 5 ∷ byte_at s 6
    ∷ known_setting s 0 (byte_at s 7) ++ known_setting s 1 (byte_at s 8) ++ known_setting s 2 (byte_at s 9) ++ known_setting s 3 (byte_at s 10)
    ++ le16 s 12 ∷ known_setting s 4 (le16 s 14) ++ known_setting s 5 (le16 s 16) ++ byte_at s 18 ∷ []
