-- Records, as laws for every list of bytes, by which the definitions of this folder can be believed.
use Rattle.std.specs.Prelude.{ℕ, ◌+◌, ◌/◌, ◌%◌, ◌^◌, ◌≤◌, ◌<◌, Bool, false, ◌&&◌, ◌≡◌, ◌↔◌, List, [], ◌∷◌, nat_lt, nat_eq, get_or, Some, Ok}
use Rattle.units.specs.Units.{micros}
use Rattle.transitions.specs.Causes.{first_cause, no_command_tests, no_turn_tests}
use Rattle.transitions.specs.declared.causes.Tests.{Tests}
use Rattle.transitions.specs.declared.events.Event.{Event}
use Rattle.transitions.specs.declared.settings.Settings.{Settings}
use Rattle.records.specs.Bytes.{byte_at, low_first, le16, le32, le64, is_set}
use Rattle.records.specs.SettingsRecord.{settings_wrong, settings_read, settings_read_number}
use Rattle.records.specs.EventRecord.{event_read, event_read_number}
use Rattle.records.specs.Layout.{layout, settings_layout, event_layouts, Keeps, Marked, MissingInEvent, MissingInSettings, SameBut}
use Rattle.records.specs.Written.{kind_number, event_record, EventFits, settings_record, SettingsFit, Allowed}

abbrev pub AllBytes : List ℕ → Type 0
AllBytes [] = Unit {0}
AllBytes (b ∷ s) = (b < 256) × AllBytes s

-- byte k of a number, from its low end
abbrev pub byte_of : ℕ → ℕ → ℕ
byte_of x k = x / 256 ^ k % 256

-- the tests of settings in the table of causes, 1 to 4; no other is made
abbrev pub settings_causes : Bool → Bool → Bool → Bool → Tests
settings_causes wrong above under dark = record {
  call = record { record_wrong = wrong; max_above_254 = above; min_above_max = under; lighting_min_0 = dark; output_short = false };
  turn = no_turn_tests;
  command = no_command_tests;
}

-- MAX above 254, MIN above MAX, MIN 0 with lighting
abbrev pub settings_tests : List ℕ → Tests
settings_tests s = settings_causes (settings_wrong s) (nat_lt 254 (byte_at s 3)) (nat_lt (byte_at s 3) (byte_at s 2)) (nat_eq (byte_at s 18) 1 && nat_eq (byte_at s 2) 0)

pub record Laws : Type 0 where
  -- low byte first: byte k of a number is the record's byte k places on, and it has no more of them
  pub low_first_bytes : (n : ℕ) (s : List ℕ) (at k : ℕ) → AllBytes s → k < n → byte_of (low_first n s at) k ≡ byte_at s (at + k)
  pub below : (n : ℕ) (s : List ℕ) (at : ℕ) → AllBytes s → low_first n s at < 256 ^ n
  pub below_16 : (s : List ℕ) (at : ℕ) → AllBytes s → le16 s at < 2 ^ 16
  pub below_32 : (s : List ℕ) (at : ℕ) → AllBytes s → le32 s at < 2 ^ 32
  pub below_64 : (s : List ℕ) (at : ℕ) → AllBytes s → le64 s at < 2 ^ 64
  -- a settings record is wrong exactly if it lacks 20 bytes or its marks, or does not keep its layout
  pub settings_right : (s : List ℕ) → (settings_wrong s ≡ false) ↔ (Marked s 0x47 × Keeps s settings_layout)
  -- its number is that of the first cause that applies
  pub settings_number : (s : List ℕ) → settings_read_number (settings_read s) ≡ first_cause (settings_tests s)
  -- a record is an event exactly if it has 20 bytes and its marks, byte 3 is a flag, byte 2 is a kind, and it keeps that kind's layout
  pub event_right : (s : List ℕ)
      → (event_read_number (event_read s) ≡ 0)
      ↔ (Marked s 0x45 × (byte_at s 3 ≤ 1) × (byte_at s 2 < 15) × Keeps s (get_or event_layouts (byte_at s 2) (layout [] 0)))
  -- the event then has the record's kind, time and on/off value
  pub event_head : (s : List ℕ) (e : Event) → event_read s ≡ Some e
      → (kind_number e.kind ≡ byte_at s 2) × (e.moment.at ≡ micros (le64 s 4)) × (e.moment.on_off ≡ is_set s 3)
  -- a value marked missing is ignored: two records that differ in its bytes alone are read the same
  pub event_ignores : (s t : List ℕ) (from to : ℕ) → MissingInEvent s from to → SameBut from to s t → event_read s ≡ event_read t
  pub settings_ignores : (s t : List ℕ) (from to : ℕ) → MissingInSettings s from to → SameBut from to s t → settings_read s ≡ settings_read t
  -- what is read from bytes fits its bytes, and settings that are read are allowed
  pub settings_fit : (s : List ℕ) (x : Settings) → AllBytes s → settings_read s ≡ Ok x → SettingsFit x × Allowed x
  pub event_fits : (s : List ℕ) (e : Event) → AllBytes s → event_read s ≡ Some e → EventFits e
  -- and all such settings and events are read again from the record that Records gives them
  pub settings_written : (x : Settings) → SettingsFit x → Allowed x → settings_read (settings_record x) ≡ Ok x
  pub event_written : (e : Event) → EventFits e → event_read (event_record e) ≡ Some e
