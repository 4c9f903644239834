-- Records, events: what a record says, by its kind.
use Rattle.std.specs.Prelude.{ℕ, Bool, if◌then◌else◌, ◌&&◌, List, [], ◌∷◌, ◌++◌, nat_le, nat_eq, get_or, Option, Some, None}
use Rattle.std.specs.Bool.{then_some}
use Rattle.std.specs.Option.{option_map}
use Rattle.units.specs.Units.{millis}
use Rattle.transitions.specs.Events.{event}
use Rattle.transitions.specs.Tasks.{mode_number}
use Rattle.transitions.specs.Types.{level_values, time_values}
use Rattle.transitions.specs.declared.events.Command.{Command}
use Rattle.transitions.specs.declared.events.Command.TheVariants as command
use Rattle.transitions.specs.declared.events.DeviceAnswer.{DeviceAnswer}
use Rattle.transitions.specs.declared.events.DeviceAnswer.TheVariants as device
use Rattle.transitions.specs.declared.events.Event.{Event}
use Rattle.transitions.specs.declared.events.EventKind.{EventKind}
use Rattle.transitions.specs.declared.events.EventKind.TheVariants as kind
use Rattle.transitions.specs.declared.options.CommandOptions.{CommandOptions}
use Rattle.transitions.specs.declared.types.Mode.{Mode}
use Rattle.transitions.specs.declared.types.Mode.TheVariants.{Up, Down}
use Rattle.records.specs.Written.{bit, known, kind_number}
use Rattle.records.specs.Bytes.{byte_at, clock_time, le16, le32, le64, tenths_at, is_flag, is_set, zeros_from, has_marks}

-- 0 up, 1 down
abbrev pub mode_of : Bool → Mode
mode_of down = if down then Down else Up

abbrev pub mode_at : ℕ → Option Mode
mode_at byte = then_some (nat_le byte 1) (mode_of (nat_eq byte 1))

-- the byte with on/off, the mask and the override
abbrev pub options_of : ℕ → ℕ → ℕ → CommandOptions
options_of with_on_off mask over = record {
  with_on_off = nat_eq with_on_off 1;
  options_mask = record { 0 = mask };
  options_override = record { 0 = over };
}

abbrev pub command_options : ℕ → ℕ → ℕ → Option CommandOptions
command_options with_on_off mask over = then_some (nat_le with_on_off 1) (options_of with_on_off mask over)

-- The kinds: what each says from byte 12 on, where its flags and its unnamed bytes are right.

abbrev pub move_to_level : List ℕ → Option Command
move_to_level s = then_some (is_flag s 12 && is_flag s 14 && zeros_from s 19) (command.MoveToLevel (record {
  level = byte_at s 13;
  transition_time = then_some (is_set s 14) (tenths_at s 15);
  options = options_of (byte_at s 12) (byte_at s 17) (byte_at s 18);
}))

abbrev pub move : List ℕ → Option Command
move s = then_some (is_flag s 12 && is_flag s 13 && is_flag s 14 && zeros_from s 18) (command.Move (record {
  mode = mode_of (is_set s 13);
  rate = then_some (is_set s 14) (byte_at s 15);
  options = options_of (byte_at s 12) (byte_at s 16) (byte_at s 17);
}))

abbrev pub step : List ℕ → Option Command
step s = then_some (is_flag s 12 && is_flag s 13 && is_flag s 15) (command.Step (record {
  mode = mode_of (is_set s 13);
  step_size = byte_at s 14;
  transition_time = then_some (is_set s 15) (tenths_at s 16);
  options = options_of (byte_at s 12) (byte_at s 18) (byte_at s 19);
}))

abbrev pub stop : List ℕ → Option Command
stop s = then_some (is_flag s 12 && zeros_from s 15) (command.Stop (options_of (byte_at s 12) (byte_at s 13) (byte_at s 14)))

-- 0 level, 1 missing, 2 failed
abbrev pub answer_at : List ℕ → DeviceAnswer
answer_at s =
    if nat_eq (byte_at s 12) 0 then device.Level (byte_at s 13) else if nat_eq (byte_at s 12) 1 then device.Missing else device.Failed

abbrev pub answer : List ℕ → Option DeviceAnswer
answer s = then_some (nat_le (byte_at s 12) 2 && zeros_from s 14) (answer_at s)

abbrev pub on_off_changed : List ℕ → Option Command
on_off_changed s = then_some (is_flag s 12 && zeros_from s 13) (command.OnOffChanged (is_set s 12))

abbrev pub scene : List ℕ → Option Command
scene s = then_some (is_flag s 12 && zeros_from s 18) (command.Scene (record {
  level = then_some (is_set s 12) (byte_at s 13);
  transition_time = millis (le32 s 14);
}))

abbrev pub device_update : List ℕ → Option Command
device_update s = then_some (zeros_from s 13) (command.DeviceUpdate (byte_at s 12))

-- no byte from 12 on is named
abbrev pub bare : {A : Type 0} → List ℕ → A → Option A
bare s what = then_some (zeros_from s 12) what

-- of the three setters: whether it is known, and the value
abbrev pub known_value : List ℕ → Option (Option ℕ)
known_value s = then_some (is_flag s 12 && zeros_from s 14) (then_some (is_set s 12) (byte_at s 13))

abbrev pub of_command : Option Command → Option EventKind
of_command c = option_map kind.Command c

-- a record read as each of the kinds, in the order of their numbers from 0 on
abbrev pub kinds : List ℕ → List (Option EventKind)
kinds s =
    bare s kind.StartUp
    ∷ of_command (move_to_level s)
    ∷ of_command (move s)
    ∷ of_command (step s)
    ∷ of_command (stop s)
    ∷ option_map kind.Answer (answer s)
    ∷ bare s kind.Wake
    ∷ of_command (on_off_changed s)
    ∷ of_command (scene s)
    ∷ of_command (device_update s)
    ∷ of_command (bare s command.DeviceStop)
    ∷ of_command (option_map command.SetOnLevel (known_value s))
    ∷ of_command (option_map command.SetDefaultMoveRate (known_value s))
    ∷ of_command (option_map command.SetStartUpCurrentLevel (known_value s))
    ∷ of_command (bare s command.FactoryReset)
    ∷ []

-- byte 2 says which of the kinds
unfoldable pub kind_read : List ℕ → Option EventKind
kind_read s = get_or (kinds s) (byte_at s 2) None

-- what a record is read as, for every list of bytes
unfoldable pub event_read : List ℕ → Option Event
event_read s =
    if has_marks s 0x45 && is_flag s 3 then option_map (event (clock_time s) (is_set s 3)) (kind_read s) else None

-- its number: 0 where it is an event
abbrev pub event_read_number : Option Event → ℕ
event_read_number (Some e) = 0
event_read_number None = 1

-- The values that are read: what a kind says, in the order of its bytes; before a value that may be missing, whether it is known.

abbrev option_values : CommandOptions → List ℕ
option_values options = options.options_mask.0 ∷ options.options_override.0 ∷ []

abbrev answer_values : DeviceAnswer → List ℕ
answer_values (device.Level l) = 0 ∷ l ∷ []
answer_values device.Missing = 1 ∷ []
answer_values device.Failed = 2 ∷ []

abbrev pub kind_values : EventKind → List ℕ
kind_values kind.StartUp = []
kind_values (kind.Command (command.MoveToLevel r)) = bit r.options.with_on_off ∷ r.level ∷ known r.transition_time ∷ time_values r.transition_time ++ option_values r.options
kind_values (kind.Command (command.Move r)) = bit r.options.with_on_off ∷ mode_number r.mode ∷ known r.rate ∷ level_values r.rate ++ option_values r.options
kind_values (kind.Command (command.Step r)) =
    bit r.options.with_on_off ∷ mode_number r.mode ∷ r.step_size ∷ known r.transition_time ∷ time_values r.transition_time ++ option_values r.options
kind_values (kind.Command (command.Stop options)) = bit options.with_on_off ∷ option_values options
kind_values (kind.Answer a) = answer_values a
kind_values kind.Wake = []
kind_values (kind.Command (command.OnOffChanged on)) = bit on ∷ []
kind_values (kind.Command (command.Scene r)) = known r.level ∷ level_values r.level ++ r.transition_time.0 ∷ []
kind_values (kind.Command (command.DeviceUpdate l)) = l ∷ []
kind_values (kind.Command command.DeviceStop) = []
kind_values (kind.Command (command.SetOnLevel l)) = known l ∷ level_values l
kind_values (kind.Command (command.SetDefaultMoveRate r)) = known r ∷ level_values r
kind_values (kind.Command (command.SetStartUpCurrentLevel l)) = known l ∷ level_values l
kind_values (kind.Command command.FactoryReset) = []

-- the number of its kind, its time, its on/off value, and what its kind says
abbrev pub event_read_values : Option Event → List ℕ
event_read_values (Some e) = kind_number e.kind ∷ e.moment.at.0 ∷ bit e.moment.on_off ∷ kind_values e.kind
event_read_values None = []

-- the same, as they stand in the bytes

-- a flag, and the value that it says is known
abbrev known_at : List ℕ → ℕ → ℕ → List ℕ
known_at s flag value = byte_at s flag ∷ (if is_set s flag then value ∷ [] else [])

-- of each of the kinds, in the order of their numbers from 0 on
abbrev pub kind_values_at : List ℕ → List (List ℕ)
kind_values_at s =
    []
    ∷ (byte_at s 12 ∷ byte_at s 13 ∷ known_at s 14 (le16 s 15) ++ byte_at s 17 ∷ byte_at s 18 ∷ [])
    ∷ (byte_at s 12 ∷ byte_at s 13 ∷ known_at s 14 (byte_at s 15) ++ byte_at s 16 ∷ byte_at s 17 ∷ [])
    ∷ (byte_at s 12 ∷ byte_at s 13 ∷ byte_at s 14 ∷ known_at s 15 (le16 s 16) ++ byte_at s 18 ∷ byte_at s 19 ∷ [])
    ∷ (byte_at s 12 ∷ byte_at s 13 ∷ byte_at s 14 ∷ [])
    ∷ (byte_at s 12 ∷ (if nat_eq (byte_at s 12) 0 then byte_at s 13 ∷ [] else []))
    ∷ []
    ∷ (byte_at s 12 ∷ [])
    ∷ (known_at s 12 (byte_at s 13) ++ le32 s 14 ∷ [])
    ∷ (byte_at s 12 ∷ [])
    ∷ []
    ∷ known_at s 12 (byte_at s 13)
    ∷ known_at s 12 (byte_at s 13)
    ∷ known_at s 12 (byte_at s 13)
    ∷ []
    ∷ []

abbrev pub event_values_at : List ℕ → List ℕ
event_values_at s = byte_at s 2 ∷ le64 s 4 ∷ byte_at s 3 ∷ get_or (kind_values_at s) (byte_at s 2) []
