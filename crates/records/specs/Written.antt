-- Records: the record of an event and of settings, as a caller writes it. Laws.antt says that reading it gives them back.
use Rattle.std.specs.Prelude.{ℕ, zero, suc, ◌+◌, ◌*◌, ◌/◌, ◌%◌, ◌^◌, ◌≤◌, ◌<◌, Bool, true, cond, ◌≡◌, List, [], ◌∷◌, ◌++◌, take, replicate, Option, Some, None, is_some, unwrap_or}
use Rattle.transitions.specs.declared.events.Command.TheVariants as command
use Rattle.transitions.specs.declared.events.DeviceAnswer.{DeviceAnswer}
use Rattle.transitions.specs.declared.events.DeviceAnswer.TheVariants as device
use Rattle.transitions.specs.declared.events.Event.{Event}
use Rattle.transitions.specs.declared.events.EventKind.{EventKind}
use Rattle.transitions.specs.declared.events.EventKind.TheVariants as kind
use Rattle.transitions.specs.declared.options.CommandOptions.{CommandOptions}
use Rattle.transitions.specs.declared.settings.Settings.{Settings}
use Rattle.transitions.specs.declared.types.Mode.{Mode}
use Rattle.transitions.specs.declared.types.Mode.TheVariants.{Up, Down}
use Rattle.transitions.specs.Types.{Time}

-- n bytes of a number, low byte first
abbrev pub bytes_of : ℕ → ℕ → List ℕ
bytes_of zero x = []
bytes_of (suc n) x = x % 256 ∷ bytes_of n (x / 256)

abbrev pub bit : Bool → ℕ
bit b = cond b 1 0

-- whether a value is known; the value, 0 where it is missing
abbrev pub known : {A : Type 0} → Option A → ℕ
known value = bit (is_some value)

abbrev pub value_byte : Option ℕ → ℕ
value_byte value = unwrap_or value 0

abbrev pub time_tenths : Time → ℕ
time_tenths (Some t) = t.0
time_tenths None = 0

abbrev pub mode_byte : Mode → ℕ
mode_byte Up = 0
mode_byte Down = 1

abbrev pub answer_bytes : DeviceAnswer → List ℕ
answer_bytes (device.Level l) = 0 ∷ l ∷ []
answer_bytes device.Missing = 1 ∷ 0 ∷ []
answer_bytes device.Failed = 2 ∷ 0 ∷ []

-- the number that byte 2 has for a kind
abbrev pub kind_number : EventKind → ℕ
kind_number kind.StartUp = 0
kind_number (kind.Command (command.MoveToLevel r)) = 1
kind_number (kind.Command (command.Move r)) = 2
kind_number (kind.Command (command.Step r)) = 3
kind_number (kind.Command (command.Stop options)) = 4
kind_number (kind.Answer a) = 5
kind_number kind.Wake = 6
kind_number (kind.Command (command.OnOffChanged on)) = 7
kind_number (kind.Command (command.Scene r)) = 8
kind_number (kind.Command (command.DeviceUpdate l)) = 9
kind_number (kind.Command command.DeviceStop) = 10
kind_number (kind.Command (command.SetOnLevel l)) = 11
kind_number (kind.Command (command.SetDefaultMoveRate r)) = 12
kind_number (kind.Command (command.SetStartUpCurrentLevel l)) = 13
kind_number (kind.Command command.FactoryReset) = 14

-- the bytes from 12 on that have a name
abbrev pub named : EventKind → List ℕ
named kind.StartUp = []
named (kind.Command (command.MoveToLevel r)) =
    bit r.options.with_on_off ∷ r.level ∷ known r.transition_time
    ∷ bytes_of 2 (time_tenths r.transition_time) ++ (r.options.options_mask.0 ∷ r.options.options_override.0 ∷ [])
named (kind.Command (command.Move r)) =
    bit r.options.with_on_off ∷ mode_byte r.mode ∷ known r.rate ∷ value_byte r.rate ∷ r.options.options_mask.0 ∷ r.options.options_override.0 ∷ []
named (kind.Command (command.Step r)) =
    bit r.options.with_on_off ∷ mode_byte r.mode ∷ r.step_size ∷ known r.transition_time
    ∷ bytes_of 2 (time_tenths r.transition_time) ++ (r.options.options_mask.0 ∷ r.options.options_override.0 ∷ [])
named (kind.Command (command.Stop options)) = bit options.with_on_off ∷ options.options_mask.0 ∷ options.options_override.0 ∷ []
named (kind.Answer a) = answer_bytes a
named kind.Wake = []
named (kind.Command (command.OnOffChanged on)) = bit on ∷ []
named (kind.Command (command.Scene r)) = known r.level ∷ value_byte r.level ∷ bytes_of 4 r.transition_time.0
named (kind.Command (command.DeviceUpdate l)) = l ∷ []
named (kind.Command command.DeviceStop) = []
named (kind.Command (command.SetOnLevel l)) = known l ∷ value_byte l ∷ []
named (kind.Command (command.SetDefaultMoveRate r)) = known r ∷ value_byte r ∷ []
named (kind.Command (command.SetStartUpCurrentLevel l)) = known l ∷ value_byte l ∷ []
named (kind.Command command.FactoryReset) = []

-- all 20 bytes; unnamed bytes are 0
abbrev pub event_record : Event → List ℕ
event_record e = take 20 (0x4C ∷ 0x45 ∷ kind_number e.kind ∷ bit e.moment.on_off ∷ bytes_of 8 e.moment.at.0 ++ named e.kind ++ replicate 8 0)

-- known bits 0 to 5: level, on level, start-up level, default rate, on time, off time
abbrev pub known_bits : Settings → ℕ
known_bits x =
    let a = x.attributes in
    known x.current_level
    + 2 * known a.on_level
    + 4 * known a.start_up_current_level
    + 8 * known a.default_move_rate
    + 16 * known a.on_transition_time
    + 32 * known a.off_transition_time

abbrev pub settings_record : Settings → List ℕ
settings_record x =
    let a = x.attributes in
    0x4C ∷ 0x47 ∷ x.range.min ∷ x.range.max ∷ bit x.coupled ∷ a.options.0 ∷ x.fastest_rate
    ∷ value_byte x.current_level ∷ value_byte a.on_level ∷ value_byte a.start_up_current_level ∷ value_byte a.default_move_rate ∷ known_bits x
    ∷ bytes_of 2 a.on_off_transition_time.0 ++ bytes_of 2 (time_tenths a.on_transition_time) ++ bytes_of 2 (time_tenths a.off_transition_time)
    ++ (bit x.lighting ∷ 0 ∷ [])

-- Values that their bytes hold.

abbrev pub ByteFits : Option ℕ → Type 0
ByteFits (Some value) = value < 2 ^ 8
ByteFits None = Unit {0}

abbrev pub TimeFits : Time → Type 0
TimeFits (Some t) = t.0 < 2 ^ 16
TimeFits None = Unit {0}

abbrev pub AnswerFits : DeviceAnswer → Type 0
AnswerFits (device.Level l) = l < 2 ^ 8
AnswerFits device.Missing = Unit {0}
AnswerFits device.Failed = Unit {0}

abbrev pub OptionsFit : CommandOptions → Type 0
OptionsFit options = (options.options_mask.0 < 2 ^ 8) × (options.options_override.0 < 2 ^ 8)

abbrev pub KindFits : EventKind → Type 0
KindFits kind.StartUp = Unit {0}
KindFits (kind.Command (command.MoveToLevel r)) =
    (r.level < 2 ^ 8) × TimeFits r.transition_time × OptionsFit r.options
KindFits (kind.Command (command.Move r)) = ByteFits r.rate × OptionsFit r.options
KindFits (kind.Command (command.Step r)) =
    (r.step_size < 2 ^ 8) × TimeFits r.transition_time × OptionsFit r.options
KindFits (kind.Command (command.Stop options)) = OptionsFit options
KindFits (kind.Answer a) = AnswerFits a
KindFits kind.Wake = Unit {0}
KindFits (kind.Command (command.OnOffChanged on)) = Unit {0}
KindFits (kind.Command (command.Scene r)) = ByteFits r.level × (r.transition_time.0 < 2 ^ 32)
KindFits (kind.Command (command.DeviceUpdate l)) = l < 2 ^ 8
KindFits (kind.Command command.DeviceStop) = Unit {0}
KindFits (kind.Command (command.SetOnLevel l)) = ByteFits l
KindFits (kind.Command (command.SetDefaultMoveRate r)) = ByteFits r
KindFits (kind.Command (command.SetStartUpCurrentLevel l)) = ByteFits l
KindFits (kind.Command command.FactoryReset) = Unit {0}

pub record EventFits (e : Event) : Type 0 where
  pub time : e.moment.at.0 < 2 ^ 64
  pub kind : KindFits e.kind

pub record SettingsFit (x : Settings) : Type 0 where
  pub min_level_fits : x.range.min < 2 ^ 8
  pub max_level_fits : x.range.max < 2 ^ 8
  pub fastest_rate : x.fastest_rate < 2 ^ 8
  pub level : ByteFits x.current_level
  pub on_level : ByteFits x.attributes.on_level
  pub options : x.attributes.options.0 < 2 ^ 8
  pub common_time : x.attributes.on_off_transition_time.0 < 2 ^ 16
  pub on_time_fits : TimeFits x.attributes.on_transition_time
  pub off_time_fits : TimeFits x.attributes.off_transition_time
  pub default_rate : ByteFits x.attributes.default_move_rate
  pub start_up_level_fits : ByteFits x.attributes.start_up_current_level

-- settings that none of the numbers 2, 3 and 4 refuses
pub record Allowed (x : Settings) : Type 0 where
  pub max_at_most_254 : x.range.max ≤ 254
  pub min_at_most_max : x.range.min ≤ x.range.max
  pub lighting_not_0 : x.lighting ≡ true → 1 ≤ x.range.min
