-- The one text of settings and of an event.
use Rattle.std.specs.Prelude.{ℕ, zero, suc, ◌+◌, ◌/◌, ◌%◌, ◌^◌, Bool, cond, if◌then◌else◌, List, [], ◌∷◌, ◌++◌, nat_eq, Option, Some, None}
use Rattle.text.specs.Text.{digits}
use Rattle.units.specs.declared.Micros.{Micros}
use Rattle.units.specs.declared.Millis.{Millis}
use Rattle.units.specs.declared.Tenths.{Tenths}
use Rattle.transitions.specs.Types.{Time}
use Rattle.transitions.specs.declared.events.Command.{Command}
use Rattle.transitions.specs.declared.events.Command.TheVariants as command
use Rattle.transitions.specs.declared.events.DeviceAnswer.{DeviceAnswer}
use Rattle.transitions.specs.declared.events.DeviceAnswer.TheVariants as device
use Rattle.transitions.specs.declared.events.Event.{Event}
use Rattle.transitions.specs.declared.events.EventKind.{EventKind}
use Rattle.transitions.specs.declared.events.EventKind.TheVariants as kind
use Rattle.transitions.specs.declared.options.CommandOptions.{CommandOptions}
use Rattle.transitions.specs.declared.settings.Settings.{Settings}
use Rattle.transitions.specs.declared.types.Mode.{Mode}
use Rattle.transitions.specs.declared.types.Mode.TheVariants.{Up, Down}
use Rattle.words.specs.Names.{name_text, verb_text}
use Rattle.words.specs.declared.names.CommandVerb.{CommandVerb}
use Rattle.words.specs.declared.names.CommandVerb.TheVariants as verb
use Rattle.words.specs.declared.names.Name.{Name}
use Rattle.words.specs.declared.names.Name.TheVariants as name
use Rattle.words.specs.declared.names.Verb.TheVariants.{StartUp, Answer, Wake, Command as OfCommand}

-- Times, with so many digits behind the point.

-- the last k digits of a number
abbrev pub fraction : ℕ → ℕ → List ℕ
fraction zero n = []
fraction (suc k) n = (48 + n / 10 ^ k % 10) ∷ fraction k n

-- a number of units of which 10^k are a second
abbrev pub seconds_text : ℕ → ℕ → List ℕ
seconds_text k n = digits (n / 10 ^ k) ++ (46 ∷ (fraction k n ++ (115 ∷ [])))

abbrev pub micros_text : Micros → List ℕ
micros_text t = seconds_text 6 t.0

abbrev pub millis_text : Millis → List ℕ
millis_text t = seconds_text 3 t.0

abbrev pub tenths_text : Tenths → List ℕ
tenths_text t = seconds_text 1 t.0

-- Values that may be left out: their names, and they.

abbrev pub byte_words : Name → Option ℕ → List (List ℕ)
byte_words n (Some x) = name_text n ∷ digits x ∷ []
byte_words n None = []

abbrev pub time_words : Name → Time → List (List ℕ)
time_words n (Some t) = name_text n ∷ tenths_text t ∷ []
time_words n None = []

abbrev pub positive_byte_words : Name → ℕ → List (List ℕ)
positive_byte_words n x = if nat_eq x 0 then [] else name_text n ∷ digits x ∷ []

abbrev pub positive_time_words : Name → Tenths → List (List ℕ)
positive_time_words n t = if nat_eq t.0 0 then [] else name_text n ∷ tenths_text t ∷ []

abbrev pub flag_words : Name → Bool → List (List ℕ)
flag_words n is = cond is (name_text n ∷ []) []

abbrev pub options_words : CommandOptions → List (List ℕ)
options_words o = positive_byte_words name.Mask o.options_mask.0 ++ positive_byte_words name.Override o.options_override.0

-- Words that stand for a value.

abbrev pub on_off_name : Bool → Name
on_off_name on = cond on name.On name.Off

abbrev pub direction_name : Mode → Name
direction_name Up = name.Up
direction_name Down = name.Down

abbrev pub answer_word : DeviceAnswer → List ℕ
answer_word (device.Level l) = digits l
answer_word device.Missing = name_text name.Null
answer_word device.Failed = name_text name.Failed

abbrev pub byte_or_null_word : Option ℕ → List ℕ
byte_or_null_word (Some x) = digits x
byte_or_null_word None = name_text name.Null

-- An event.

abbrev pub command_verb : Command → CommandVerb
command_verb (command.MoveToLevel r) = cond r.options.with_on_off verb.MoveToLevelWithOnOff verb.MoveToLevel
command_verb (command.Move r) = cond r.options.with_on_off verb.MoveWithOnOff verb.Move
command_verb (command.Step r) = cond r.options.with_on_off verb.StepWithOnOff verb.Step
command_verb (command.Stop o) = cond o.with_on_off verb.StopWithOnOff verb.Stop
command_verb (command.OnOffChanged on) = verb.OnOff
command_verb (command.Scene r) = verb.RecallScene
command_verb (command.DeviceUpdate l) = verb.DeviceUpdate
command_verb command.DeviceStop = verb.DeviceStop
command_verb (command.SetOnLevel l) = verb.Write
command_verb (command.SetDefaultMoveRate r) = verb.Write
command_verb (command.SetStartUpCurrentLevel l) = verb.Write
command_verb command.FactoryReset = verb.FactoryReset

-- what stands behind the verb
abbrev pub command_words : Command → List (List ℕ)
command_words (command.MoveToLevel r) = digits r.level ∷ (time_words name.In r.transition_time ++ options_words r.options)
command_words (command.Move r) = name_text (direction_name r.mode) ∷ (byte_words name.Rate r.rate ++ options_words r.options)
command_words (command.Step r) =
    name_text (direction_name r.mode) ∷ digits r.step_size ∷ (time_words name.In r.transition_time ++ options_words r.options)
command_words (command.Stop o) = options_words o
command_words (command.OnOffChanged on) = name_text (on_off_name on) ∷ []
command_words (command.Scene r) = byte_words name.Level r.level ++ (name_text name.In ∷ millis_text r.transition_time ∷ [])
command_words (command.DeviceUpdate l) = digits l ∷ []
command_words command.DeviceStop = []
command_words (command.SetOnLevel l) = name_text name.OnLevel ∷ byte_or_null_word l ∷ []
command_words (command.SetDefaultMoveRate r) = name_text name.DefaultMoveRate ∷ byte_or_null_word r ∷ []
command_words (command.SetStartUpCurrentLevel l) = name_text name.StartUpCurrentLevel ∷ byte_or_null_word l ∷ []
command_words command.FactoryReset = []

abbrev pub kind_words : EventKind → List (List ℕ)
kind_words kind.StartUp = verb_text StartUp ∷ []
kind_words (kind.Answer a) = verb_text Answer ∷ answer_word a ∷ []
kind_words kind.Wake = verb_text Wake ∷ []
kind_words (kind.Command c) = verb_text (OfCommand (command_verb c)) ∷ command_words c

-- each word behind a space
abbrev pub spaced : List (List ℕ) → List ℕ
spaced [] = []
spaced (w ∷ ws) = (32 ∷ w) ++ spaced ws

-- two spaces between time, on/off value and event; no line feed
abbrev pub event_text : Event → List ℕ
event_text e =
    micros_text e.moment.at ++ (32 ∷ (spaced (name_text (on_off_name e.moment.on_off) ∷ []) ++ (32 ∷ spaced (kind_words e.kind))))

-- Settings.

-- two spaces before each setting
abbrev pub setting_text : List (List ℕ) → List ℕ
setting_text [] = []
setting_text (w ∷ ws) = 32 ∷ spaced (w ∷ ws)

abbrev pub settings_text : Settings → List ℕ
settings_text x =
    let a = x.attributes in
    name_text name.Settings
    ++ (setting_text (name_text name.Min ∷ digits x.range.min ∷ [])
    ++ (setting_text (name_text name.Max ∷ digits x.range.max ∷ [])
    ++ (setting_text (name_text name.FastestRate ∷ digits x.fastest_rate ∷ [])
    ++ (setting_text (byte_words name.Level x.current_level)
    ++ (setting_text (byte_words name.OnLevel a.on_level)
    ++ (setting_text (byte_words name.StartUpCurrentLevel a.start_up_current_level)
    ++ (setting_text (byte_words name.DefaultMoveRate a.default_move_rate)
    ++ (setting_text (positive_time_words name.OnOffTransitionTime a.on_off_transition_time)
    ++ (setting_text (time_words name.OnTransitionTime a.on_transition_time)
    ++ (setting_text (time_words name.OffTransitionTime a.off_transition_time)
    ++ (setting_text (positive_byte_words name.Options a.options.0)
    ++ (setting_text (flag_words name.Coupled x.coupled)
    ++ setting_text (flag_words name.Lighting x.lighting)))))))))))))
