-- The tokens of the one text of settings and of an event.
use Rattle.std.specs.Prelude.{ℕ, ◌*◌, Bool, cond, if◌then◌else◌, List, [], ◌∷◌, ◌++◌, nat_eq, Option, Some, None}
use Rattle.units.specs.Units.{micros}
use Rattle.units.specs.declared.Millis.{Millis}
use Rattle.units.specs.declared.Tenths.{Tenths}
use Rattle.transitions.specs.Types.{Time}
use Rattle.transitions.specs.declared.events.Command.{Command}
use Rattle.transitions.specs.declared.events.Command.TheVariants as command
use Rattle.transitions.specs.declared.events.DeviceAnswer.{DeviceAnswer}
use Rattle.transitions.specs.declared.events.DeviceAnswer.TheVariants as device
use Rattle.transitions.specs.declared.events.Event.{Event}
use Rattle.transitions.specs.declared.events.EventKind.{EventKind}
use Rattle.transitions.specs.declared.events.EventKind.TheVariants as kind
use Rattle.transitions.specs.declared.options.CommandOptions.{CommandOptions}
use Rattle.transitions.specs.declared.settings.Settings.{Settings}
use Rattle.words.specs.Spelling.{command_verb, direction_name, on_off_name}
use Rattle.words.specs.declared.names.Name.{Name}
use Rattle.words.specs.declared.names.Name.TheVariants as name
use Rattle.words.specs.declared.names.Verb.{Verb}
use Rattle.words.specs.declared.names.Verb.TheVariants.{StartUp, Answer, Wake, Command as OfCommand}
use Rattle.words.specs.declared.tokens.Token.{Token}
use Rattle.words.specs.declared.tokens.Token.TheVariants as token

abbrev pub tenths_token : Tenths → Token
tenths_token t = token.Time (micros (t.0 * 100000))

abbrev pub millis_token : Millis → Token
millis_token t = token.Time (micros (t.0 * 1000))

abbrev pub byte_tokens : Name → Option ℕ → List Token
byte_tokens n (Some x) = token.Name n ∷ token.Number x ∷ []
byte_tokens n None = []

abbrev pub time_tokens : Name → Time → List Token
time_tokens n (Some t) = token.Name n ∷ tenths_token t ∷ []
time_tokens n None = []

abbrev pub positive_byte_tokens : Name → ℕ → List Token
positive_byte_tokens n x = if nat_eq x 0 then [] else token.Name n ∷ token.Number x ∷ []

abbrev pub positive_time_tokens : Name → Tenths → List Token
positive_time_tokens n t = if nat_eq t.0 0 then [] else token.Name n ∷ tenths_token t ∷ []

abbrev pub flag_tokens : Name → Bool → List Token
flag_tokens n is = cond is (token.Name n ∷ []) []

abbrev pub options_tokens : CommandOptions → List Token
options_tokens o = positive_byte_tokens name.Mask o.options_mask.0 ++ positive_byte_tokens name.Override o.options_override.0

abbrev pub answer_token : DeviceAnswer → Token
answer_token (device.Level l) = token.Number l
answer_token device.Missing = token.Name name.Null
answer_token device.Failed = token.Name name.Failed

abbrev pub byte_or_null_token : Option ℕ → Token
byte_or_null_token (Some x) = token.Number x
byte_or_null_token None = token.Name name.Null

abbrev pub command_tokens : Command → List Token
command_tokens (command.MoveToLevel r) = token.Number r.level ∷ (time_tokens name.In r.transition_time ++ options_tokens r.options)
command_tokens (command.Move r) = token.Name (direction_name r.mode) ∷ (byte_tokens name.Rate r.rate ++ options_tokens r.options)
command_tokens (command.Step r) =
    token.Name (direction_name r.mode) ∷ token.Number r.step_size ∷ (time_tokens name.In r.transition_time ++ options_tokens r.options)
command_tokens (command.Stop o) = options_tokens o
command_tokens (command.OnOffChanged on) = token.Name (on_off_name on) ∷ []
command_tokens (command.Scene r) = byte_tokens name.Level r.level ++ (token.Name name.In ∷ millis_token r.transition_time ∷ [])
command_tokens (command.DeviceUpdate l) = token.Number l ∷ []
command_tokens command.DeviceStop = []
command_tokens (command.SetOnLevel l) = token.Name name.OnLevel ∷ byte_or_null_token l ∷ []
command_tokens (command.SetDefaultMoveRate r) = token.Name name.DefaultMoveRate ∷ byte_or_null_token r ∷ []
command_tokens (command.SetStartUpCurrentLevel l) = token.Name name.StartUpCurrentLevel ∷ byte_or_null_token l ∷ []
command_tokens command.FactoryReset = []

abbrev pub kind_verb : EventKind → Verb
kind_verb kind.StartUp = StartUp
kind_verb (kind.Answer a) = Answer
kind_verb kind.Wake = Wake
kind_verb (kind.Command c) = OfCommand (command_verb c)

abbrev pub argument_tokens : EventKind → List Token
argument_tokens kind.StartUp = []
argument_tokens (kind.Answer a) = answer_token a ∷ []
argument_tokens kind.Wake = []
argument_tokens (kind.Command c) = command_tokens c

abbrev pub event_tokens : Event → List Token
event_tokens e =
    token.Time e.moment.at ∷ token.Name (on_off_name e.moment.on_off) ∷ token.Verb (kind_verb e.kind) ∷ argument_tokens e.kind

abbrev pub settings_tokens : Settings → List Token
settings_tokens x =
    let a = x.attributes in
    token.Name name.Settings ∷ token.Name name.Min ∷ token.Number x.range.min ∷ token.Name name.Max ∷ token.Number x.range.max
    ∷ token.Name name.FastestRate ∷ token.Number x.fastest_rate
    ∷ (byte_tokens name.Level x.current_level
    ++ (byte_tokens name.OnLevel a.on_level
    ++ (byte_tokens name.StartUpCurrentLevel a.start_up_current_level
    ++ (byte_tokens name.DefaultMoveRate a.default_move_rate
    ++ (positive_time_tokens name.OnOffTransitionTime a.on_off_transition_time
    ++ (time_tokens name.OnTransitionTime a.on_transition_time
    ++ (time_tokens name.OffTransitionTime a.off_transition_time
    ++ (positive_byte_tokens name.Options a.options.0
    ++ (flag_tokens name.Coupled x.coupled
    ++ flag_tokens name.Lighting x.lighting)))))))))
