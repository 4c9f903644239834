-- The grammar: an event's line.
use Rattle.std.specs.Prelude.{ℕ, Bool, true, false, if◌then◌else◌, List, nat_eq, Option, Some, None, Result}
use Rattle.units.specs.declared.Micros.{Micros}
use Rattle.units.specs.declared.Millis.{Millis}
use Rattle.transitions.specs.Types.{Time}
use Rattle.transitions.specs.declared.events.Command.{Command}
use Rattle.transitions.specs.declared.events.Command.TheVariants as command
use Rattle.transitions.specs.declared.events.Event.{Event}
use Rattle.transitions.specs.declared.events.EventKind.{EventKind}
use Rattle.transitions.specs.declared.events.EventKind.TheVariants as kind
use Rattle.transitions.specs.declared.options.CommandOptions.{CommandOptions}
use Rattle.transitions.specs.declared.types.Mode.{Mode}
use Rattle.words.specs.Values.{Reader, alone, both, made, one, ended, ◌>>=◌, answer, byte, byte_or_null, clock_time, direction, keyword, named_byte, on_off, optional_byte, optional_time, scene_time, verb}
use Rattle.words.specs.declared.fault.Expected.{Expected}
use Rattle.words.specs.declared.fault.Expected.TheVariants as expected
use Rattle.words.specs.declared.fault.WordFault.{WordFault}
use Rattle.words.specs.declared.names.Name.{Name}
use Rattle.words.specs.declared.names.Name.TheVariants as name
use Rattle.words.specs.declared.names.Attribute.{Attribute}
use Rattle.words.specs.declared.names.Attribute.TheVariants as set
use Rattle.words.specs.declared.names.CommandVerb.{CommandVerb}
use Rattle.words.specs.declared.names.CommandVerb.TheVariants as verb
use Rattle.words.specs.declared.names.Verb.{Verb}
use Rattle.words.specs.declared.names.Verb.TheVariants.{StartUp, Answer, Wake, Command as OfCommand}
use Rattle.words.specs.declared.tokens.Token.{Token}
use Rattle.words.specs.declared.tokens.Token.TheVariants as token

-- mask and override
abbrev pub options_from : Bool → ℕ × ℕ → CommandOptions
options_from with_on_off bits = record { with_on_off = with_on_off; options_mask = record { 0 = bits.0 }; options_override = record { 0 = bits.1 } }

unfoldable pub options : Bool → Reader CommandOptions
options with_on_off ts at = made (options_from with_on_off) (both (named_byte name.Mask) (λ mask. named_byte name.Override)) ts at

abbrev pub move_to_level_from : ℕ × (Time × CommandOptions) → Command
move_to_level_from x = command.MoveToLevel (record { level = x.0; transition_time = x.1.0; options = x.1.1 })

unfoldable pub move_to_level : Bool → Reader Command
move_to_level with_on_off ts at = made move_to_level_from (both byte (λ level. both (optional_time name.In) (λ time. options with_on_off))) ts at

abbrev pub move_from : Mode × (Option ℕ × CommandOptions) → Command
move_from x = command.Move (record { mode = x.0; rate = x.1.0; options = x.1.1 })

unfoldable pub move_on : Bool → Reader Command
move_on with_on_off ts at = made move_from (both direction (λ mode. both (optional_byte name.Rate) (λ rate. options with_on_off))) ts at

abbrev pub step_from : Mode × (ℕ × (Time × CommandOptions)) → Command
step_from x = command.Step (record { mode = x.0; step_size = x.1.0; transition_time = x.1.1.0; options = x.1.1.1 })

unfoldable pub step : Bool → Reader Command
step with_on_off ts at =
    made step_from (both direction (λ mode. both byte (λ size. both (optional_time name.In) (λ time. options with_on_off)))) ts at

unfoldable pub stop : Bool → Reader Command
stop with_on_off ts at = made (λ o. command.Stop o) (options with_on_off) ts at

unfoldable pub on_off_changed : Reader Command
on_off_changed ts at = made (λ on. command.OnOffChanged on) (on_off expected.OnOff) ts at

-- where a level may be named, that may come too
abbrev pub scene_in : Option ℕ → Expected
scene_in (Some level) = expected.In
scene_in None = expected.LevelOrIn

abbrev pub scene_from : Option ℕ × (Unit {0} × Millis) → Command
scene_from x = command.Scene (record { level = x.0; transition_time = x.1.1 })

unfoldable pub scene : Reader Command
scene ts at = made scene_from (both (optional_byte name.Level) (λ level. both (keyword name.In (scene_in level)) (λ u. scene_time))) ts at

unfoldable pub device_update : Reader Command
device_update ts at = made (λ level. command.DeviceUpdate level) byte ts at

-- the attribute that is written
abbrev pub attribute_of : Option Token → Option Attribute
attribute_of (Some (token.Name name.OnLevel)) = Some set.OnLevel
attribute_of (Some (token.Name name.DefaultMoveRate)) = Some set.DefaultMoveRate
attribute_of (Some (token.Name name.StartUpCurrentLevel)) = Some set.StartUpCurrentLevel
attribute_of t = None

unfoldable pub attribute : Reader Attribute
attribute ts at = one attribute_of expected.Attribute ts at

abbrev pub set_attribute : Attribute → Option ℕ → Command
set_attribute set.OnLevel value = command.SetOnLevel value
set_attribute set.DefaultMoveRate value = command.SetDefaultMoveRate value
set_attribute set.StartUpCurrentLevel value = command.SetStartUpCurrentLevel value

unfoldable pub written : Reader Command
written ts at = made (λ x. set_attribute x.0 x.1) (both attribute (λ a. byte_or_null)) ts at

-- what follows a verb, of a command
unfoldable pub command_after : CommandVerb → Reader Command
command_after verb.MoveToLevel ts at = move_to_level false ts at
command_after verb.MoveToLevelWithOnOff ts at = move_to_level true ts at
command_after verb.Move ts at = move_on false ts at
command_after verb.MoveWithOnOff ts at = move_on true ts at
command_after verb.Step ts at = step false ts at
command_after verb.StepWithOnOff ts at = step true ts at
command_after verb.Stop ts at = stop false ts at
command_after verb.StopWithOnOff ts at = stop true ts at
command_after verb.OnOff ts at = on_off_changed ts at
command_after verb.RecallScene ts at = scene ts at
command_after verb.DeviceUpdate ts at = device_update ts at
command_after verb.DeviceStop ts at = alone command.DeviceStop ts at
command_after verb.Write ts at = written ts at
command_after verb.FactoryReset ts at = alone command.FactoryReset ts at

abbrev pub kind_after : Verb → Reader EventKind
kind_after StartUp ts at = alone kind.StartUp ts at
kind_after Answer ts at = made (λ a. kind.Answer a) answer ts at
kind_after Wake ts at = alone kind.Wake ts at
kind_after (OfCommand v) ts at = made (λ c. kind.Command c) (command_after v) ts at

unfoldable pub kind_of : Reader EventKind
kind_of ts at = made (λ x. x.1) (both verb kind_after) ts at

abbrev pub event_from : Micros × (Bool × EventKind) → Event
event_from x = record { moment = record { at = x.0; on_off = x.1.0 }; kind = x.1.1 }

unfoldable pub event : Reader Event
event ts at = made event_from (both clock_time (λ time. both (on_off expected.Lamp) (λ lamp. kind_of))) ts at

-- What may still come behind a whole event.

abbrev pub further_options : CommandOptions → Name → Expected
further_options o first =
    if nat_eq o.options_override.0 0 then (if nat_eq o.options_mask.0 0 then expected.NameOrEnd first else expected.NameOrEnd name.Override)
    else expected.End

abbrev pub after_time : Time → Name
after_time (Some t) = name.Mask
after_time None = name.In

abbrev pub after_rate : Option ℕ → Name
after_rate (Some rate) = name.Mask
after_rate None = name.Rate

abbrev pub further_command : Command → Expected
further_command (command.MoveToLevel r) = further_options r.options (after_time r.transition_time)
further_command (command.Move r) = further_options r.options (after_rate r.rate)
further_command (command.Step r) = further_options r.options (after_time r.transition_time)
further_command (command.Stop o) = further_options o name.Mask
further_command c = expected.End

abbrev pub further : EventKind → Expected
further (kind.Command c) = further_command c
further k = expected.End

-- all of a line
unfoldable pub event_line : List Token → Result Event WordFault
event_line ts = event ts 0 >>= λ e. ended (further e.0.kind) e.0 ts e.1
