-- The words that have a meaning, and how each is written.
use Rattle.std.specs.Prelude.{ℕ, List, [], ◌∷◌, Option, Some, None, codes}
use Rattle.std.specs.Str.{bytes_eq}
use Rattle.transitions.specs.Search.{first_where}
use Rattle.words.specs.declared.names.CommandVerb.{CommandVerb}
use Rattle.words.specs.declared.names.CommandVerb.TheVariants as command
use Rattle.words.specs.declared.names.Name.{Name}
use Rattle.words.specs.declared.names.Name.TheVariants as name
use Rattle.words.specs.declared.names.Verb.{Verb}
use Rattle.words.specs.declared.names.Verb.TheVariants as verb

abbrev pub command_text : CommandVerb → List ℕ
command_text command.MoveToLevel = codes "move-to-level"
command_text command.MoveToLevelWithOnOff = codes "move-to-level-with-on-off"
command_text command.Move = codes "move"
command_text command.MoveWithOnOff = codes "move-with-on-off"
command_text command.Step = codes "step"
command_text command.StepWithOnOff = codes "step-with-on-off"
command_text command.Stop = codes "stop"
command_text command.StopWithOnOff = codes "stop-with-on-off"
command_text command.OnOff = codes "onoff"
command_text command.RecallScene = codes "recall-scene"
command_text command.DeviceUpdate = codes "device-update"
command_text command.DeviceStop = codes "device-stop"
command_text command.Write = codes "write"
command_text command.FactoryReset = codes "factory-reset"

abbrev pub verb_text : Verb → List ℕ
verb_text verb.StartUp = codes "start-up"
verb_text verb.Answer = codes "answer"
verb_text verb.Wake = codes "wake"
verb_text (verb.Command v) = command_text v

abbrev pub name_text : Name → List ℕ
name_text name.On = codes "on"
name_text name.Off = codes "off"
name_text name.Up = codes "up"
name_text name.Down = codes "down"
name_text name.Null = codes "null"
name_text name.Failed = codes "failed"
name_text name.Rate = codes "rate"
name_text name.In = codes "in"
name_text name.Mask = codes "mask"
name_text name.Override = codes "override"
name_text name.Settings = codes "settings"
name_text name.Min = codes "min"
name_text name.Max = codes "max"
name_text name.FastestRate = codes "fastest-rate"
name_text name.Level = codes "level"
name_text name.OnLevel = codes "on-level"
name_text name.StartUpCurrentLevel = codes "start-up-current-level"
name_text name.DefaultMoveRate = codes "default-move-rate"
name_text name.OnOffTransitionTime = codes "on-off-transition-time"
name_text name.OnTransitionTime = codes "on-transition-time"
name_text name.OffTransitionTime = codes "off-transition-time"
name_text name.Options = codes "options"
name_text name.Coupled = codes "coupled"
name_text name.Lighting = codes "lighting"

abbrev pub verbs : List Verb
verbs =
    verb.StartUp ∷ verb.Answer ∷ verb.Wake ∷ verb.Command command.MoveToLevel ∷ verb.Command command.MoveToLevelWithOnOff ∷ verb.Command command.Move
    ∷ verb.Command command.MoveWithOnOff ∷ verb.Command command.Step ∷ verb.Command command.StepWithOnOff ∷ verb.Command command.Stop
    ∷ verb.Command command.StopWithOnOff ∷ verb.Command command.OnOff ∷ verb.Command command.RecallScene ∷ verb.Command command.DeviceUpdate
    ∷ verb.Command command.DeviceStop ∷ verb.Command command.Write ∷ verb.Command command.FactoryReset ∷ []

abbrev pub names : List Name
names =
    name.On ∷ name.Off ∷ name.Up ∷ name.Down ∷ name.Null ∷ name.Failed ∷ name.Rate ∷ name.In ∷ name.Mask ∷ name.Override ∷ name.Settings ∷ name.Min
    ∷ name.Max ∷ name.FastestRate ∷ name.Level ∷ name.OnLevel ∷ name.StartUpCurrentLevel ∷ name.DefaultMoveRate ∷ name.OnOffTransitionTime
    ∷ name.OnTransitionTime ∷ name.OffTransitionTime ∷ name.Options ∷ name.Coupled ∷ name.Lighting ∷ []

-- the first of a list that is written so
abbrev pub first_verb : List ℕ → List Verb → Option Verb
first_verb w vs = first_where (λ v. bytes_eq (verb_text v) w) (λ v. Some v) None vs

abbrev pub first_name : List ℕ → List Name → Option Name
first_name w ns = first_where (λ n. bytes_eq (name_text n) w) (λ n. Some n) None ns

unfoldable pub verb_of : List ℕ → Option Verb
verb_of w = first_verb w verbs

unfoldable pub name_of : List ℕ → Option Name
name_of w = first_name w names
