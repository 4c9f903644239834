-- The reader of an event's line, and its tokens.
use Rattle.std.proofs.Common.{ℕ, ◌≡◌, ◌<◌, ◌^◌, Bool, true, false, List, [], ◌∷◌, ◌++◌, refl, ap, arith, cond}
use Rattle.std.specs.Prelude.{Option, Some, None}
use mathlib.Core.Bool.{false≢true}
use Rattle.units.specs.Units.{millis}
use Rattle.transitions.specs.Types.{Time}
use Rattle.transitions.specs.declared.events.Command.{Command}
use Rattle.transitions.specs.declared.events.Command.TheVariants as command
use Rattle.transitions.specs.declared.events.DeviceAnswer.TheVariants as device
use Rattle.transitions.specs.declared.events.Event.{Event}
use Rattle.transitions.specs.declared.events.EventKind.{EventKind}
use Rattle.transitions.specs.declared.events.EventKind.TheVariants as kind
use Rattle.transitions.specs.declared.options.CommandOptions.{CommandOptions}
use Rattle.transitions.specs.declared.types.Mode.TheVariants.{Up}
use Rattle.records.specs.Written.{ByteFits, KindFits, OptionsFit, TimeFits}
use Rattle.words.specs.EventLine.{attribute, attribute_of, command_after, device_update, event, event_from, kind_after, kind_of, move_from, move_on, move_to_level, move_to_level_from, on_off_changed, options, options_from, scene, scene_from, scene_in, set_attribute, step, step_from, stop, written}
use Rattle.words.specs.Spelling.{command_verb}
use Rattle.words.specs.Values.{both, optional_byte, optional_time}
use Rattle.words.specs.declared.fault.Expected.TheVariants as expected
use Rattle.words.specs.declared.names.Attribute.{Attribute}
use Rattle.words.specs.declared.names.Attribute.TheVariants as set
use Rattle.words.specs.declared.names.CommandVerb.{CommandVerb}
use Rattle.words.specs.declared.names.CommandVerb.TheVariants as verb
use Rattle.words.specs.declared.names.Name.{Name}
use Rattle.words.specs.declared.names.Name.TheVariants as name
use Rattle.words.specs.declared.names.Verb.{Verb}
use Rattle.words.specs.declared.names.Verb.TheVariants.{StartUp, Answer, Wake, Command as OfCommand}
use Rattle.words.specs.declared.tokens.Token.{Token}
use Rattle.words.specs.declared.tokens.Token.TheVariants as token
use Rattle.words.proofs.Pieces.{From, Piece, any, before_end, both_piece, first_of, is_end, made_piece, one_piece, other}
use Rattle.words.proofs.Said.{argument_tokens, byte_or_null_token, byte_tokens, command_tokens, event_tokens, kind_verb, options_tokens, positive_byte_tokens, time_tokens}
use Rattle.words.proofs.ValueLaws.{Anything, Byte, alone_piece, answer_piece, byte_or_null_piece, byte_piece, clock_piece, direction_piece, keyword_piece, named_byte_piece, on_off_piece, optional_byte_piece, optional_time_piece, scene_time_piece, some_is, verb_piece}

anything_ends : (t : Option Token) → is_end t ≡ true → any t ≡ true
anything_ends t e = refl

pub no_name : (n : Name) (t : Option Token) → is_end t ≡ true → other n t ≡ true
no_name n (Some t) e = absurd (false≢true e)
no_name n None e = refl

-- What may follow a part: the end, or the names of the parts behind it.

pub first_append : (xs ys : List Token) (t : Option Token) → first_of (xs ++ ys) t ≡ first_of xs (first_of ys t)
first_append [] ys t = refl
first_append (x ∷ xs) ys t = refl

pub first_positive : (free : Option Token → Bool) (n : Name) (test : Bool) (more : List Token) (t : Option Token) → free t ≡ true → free (Some (token.Name n)) ≡ true
    → free (first_of (cond test [] (token.Name n ∷ more)) t) ≡ true
first_positive free n true more t h g = h
first_positive free n false more t h g = g

pub first_byte : (free : Option Token → Bool) (n : Name) (x : Option ℕ) (t : Option Token) → free t ≡ true → free (Some (token.Name n)) ≡ true
    → free (first_of (byte_tokens n x) t) ≡ true
first_byte free n (Some x) t h g = g
first_byte free n None t h g = h

pub first_time : (free : Option Token → Bool) (n : Name) (x : Time) (t : Option Token) → free t ≡ true → free (Some (token.Name n)) ≡ true
    → free (first_of (time_tokens n x) t) ≡ true
first_time free n (Some x) t h g = g
first_time free n None t h g = h

-- Options: mask, then override, then the end.

first_options : (free : Option Token → Bool) (o : CommandOptions) (t : Option Token) → free t ≡ true → free (Some (token.Name name.Mask)) ≡ true
    → free (Some (token.Name name.Override)) ≡ true → free (first_of (options_tokens o) t) ≡ true
first_options free o t h mask over =
    rw (first_append (positive_byte_tokens name.Mask o.options_mask.0) (positive_byte_tokens name.Override o.options_override.0) t)
    (first_positive free name.Mask _ _ _ (first_positive free name.Override _ _ t h over) mask)

abbrev pub OptionsOf : Bool → CommandOptions → Type 0
OptionsOf w o = (o.with_on_off ≡ w) × OptionsFit o

no_options : Bool → CommandOptions
no_options w = options_from w (0, 0)

no_options_fit : (w : Bool) → OptionsOf w (no_options w)
unfolding no_options
no_options_fit w = (refl, (omega arith, omega arith))

options_made : (w : Bool) (o : CommandOptions) → OptionsOf w o → From (options_from w) (λ x. Byte x.0 × Byte x.1) o
options_made w o h = record { value = (o.options_mask.0, o.options_override.0); fits = h.1; makes = rw (← h.0) refl }

pub options_piece : (w : Bool) → Piece (options w) options_tokens (OptionsOf w) is_end
unfolding options
options_piece w = made_piece (options_from w)
    (both_piece (named_byte_piece name.Mask) (λ mask h. before_end (named_byte_piece name.Override) (no_name name.Override)) (λ mask h. 0) (λ mask h. omega arith)
    (λ mask b g h t e. first_positive (other name.Mask) name.Override _ _ t (no_name name.Mask t e) refl))
    options_tokens (OptionsOf w) (λ x h. refl) (λ x h. (refl, h)) (options_made w)

-- Commands. Of a verb: the commands that it says.

abbrev pub MoveToLevelOf : Bool → Command → Type 0
MoveToLevelOf w (command.MoveToLevel r) = (r.options.with_on_off ≡ w) × KindFits (kind.Command (command.MoveToLevel r))
MoveToLevelOf w c = ⊥

abbrev pub MoveOf : Bool → Command → Type 0
MoveOf w (command.Move r) = (r.options.with_on_off ≡ w) × KindFits (kind.Command (command.Move r))
MoveOf w c = ⊥

abbrev pub StepOf : Bool → Command → Type 0
StepOf w (command.Step r) = (r.options.with_on_off ≡ w) × KindFits (kind.Command (command.Step r))
StepOf w c = ⊥

abbrev pub StopOf : Bool → Command → Type 0
StopOf w (command.Stop o) = (o.with_on_off ≡ w) × KindFits (kind.Command (command.Stop o))
StopOf w c = ⊥

abbrev pub Changed : Command → Type 0
Changed (command.OnOffChanged on) = Unit {0}
Changed c = ⊥

abbrev pub Recalled : Command → Type 0
Recalled (command.Scene r) = KindFits (kind.Command (command.Scene r))
Recalled c = ⊥

abbrev pub Updated : Command → Type 0
Updated (command.DeviceUpdate l) = KindFits (kind.Command (command.DeviceUpdate l))
Updated c = ⊥

abbrev pub Stopped : Command → Type 0
Stopped command.DeviceStop = Unit {0}
Stopped c = ⊥

abbrev pub Written : Command → Type 0
Written (command.SetOnLevel l) = ByteFits l
Written (command.SetDefaultMoveRate r) = ByteFits r
Written (command.SetStartUpCurrentLevel l) = ByteFits l
Written c = ⊥

abbrev pub Reset : Command → Type 0
Reset command.FactoryReset = Unit {0}
Reset c = ⊥

abbrev pub Own : CommandVerb → Command → Type 0
Own verb.MoveToLevel c = MoveToLevelOf false c
Own verb.MoveToLevelWithOnOff c = MoveToLevelOf true c
Own verb.Move c = MoveOf false c
Own verb.MoveWithOnOff c = MoveOf true c
Own verb.Step c = StepOf false c
Own verb.StepWithOnOff c = StepOf true c
Own verb.Stop c = StopOf false c
Own verb.StopWithOnOff c = StopOf true c
Own verb.OnOff c = Changed c
Own verb.RecallScene c = Recalled c
Own verb.DeviceUpdate c = Updated c
Own verb.DeviceStop c = Stopped c
Own verb.Write c = Written c
Own verb.FactoryReset c = Reset c

-- a time behind "in", then options

timed : (w : Bool) → Piece (both (optional_time name.In) (λ time. options w)) (λ x. time_tokens name.In x.0 ++ options_tokens x.1) (λ x. TimeFits x.0 × OptionsOf w x.1) is_end
timed w =
    both_piece (optional_time_piece name.In) (λ time h. options_piece w) (λ time h. no_options w) (λ time h. no_options_fit w)
    (λ time o h g t e. first_options (other name.In) o t (no_name name.In t e) refl refl)

no_time : (w : Bool) → Time × CommandOptions
no_time w = (None, no_options w)

no_time_fit : (w : Bool) → TimeFits (no_time w).0 × OptionsOf w (no_time w).1
unfolding no_time
no_time_fit w = (tt, no_options_fit w)

move_to_level_made : (w : Bool) (c : Command) → MoveToLevelOf w c → From move_to_level_from (λ x. Byte x.0 × (TimeFits x.1.0 × OptionsOf w x.1.1)) c
move_to_level_made w (command.MoveToLevel r) h =
    record { value = (r.level, (r.transition_time, r.options)); fits = (h.1.0, (h.1.1, (h.0, h.1.2))); makes = refl }
move_to_level_made w c h = absurd h

move_to_level_piece : (w : Bool) → Piece (move_to_level w) command_tokens (MoveToLevelOf w) is_end
unfolding move_to_level
move_to_level_piece w = made_piece move_to_level_from
    (both_piece byte_piece (λ level h. timed w) (λ level h. no_time w) (λ level h. no_time_fit w) (λ level x h g t e. refl))
    command_tokens (MoveToLevelOf w) (λ x h. refl) (λ x h. (h.1.1.0, (h.0, h.1.0, h.1.1.1))) (move_to_level_made w)

rated : (w : Bool) → Piece (both (optional_byte name.Rate) (λ rate. options w)) (λ x. byte_tokens name.Rate x.0 ++ options_tokens x.1) (λ x. ByteFits x.0 × OptionsOf w x.1) is_end
rated w =
    both_piece (optional_byte_piece name.Rate) (λ rate h. options_piece w) (λ rate h. no_options w) (λ rate h. no_options_fit w)
    (λ rate o h g t e. first_options (other name.Rate) o t (no_name name.Rate t e) refl refl)

move_made : (w : Bool) (c : Command) → MoveOf w c → From move_from (λ x. Anything x.0 × (ByteFits x.1.0 × OptionsOf w x.1.1)) c
move_made w (command.Move r) h = record { value = (r.mode, (r.rate, r.options)); fits = (tt, (h.1.0, (h.0, h.1.1))); makes = refl }
move_made w c h = absurd h

move_piece : (w : Bool) → Piece (move_on w) command_tokens (MoveOf w) is_end
unfolding move_on
move_piece w = made_piece move_from
    (both_piece direction_piece (λ mode h. rated w) (λ mode h. (None, no_options w)) (λ mode h. (tt, no_options_fit w)) (λ mode x h g t e. refl))
    command_tokens (MoveOf w) (λ x h. refl) (λ x h. (h.1.1.0, (h.1.0, h.1.1.1))) (move_made w)

step_made : (w : Bool) (c : Command) → StepOf w c → From step_from (λ x. Anything x.0 × (Byte x.1.0 × (TimeFits x.1.1.0 × OptionsOf w x.1.1.1))) c
step_made w (command.Step r) h =
    record { value = (r.mode, (r.step_size, (r.transition_time, r.options))); fits = (tt, (h.1.0, (h.1.1, (h.0, h.1.2)))); makes = refl }
step_made w c h = absurd h

step_piece : (w : Bool) → Piece (step w) command_tokens (StepOf w) is_end
unfolding step
step_piece w = made_piece step_from
    (both_piece direction_piece
    (λ mode h. both_piece byte_piece (λ size h. timed w) (λ size h. no_time w) (λ size h. no_time_fit w) (λ size x h g t e. refl))
    (λ mode h. (0, no_time w)) (λ mode h. (omega arith, no_time_fit w)) (λ mode x h g t e. refl))
    command_tokens (StepOf w) (λ x h. refl) (λ x h. (h.1.1.1.0, (h.1.0, h.1.1.0, h.1.1.1.1))) (step_made w)

stop_made : (w : Bool) (c : Command) → StopOf w c → From (λ o. command.Stop o) (OptionsOf w) c
stop_made w (command.Stop o) h = record { value = o; fits = h; makes = refl }
stop_made w c h = absurd h

stop_piece : (w : Bool) → Piece (stop w) command_tokens (StopOf w) is_end
unfolding stop
stop_piece w = made_piece (λ o. command.Stop o) (options_piece w) command_tokens (StopOf w) (λ o h. refl) (λ o h. h) (stop_made w)

changed_made : (c : Command) → Changed c → From (λ on. command.OnOffChanged on) Anything c
changed_made (command.OnOffChanged on) h = record { value = on; fits = tt; makes = refl }
changed_made c h = absurd h

changed_piece : Piece on_off_changed command_tokens Changed is_end
unfolding on_off_changed
changed_piece =
    made_piece (λ on. command.OnOffChanged on) (before_end (on_off_piece expected.OnOff) anything_ends) command_tokens Changed (λ on h. refl) (λ on h. tt) changed_made

scene_made : (c : Command) → Recalled c → From scene_from (λ x. ByteFits x.0 × (Anything x.1.0 × (x.1.1.0 < 2 ^ 32))) c
scene_made (command.Scene r) h = record { value = (r.level, (tt, r.transition_time)); fits = (h.0, (tt, h.1)); makes = refl }
scene_made c h = absurd h

scene_piece : Piece scene command_tokens Recalled is_end
unfolding scene
scene_piece = made_piece scene_from
    (both_piece (optional_byte_piece name.Level)
    (λ level h. both_piece (keyword_piece name.In (scene_in level)) (λ u h. before_end scene_time_piece anything_ends) (λ u h. millis 0) (λ u h. omega arith) (λ u x h g t e. refl))
    (λ level h. (tt, millis 0)) (λ level h. (tt, omega arith)) (λ level x h g t e. refl))
    command_tokens Recalled (λ x h. refl) (λ x h. (h.0, h.1.1)) scene_made

update_made : (c : Command) → Updated c → From (λ l. command.DeviceUpdate l) Byte c
update_made (command.DeviceUpdate l) h = record { value = l; fits = h; makes = refl }
update_made c h = absurd h

update_piece : Piece device_update command_tokens Updated is_end
unfolding device_update
update_piece = made_piece (λ l. command.DeviceUpdate l) (before_end byte_piece anything_ends) command_tokens Updated (λ l h. refl) (λ l h. h) update_made

attribute_name : Attribute → Name
attribute_name set.OnLevel = name.OnLevel
attribute_name set.DefaultMoveRate = name.DefaultMoveRate
attribute_name set.StartUpCurrentLevel = name.StartUpCurrentLevel

attribute_from : (t : Option Token) (a : Attribute) → attribute_of t ≡ Some a → (t ≡ Some (token.Name (attribute_name a))) × Anything a
unfolding attribute_name
attribute_from (Some (token.Name name.OnLevel)) a e = (ap (λ a. Some (token.Name (attribute_name a))) (some_is set.OnLevel a e), tt)
attribute_from (Some (token.Name name.DefaultMoveRate)) a e = (ap (λ a. Some (token.Name (attribute_name a))) (some_is set.DefaultMoveRate a e), tt)
attribute_from (Some (token.Name name.StartUpCurrentLevel)) a e = (ap (λ a. Some (token.Name (attribute_name a))) (some_is set.StartUpCurrentLevel a e), tt)
attribute_from t a e = absurd cc

attribute_gives : (a : Attribute) → Anything a → attribute_of (Some (token.Name (attribute_name a))) ≡ Some a
unfolding attribute_name
attribute_gives set.OnLevel h = refl
attribute_gives set.DefaultMoveRate h = refl
attribute_gives set.StartUpCurrentLevel h = refl

attribute_piece : Piece attribute (λ a. token.Name (attribute_name a) ∷ []) Anything any
unfolding attribute
attribute_piece = one_piece attribute_of expected.Attribute (λ a. token.Name (attribute_name a)) Anything set.OnLevel tt (record { reads = attribute_from; gives = attribute_gives })

write_made : (c : Command) → Written c → From (λ (x : Attribute × Option ℕ). set_attribute x.0 x.1) (λ x. Anything x.0 × ByteFits x.1) c
write_made (command.SetOnLevel l) h = record { value = (set.OnLevel, l); fits = (tt, h); makes = refl }
write_made (command.SetDefaultMoveRate r) h = record { value = (set.DefaultMoveRate, r); fits = (tt, h); makes = refl }
write_made (command.SetStartUpCurrentLevel l) h = record { value = (set.StartUpCurrentLevel, l); fits = (tt, h); makes = refl }
write_made c h = absurd h

write_tokens : (a : Attribute) (v : Option ℕ) → command_tokens (set_attribute a v) ≡ token.Name (attribute_name a) ∷ byte_or_null_token v ∷ []
unfolding attribute_name
write_tokens set.OnLevel v = refl
write_tokens set.DefaultMoveRate v = refl
write_tokens set.StartUpCurrentLevel v = refl

write_fits : (a : Attribute) (v : Option ℕ) → ByteFits v → Written (set_attribute a v)
write_fits set.OnLevel v h = h
write_fits set.DefaultMoveRate v h = h
write_fits set.StartUpCurrentLevel v h = h

write_piece : Piece written command_tokens Written is_end
unfolding written
write_piece = made_piece (λ x. set_attribute x.0 x.1)
    (both_piece attribute_piece (λ a h. before_end byte_or_null_piece anything_ends) (λ a h. None) (λ a h. tt) (λ a v h g t e. refl))
    command_tokens Written (λ x h. write_tokens x.0 x.1) (λ x h. write_fits x.0 x.1 h.1) write_made

only_stop : (c : Command) → Stopped c → command.DeviceStop ≡ c
only_stop command.DeviceStop h = refl
only_stop c h = absurd h

only_reset : (c : Command) → Reset c → command.FactoryReset ≡ c
only_reset command.FactoryReset h = refl
only_reset c h = absurd h

pub command_piece : (v : CommandVerb) → Piece (command_after v) command_tokens (Own v) is_end
unfolding command_after
command_piece verb.MoveToLevel = move_to_level_piece false
command_piece verb.MoveToLevelWithOnOff = move_to_level_piece true
command_piece verb.Move = move_piece false
command_piece verb.MoveWithOnOff = move_piece true
command_piece verb.Step = step_piece false
command_piece verb.StepWithOnOff = step_piece true
command_piece verb.Stop = stop_piece false
command_piece verb.StopWithOnOff = stop_piece true
command_piece verb.OnOff = changed_piece
command_piece verb.RecallScene = scene_piece
command_piece verb.DeviceUpdate = update_piece
command_piece verb.DeviceStop = alone_piece command.DeviceStop command_tokens Stopped refl tt only_stop is_end
command_piece verb.Write = write_piece
command_piece verb.FactoryReset = alone_piece command.FactoryReset command_tokens Reset refl tt only_reset is_end

-- Kinds of event.

abbrev pub StartsUp : EventKind → Type 0
StartsUp kind.StartUp = Unit {0}
StartsUp k = ⊥

abbrev pub Answers : EventKind → Type 0
Answers (kind.Answer a) = KindFits (kind.Answer a)
Answers k = ⊥

abbrev pub Wakes : EventKind → Type 0
Wakes kind.Wake = Unit {0}
Wakes k = ⊥

abbrev pub Commands : CommandVerb → EventKind → Type 0
Commands v (kind.Command c) = Own v c
Commands v k = ⊥

abbrev pub OwnKind : Verb → EventKind → Type 0
OwnKind StartUp k = StartsUp k
OwnKind Answer k = Answers k
OwnKind Wake k = Wakes k
OwnKind (OfCommand v) k = Commands v k

only_start_up : (k : EventKind) → StartsUp k → kind.StartUp ≡ k
only_start_up kind.StartUp h = refl
only_start_up k h = absurd h

only_wake : (k : EventKind) → Wakes k → kind.Wake ≡ k
only_wake kind.Wake h = refl
only_wake k h = absurd h

answer_made : (k : EventKind) → Answers k → From (λ a. kind.Answer a) (λ a. KindFits (kind.Answer a)) k
answer_made (kind.Answer a) h = record { value = a; fits = h; makes = refl }
answer_made k h = absurd h

command_made : (v : CommandVerb) (k : EventKind) → Commands v k → From (λ c. kind.Command c) (Own v) k
command_made v (kind.Command c) h = record { value = c; fits = h; makes = refl }
command_made v k h = absurd h

kind_piece : (v : Verb) → Piece (kind_after v) argument_tokens (OwnKind v) is_end
kind_piece StartUp = alone_piece kind.StartUp argument_tokens StartsUp refl tt only_start_up is_end
kind_piece Answer = made_piece (λ a. kind.Answer a) (before_end answer_piece anything_ends) argument_tokens Answers (λ a h. refl) (λ a h. h) answer_made
kind_piece Wake = alone_piece kind.Wake argument_tokens Wakes refl tt only_wake is_end
kind_piece (OfCommand v) = made_piece (λ c. kind.Command c) (command_piece v) argument_tokens (Commands v) (λ c h. refl) (λ c h. h) (command_made v)

-- a command of each verb
some_command : CommandVerb → Command
some_command verb.MoveToLevel = move_to_level_from (0, no_time false)
some_command verb.MoveToLevelWithOnOff = move_to_level_from (0, no_time true)
some_command verb.Move = move_from (Up, (None, no_options false))
some_command verb.MoveWithOnOff = move_from (Up, (None, no_options true))
some_command verb.Step = step_from (Up, (0, no_time false))
some_command verb.StepWithOnOff = step_from (Up, (0, no_time true))
some_command verb.Stop = command.Stop (no_options false)
some_command verb.StopWithOnOff = command.Stop (no_options true)
some_command verb.OnOff = command.OnOffChanged true
some_command verb.RecallScene = scene_from (None, (tt, millis 0))
some_command verb.DeviceUpdate = command.DeviceUpdate 0
some_command verb.DeviceStop = command.DeviceStop
some_command verb.Write = command.SetOnLevel None
some_command verb.FactoryReset = command.FactoryReset

some_command_fits : (v : CommandVerb) → Own v (some_command v)
unfolding some_command no_time no_options
some_command_fits verb.MoveToLevel = (refl, (omega arith, tt, (omega arith, omega arith)))
some_command_fits verb.MoveToLevelWithOnOff = (refl, (omega arith, tt, (omega arith, omega arith)))
some_command_fits verb.Move = (refl, (tt, (omega arith, omega arith)))
some_command_fits verb.MoveWithOnOff = (refl, (tt, (omega arith, omega arith)))
some_command_fits verb.Step = (refl, (omega arith, tt, (omega arith, omega arith)))
some_command_fits verb.StepWithOnOff = (refl, (omega arith, tt, (omega arith, omega arith)))
some_command_fits verb.Stop = (refl, (omega arith, omega arith))
some_command_fits verb.StopWithOnOff = (refl, (omega arith, omega arith))
some_command_fits verb.OnOff = tt
some_command_fits verb.RecallScene = (tt, omega arith)
some_command_fits verb.DeviceUpdate = omega arith
some_command_fits verb.DeviceStop = tt
some_command_fits verb.Write = tt
some_command_fits verb.FactoryReset = tt

some_kind : Verb → EventKind
some_kind StartUp = kind.StartUp
some_kind Answer = kind.Answer device.Missing
some_kind Wake = kind.Wake
some_kind (OfCommand v) = kind.Command (some_command v)

some_kind_fits : (v : Verb) → OwnKind v (some_kind v)
unfolding some_kind
some_kind_fits StartUp = tt
some_kind_fits Answer = tt
some_kind_fits Wake = tt
some_kind_fits (OfCommand v) = some_command_fits v

-- a command has its own verb, and a verb's command that verb

chosen : (w test : Bool) (x y : CommandVerb) → w ≡ test → cond w x y ≡ cond test x y
chosen w test x y e = ap (λ w. cond w x y) e

own_verb : (v : CommandVerb) (c : Command) → Own v c → command_verb c ≡ v
own_verb verb.MoveToLevel (command.MoveToLevel r) h = chosen _ false _ _ h.0
own_verb verb.MoveToLevel c h = absurd h
own_verb verb.MoveToLevelWithOnOff (command.MoveToLevel r) h = chosen _ true _ _ h.0
own_verb verb.MoveToLevelWithOnOff c h = absurd h
own_verb verb.Move (command.Move r) h = chosen _ false _ _ h.0
own_verb verb.Move c h = absurd h
own_verb verb.MoveWithOnOff (command.Move r) h = chosen _ true _ _ h.0
own_verb verb.MoveWithOnOff c h = absurd h
own_verb verb.Step (command.Step r) h = chosen _ false _ _ h.0
own_verb verb.Step c h = absurd h
own_verb verb.StepWithOnOff (command.Step r) h = chosen _ true _ _ h.0
own_verb verb.StepWithOnOff c h = absurd h
own_verb verb.Stop (command.Stop o) h = chosen _ false _ _ h.0
own_verb verb.Stop c h = absurd h
own_verb verb.StopWithOnOff (command.Stop o) h = chosen _ true _ _ h.0
own_verb verb.StopWithOnOff c h = absurd h
own_verb verb.OnOff (command.OnOffChanged on) h = refl
own_verb verb.OnOff c h = absurd h
own_verb verb.RecallScene (command.Scene r) h = refl
own_verb verb.RecallScene c h = absurd h
own_verb verb.DeviceUpdate (command.DeviceUpdate l) h = refl
own_verb verb.DeviceUpdate c h = absurd h
own_verb verb.DeviceStop command.DeviceStop h = refl
own_verb verb.DeviceStop c h = absurd h
own_verb verb.Write (command.SetOnLevel l) h = refl
own_verb verb.Write (command.SetDefaultMoveRate r) h = refl
own_verb verb.Write (command.SetStartUpCurrentLevel l) h = refl
own_verb verb.Write c h = absurd h
own_verb verb.FactoryReset command.FactoryReset h = refl
own_verb verb.FactoryReset c h = absurd h

own_kind : (v : Verb) (k : EventKind) → OwnKind v k → kind_verb k ≡ v
own_kind StartUp kind.StartUp h = refl
own_kind StartUp k h = absurd h
own_kind Answer (kind.Answer a) h = refl
own_kind Answer k h = absurd h
own_kind Wake kind.Wake h = refl
own_kind Wake k h = absurd h
own_kind (OfCommand v) (kind.Command c) h = ap (λ v. OfCommand v) (own_verb v c h)
own_kind (OfCommand v) k h = absurd h

level_self : (w : Bool) (c : Command) → MoveToLevelOf w c → Own (cond w verb.MoveToLevelWithOnOff verb.MoveToLevel) c
level_self true c h = h
level_self false c h = h

move_self : (w : Bool) (c : Command) → MoveOf w c → Own (cond w verb.MoveWithOnOff verb.Move) c
move_self true c h = h
move_self false c h = h

step_self : (w : Bool) (c : Command) → StepOf w c → Own (cond w verb.StepWithOnOff verb.Step) c
step_self true c h = h
step_self false c h = h

stop_self : (w : Bool) (c : Command) → StopOf w c → Own (cond w verb.StopWithOnOff verb.Stop) c
stop_self true c h = h
stop_self false c h = h

own_self : (c : Command) → KindFits (kind.Command c) → Own (command_verb c) c
own_self (command.MoveToLevel r) h = level_self r.options.with_on_off (command.MoveToLevel r) (refl, h)
own_self (command.Move r) h = move_self r.options.with_on_off (command.Move r) (refl, h)
own_self (command.Step r) h = step_self r.options.with_on_off (command.Step r) (refl, h)
own_self (command.Stop o) h = stop_self o.with_on_off (command.Stop o) (refl, h)
own_self (command.OnOffChanged on) h = tt
own_self (command.Scene r) h = h
own_self (command.DeviceUpdate l) h = h
own_self command.DeviceStop h = tt
own_self (command.SetOnLevel l) h = h
own_self (command.SetDefaultMoveRate r) h = h
own_self (command.SetStartUpCurrentLevel l) h = h
own_self command.FactoryReset h = tt

kind_self : (k : EventKind) → KindFits k → OwnKind (kind_verb k) k
kind_self kind.StartUp h = tt
kind_self (kind.Answer a) h = h
kind_self kind.Wake h = tt
kind_self (kind.Command c) h = own_self c h

own_fits : (v : CommandVerb) (c : Command) → Own v c → KindFits (kind.Command c)
own_fits verb.MoveToLevel (command.MoveToLevel r) h = h.1
own_fits verb.MoveToLevel c h = absurd h
own_fits verb.MoveToLevelWithOnOff (command.MoveToLevel r) h = h.1
own_fits verb.MoveToLevelWithOnOff c h = absurd h
own_fits verb.Move (command.Move r) h = h.1
own_fits verb.Move c h = absurd h
own_fits verb.MoveWithOnOff (command.Move r) h = h.1
own_fits verb.MoveWithOnOff c h = absurd h
own_fits verb.Step (command.Step r) h = h.1
own_fits verb.Step c h = absurd h
own_fits verb.StepWithOnOff (command.Step r) h = h.1
own_fits verb.StepWithOnOff c h = absurd h
own_fits verb.Stop (command.Stop o) h = h.1
own_fits verb.Stop c h = absurd h
own_fits verb.StopWithOnOff (command.Stop o) h = h.1
own_fits verb.StopWithOnOff c h = absurd h
own_fits verb.OnOff (command.OnOffChanged on) h = tt
own_fits verb.OnOff c h = absurd h
own_fits verb.RecallScene (command.Scene r) h = h
own_fits verb.RecallScene c h = absurd h
own_fits verb.DeviceUpdate (command.DeviceUpdate l) h = h
own_fits verb.DeviceUpdate c h = absurd h
own_fits verb.DeviceStop command.DeviceStop h = tt
own_fits verb.DeviceStop c h = absurd h
own_fits verb.Write (command.SetOnLevel l) h = h
own_fits verb.Write (command.SetDefaultMoveRate r) h = h
own_fits verb.Write (command.SetStartUpCurrentLevel l) h = h
own_fits verb.Write c h = absurd h
own_fits verb.FactoryReset command.FactoryReset h = tt
own_fits verb.FactoryReset c h = absurd h

kind_fits : (v : Verb) (k : EventKind) → OwnKind v k → KindFits k
kind_fits StartUp kind.StartUp h = tt
kind_fits StartUp k h = absurd h
kind_fits Answer (kind.Answer a) h = h
kind_fits Answer k h = absurd h
kind_fits Wake kind.Wake h = tt
kind_fits Wake k h = absurd h
kind_fits (OfCommand v) (kind.Command c) h = own_fits v c h
kind_fits (OfCommand v) k h = absurd h

-- The verb and what follows it, the event.

abbrev kind_tokens : EventKind → List Token
kind_tokens k = token.Verb (kind_verb k) ∷ argument_tokens k

kind_made : (k : EventKind) → KindFits k → From (λ (x : Verb × EventKind). x.1) (λ x. Anything x.0 × OwnKind x.0 x.1) k
kind_made k h = record { value = (kind_verb k, k); fits = (tt, kind_self k h); makes = refl }

kind_of_piece : Piece kind_of kind_tokens KindFits is_end
unfolding kind_of
kind_of_piece = made_piece (λ x. x.1)
    (both_piece verb_piece (λ v h. kind_piece v) (λ v h. some_kind v) (λ v h. some_kind_fits v) (λ v k h g t e. refl))
    kind_tokens KindFits (λ x h. ap (λ v. token.Verb v ∷ argument_tokens x.1) (own_kind x.0 x.1 h.1)) (λ x h. kind_fits x.0 x.1 h.1) kind_made

abbrev pub LineFits : Event → Type 0
LineFits e = KindFits e.kind

event_made : (e : Event) → LineFits e → From event_from (λ x. Anything x.0 × (Anything x.1.0 × KindFits x.1.1)) e
event_made e h = record { value = (e.moment.at, (e.moment.on_off, e.kind)); fits = (tt, (tt, h)); makes = refl }

pub event_piece : Piece event event_tokens LineFits is_end
unfolding event
event_piece = made_piece event_from
    (both_piece clock_piece
    (λ time h. both_piece (on_off_piece expected.Lamp) (λ lamp h. kind_of_piece) (λ lamp h. kind.Wake) (λ lamp h. tt) (λ lamp k h g t e. refl))
    (λ time h. (true, kind.Wake)) (λ time h. (tt, tt)) (λ time x h g t e. refl))
    event_tokens LineFits (λ x h. refl) (λ x h. h.1.1) event_made
