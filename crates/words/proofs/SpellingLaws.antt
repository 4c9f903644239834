-- The one text of an event and of settings is read as their tokens. Assumes nothing.
use Rattle.std.proofs.Common.{ℕ, ◌≡◌, ◌*◌, ◌^◌, ◌<◌, Bool, true, false, cond, [], ◌∷◌, nat_eq, Option, Some, None, arith, lit≤}
use Rattle.text.specs.Text.{digits}
use Rattle.records.specs.Written.{AnswerFits, ByteFits, EventFits, KindFits, OptionsFit, SettingsFit, TimeFits}
use Rattle.transitions.specs.Types.{Time}
use Rattle.transitions.specs.declared.events.Command.{Command}
use Rattle.transitions.specs.declared.events.Command.TheVariants as command
use Rattle.transitions.specs.declared.events.DeviceAnswer.{DeviceAnswer}
use Rattle.transitions.specs.declared.events.DeviceAnswer.TheVariants as device
use Rattle.transitions.specs.declared.events.Event.{Event}
use Rattle.transitions.specs.declared.events.EventKind.{EventKind}
use Rattle.transitions.specs.declared.events.EventKind.TheVariants as kind
use Rattle.transitions.specs.declared.options.CommandOptions.{CommandOptions}
use Rattle.transitions.specs.declared.settings.Settings.{Settings}
use Rattle.units.specs.Units.{micros}
use Rattle.units.specs.declared.Micros.{Micros}
use Rattle.units.specs.declared.Millis.{Millis}
use Rattle.units.specs.declared.Tenths.{Tenths}
use Rattle.words.proofs.Said.{answer_token, argument_tokens, byte_or_null_token, byte_tokens, command_tokens, event_tokens, flag_tokens, kind_verb, millis_token, options_tokens, positive_byte_tokens, positive_time_tokens, settings_tokens, tenths_token, time_tokens}
use Rattle.words.proofs.WordsRead.{Gives, Say, say_append, say_more, say_none, say_within, reads_first, reads_last, reads_setting, reads_words}
use Rattle.words.proofs.WordTokens.{name_gives, number_gives, seconds_give, verb_gives}
use Rattle.words.specs.Names.{name_text}
use Rattle.words.specs.Spelling.{answer_word, byte_or_null_word, byte_words, command_verb, command_words, direction_name, event_text, flag_words, kind_words, micros_text, millis_text, on_off_name, options_words, positive_byte_words, positive_time_words, settings_text, tenths_text, time_words}
use Rattle.words.specs.Tokens.{line_tokens}
use Rattle.words.specs.declared.names.Name.{Name}
use Rattle.words.specs.declared.names.Name.TheVariants as name
use Rattle.words.specs.declared.names.Verb.TheVariants.{StartUp, Answer, Wake, Command as OfCommand}
use Rattle.words.specs.declared.tokens.Token.TheVariants as token

-- One word.

byte_gives : (x : ℕ) → x < 2 ^ 8 → Gives (digits x) (token.Number x)
byte_gives x h = number_gives x (omega (arith, h))

pub micros_give : (t : Micros) → t.0 < 2 ^ 64 → Gives (micros_text t) (token.Time t)
micros_give t h =
    let same : t.0 * 1 ≡ t.0 = omega arith in
    let exact : Gives (micros_text t) (token.Time (micros (t.0 * 1))) = seconds_give 6 t.0 (lit≤ tt) (lit≤ tt) h (omega (arith, h)) in
    rw same at exact

millis_give : (t : Millis) → t.0 < 2 ^ 32 → Gives (millis_text t) (millis_token t)
millis_give t h = seconds_give 3 t.0 (lit≤ tt) (lit≤ tt) (omega (arith, h)) (omega (arith, h))

tenths_give : (t : Tenths) → t.0 < 2 ^ 16 → Gives (tenths_text t) (tenths_token t)
tenths_give t h = seconds_give 1 t.0 (lit≤ tt) (lit≤ tt) (omega (arith, h)) (omega (arith, h))

answer_gives : (a : DeviceAnswer) → AnswerFits a → Gives (answer_word a) (answer_token a)
answer_gives (device.Level l) h = byte_gives l h
answer_gives device.Missing h = name_gives name.Null
answer_gives device.Failed h = name_gives name.Failed

byte_or_null_gives : (x : Option ℕ) → ByteFits x → Gives (byte_or_null_word x) (byte_or_null_token x)
byte_or_null_gives (Some x) h = byte_gives x h
byte_or_null_gives None h = name_gives name.Null

-- Values that may be left out.

pub byte_said : (n : Name) (x : Option ℕ) → ByteFits x → Say 2 (byte_words n x) (byte_tokens n x)
byte_said n (Some x) h = say_more (name_gives n) (say_more (byte_gives x h) (say_none 0))
byte_said n None h = say_none 2

pub time_said : (n : Name) (t : Time) → TimeFits t → Say 2 (time_words n t) (time_tokens n t)
time_said n (Some t) h = say_more (name_gives n) (say_more (tenths_give t h) (say_none 0))
time_said n None h = say_none 2

pub positive_byte_said : (n : Name) (x : ℕ) → x < 2 ^ 8 → Say 2 (positive_byte_words n x) (positive_byte_tokens n x)
positive_byte_said n x h = by (nat_eq x 0)
  where
    by : (test : Bool) → Say 2 (cond test [] (name_text n ∷ digits x ∷ [])) (cond test [] (token.Name n ∷ token.Number x ∷ []))
    by true = say_none 2
    by false = say_more (name_gives n) (say_more (byte_gives x h) (say_none 0))

pub positive_time_said : (n : Name) (t : Tenths) → t.0 < 2 ^ 16 → Say 2 (positive_time_words n t) (positive_time_tokens n t)
positive_time_said n t h = by (nat_eq t.0 0)
  where
    by : (test : Bool) → Say 2 (cond test [] (name_text n ∷ tenths_text t ∷ [])) (cond test [] (token.Name n ∷ tenths_token t ∷ []))
    by true = say_none 2
    by false = say_more (name_gives n) (say_more (tenths_give t h) (say_none 0))

pub flag_said : (n : Name) (is : Bool) → Say 1 (flag_words n is) (flag_tokens n is)
flag_said n true = say_more (name_gives n) (say_none 0)
flag_said n false = say_none 1

options_said : (o : CommandOptions) → OptionsFit o → Say 4 (options_words o) (options_tokens o)
options_said o h = say_append (positive_byte_said name.Mask o.options_mask.0 h.0) (positive_byte_said name.Override o.options_override.0 h.1)

-- An event.

command_said : (c : Command) → KindFits (kind.Command c) → Say 8 (command_words c) (command_tokens c)
command_said (command.MoveToLevel r) h =
    say_within (lit≤ tt) (say_more (byte_gives r.level h.0) (say_append (time_said name.In r.transition_time h.1) (options_said r.options h.2)))
command_said (command.Move r) h =
    say_within (lit≤ tt) (say_more (name_gives (direction_name r.mode)) (say_append (byte_said name.Rate r.rate h.0) (options_said r.options h.1)))
command_said (command.Step r) h =
    say_more (name_gives (direction_name r.mode))
    (say_more (byte_gives r.step_size h.0) (say_append (time_said name.In r.transition_time h.1) (options_said r.options h.2)))
command_said (command.Stop o) h = say_within (lit≤ tt) (options_said o h)
command_said (command.OnOffChanged on) h = say_more (name_gives (on_off_name on)) (say_none 7)
command_said (command.Scene r) h =
    say_within (lit≤ tt)
    (say_append (byte_said name.Level r.level h.0) (say_more (name_gives name.In) (say_more (millis_give r.transition_time h.1) (say_none 0))))
command_said (command.DeviceUpdate l) h = say_more (byte_gives l h) (say_none 7)
command_said command.DeviceStop h = say_none 8
command_said (command.SetOnLevel l) h = say_more (name_gives name.OnLevel) (say_more (byte_or_null_gives l h) (say_none 6))
command_said (command.SetDefaultMoveRate r) h = say_more (name_gives name.DefaultMoveRate) (say_more (byte_or_null_gives r h) (say_none 6))
command_said (command.SetStartUpCurrentLevel l) h = say_more (name_gives name.StartUpCurrentLevel) (say_more (byte_or_null_gives l h) (say_none 6))
command_said command.FactoryReset h = say_none 8

pub kind_said : (k : EventKind) → KindFits k → Say 9 (kind_words k) (token.Verb (kind_verb k) ∷ argument_tokens k)
kind_said kind.StartUp h = say_more (verb_gives StartUp) (say_none 8)
kind_said (kind.Answer a) h = say_more (verb_gives Answer) (say_more (answer_gives a h) (say_none 7))
kind_said kind.Wake h = say_more (verb_gives Wake) (say_none 8)
kind_said (kind.Command c) h = say_more (verb_gives (OfCommand (command_verb c))) (command_said c h)

pub event_said : (e : Event) → EventFits e → line_tokens (event_text e) ≡ event_tokens e
event_said e h =
    reads_first (micros_give e.moment.at h.time)
    (reads_setting (say_more (name_gives (on_off_name e.moment.on_off)) (say_none 0)) (reads_last (kind_said e.kind h.kind))) 31 (lit≤ tt)

-- Settings.

pub named_said : (n : Name) (x : ℕ) → x < 2 ^ 8 → Say 2 (name_text n ∷ digits x ∷ []) (token.Name n ∷ token.Number x ∷ [])
named_said n x h = say_more (name_gives n) (say_more (byte_gives x h) (say_none 0))

pub settings_said : (x : Settings) → SettingsFit x → line_tokens (settings_text x) ≡ settings_tokens x
settings_said x h =
    let a = x.attributes in
    reads_first (name_gives name.Settings)
    (reads_setting (named_said name.Min x.range.min h.min_level_fits)
    (reads_setting (named_said name.Max x.range.max h.max_level_fits)
    (reads_setting (named_said name.FastestRate x.fastest_rate h.fastest_rate)
    (reads_setting (byte_said name.Level x.current_level h.level)
    (reads_setting (byte_said name.OnLevel a.on_level h.on_level)
    (reads_setting (byte_said name.StartUpCurrentLevel a.start_up_current_level h.start_up_level_fits)
    (reads_setting (byte_said name.DefaultMoveRate a.default_move_rate h.default_rate)
    (reads_setting (positive_time_said name.OnOffTransitionTime a.on_off_transition_time h.common_time)
    (reads_setting (time_said name.OnTransitionTime a.on_transition_time h.on_time_fits)
    (reads_setting (time_said name.OffTransitionTime a.off_transition_time h.off_time_fits)
    (reads_setting (positive_byte_said name.Options a.options.0 h.options)
    (reads_setting (flag_said name.Coupled x.coupled) (reads_words (flag_said name.Lighting x.lighting)))))))))))))) 31 (lit≤ tt)
