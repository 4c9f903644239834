-- The values of a line. A reader reads from a token on: it gives what it has read and the place past it, or the first fault.
use Rattle.std.specs.Prelude.{ℕ, suc, ◌/◌, ◌%◌, Bool, true, false, ◌&&◌, if◌then◌else◌, List, nat_eq, nat_le, length, Option, Some, None, Result, Ok, Err}
use Rattle.std.specs.List.{slice_get}
use Rattle.std.specs.Str.{bytes_eq}
use Rattle.units.specs.Units.{tenths, millis}
use Rattle.units.specs.declared.Micros.{Micros}
use Rattle.units.specs.declared.Millis.{Millis}
use Rattle.units.specs.declared.Tenths.{Tenths}
use Rattle.transitions.specs.Types.{Time}
use Rattle.transitions.specs.declared.events.DeviceAnswer.{DeviceAnswer}
use Rattle.transitions.specs.declared.events.DeviceAnswer.TheVariants as device
use Rattle.transitions.specs.declared.types.Mode.{Mode}
use Rattle.transitions.specs.declared.types.Mode.TheVariants.{Up, Down}
use Rattle.words.specs.Names.{name_text}
use Rattle.words.specs.declared.fault.Expected.{Expected}
use Rattle.words.specs.declared.fault.Expected.TheVariants as expected
use Rattle.words.specs.declared.fault.WordFault.{WordFault}
use Rattle.words.specs.declared.names.Name.{Name}
use Rattle.words.specs.declared.names.Name.TheVariants as name
use Rattle.words.specs.declared.names.Verb.{Verb}
use Rattle.words.specs.declared.tokens.Token.{Token}
use Rattle.words.specs.declared.tokens.Token.TheVariants as token

abbrev pub Reader : Type 0 → Type 0
Reader A = List Token → ℕ → Result (A × ℕ) WordFault

abbrev pub fault : {A : Type 0} → ℕ → Expected → Result A WordFault
fault at what = Err (record { word = at; expected = what })

infixl 10 ◌>>=◌
abbrev pub ◌>>=◌ : {A B : Type 0} → Result A WordFault → (A → Result B WordFault) → Result B WordFault
(Ok x) >>= f = f x
(Err e) >>= f = Err e

-- one word that has a value, or the fault at that word
abbrev pub taken : {A : Type 0} → Option A → Expected → ℕ → Result (A × ℕ) WordFault
taken (Some x) what at = Ok (x, suc at)
taken None what at = fault at what

abbrev pub one : {A : Type 0} → (Option Token → Option A) → Expected → Reader A
one value what ts at = taken (value (slice_get ts at)) what at

-- one after the other; the second may depend on what the first has read
abbrev pub both : {A B : Type 0} → Reader A → (A → Reader B) → Reader (A × B)
both first second ts at = first ts at >>= λ x. second x.0 ts x.1 >>= λ y. Ok ((x.0, y.0), y.1)

-- the same, made into something else
abbrev pub made : {A B : Type 0} → (A → B) → Reader A → Reader B
made make reader ts at = reader ts at >>= λ x. Ok (make x.0, x.1)

-- what stands behind a name, if the name is there
abbrev pub optional : {A : Type 0} → Bool → Reader A → Reader (Option A)
optional named reader ts at = if named then (reader ts (suc at) >>= λ x. Ok (Some x.0, x.1)) else Ok (None, at)

-- What words have which value.

abbrev pub given : {A : Type 0} → Bool → A → Option A
given test x = if test then Some x else None

abbrev pub is_name : Name → Option Token → Bool
is_name n (Some (token.Name found)) = bytes_eq (name_text found) (name_text n)
is_name n t = false

abbrev pub byte_of : Option Token → Option ℕ
byte_of (Some (token.Number n)) = given (nat_le n 255) n
byte_of t = None

abbrev pub positive_byte_of : Option Token → Option ℕ
positive_byte_of (Some (token.Number n)) = given (nat_le 1 n && nat_le n 255) n
positive_byte_of t = None

abbrev pub clock_time_of : Option Token → Option Micros
clock_time_of (Some (token.Time t)) = Some t
clock_time_of t = None

-- whole tenths, of which each is 100,000 µs
abbrev pub transition_time_of : Option Token → Option Tenths
transition_time_of (Some (token.Time t)) = given (nat_eq (t.0 % 100000) 0 && nat_le (t.0 / 100000) 65535) (tenths (t.0 / 100000))
transition_time_of t = None

abbrev pub positive_time_of : Option Token → Option Tenths
positive_time_of (Some (token.Time t)) =
    given (nat_eq (t.0 % 100000) 0 && (nat_le 1 (t.0 / 100000) && nat_le (t.0 / 100000) 65535)) (tenths (t.0 / 100000))
positive_time_of t = None

-- whole milliseconds
abbrev pub scene_time_of : Option Token → Option Millis
scene_time_of (Some (token.Time t)) = given (nat_eq (t.0 % 1000) 0 && nat_le (t.0 / 1000) 4294967295) (millis (t.0 / 1000))
scene_time_of t = None

abbrev pub on_off_of : Option Token → Option Bool
on_off_of (Some (token.Name name.On)) = Some true
on_off_of (Some (token.Name name.Off)) = Some false
on_off_of t = None

abbrev pub direction_of : Option Token → Option Mode
direction_of (Some (token.Name name.Up)) = Some Up
direction_of (Some (token.Name name.Down)) = Some Down
direction_of t = None

abbrev pub verb_of : Option Token → Option Verb
verb_of (Some (token.Verb v)) = Some v
verb_of t = None

abbrev pub answer_of : Option Token → Option DeviceAnswer
answer_of (Some (token.Number n)) = given (nat_le n 255) (device.Level n)
answer_of (Some (token.Name name.Null)) = Some device.Missing
answer_of (Some (token.Name name.Failed)) = Some device.Failed
answer_of t = None

abbrev pub byte_or_null_of : Option Token → Option (Option ℕ)
byte_or_null_of (Some (token.Number n)) = given (nat_le n 255) (Some n)
byte_or_null_of (Some (token.Name name.Null)) = Some None
byte_or_null_of t = None

abbrev pub name_of : Name → Option Token → Option (Unit {0})
name_of n t = given (is_name n t) tt

-- The readers of one word.

unfoldable pub byte : Reader ℕ
byte ts at = one byte_of expected.Byte ts at

unfoldable pub positive_byte : Reader ℕ
positive_byte ts at = one positive_byte_of expected.PositiveByte ts at

unfoldable pub clock_time : Reader Micros
clock_time ts at = one clock_time_of expected.ClockTime ts at

unfoldable pub transition_time : Reader Tenths
transition_time ts at = one transition_time_of expected.TransitionTime ts at

unfoldable pub positive_time : Reader Tenths
positive_time ts at = one positive_time_of expected.PositiveTime ts at

unfoldable pub scene_time : Reader Millis
scene_time ts at = one scene_time_of expected.SceneTime ts at

unfoldable pub on_off : Expected → Reader Bool
on_off what ts at = one on_off_of what ts at

unfoldable pub direction : Reader Mode
direction ts at = one direction_of expected.Direction ts at

unfoldable pub verb : Reader Verb
verb ts at = one verb_of expected.Verb ts at

unfoldable pub answer : Reader DeviceAnswer
answer ts at = one answer_of expected.Answer ts at

unfoldable pub byte_or_null : Reader (Option ℕ)
byte_or_null ts at = one byte_or_null_of expected.ByteOrNull ts at

-- a name that must stand there
unfoldable pub keyword : Name → Expected → Reader (Unit {0})
keyword n what ts at = one (name_of n) what ts at

-- nothing more
abbrev pub ended : {A : Type 0} → Expected → A → List Token → ℕ → Result A WordFault
ended what x ts at = if nat_le (length ts) at then Ok x else fault at what

-- The readers of what may be left out.

unfoldable pub optional_byte : Name → Reader (Option ℕ)
optional_byte n ts at = optional (is_name n (slice_get ts at)) byte ts at

unfoldable pub optional_time : Name → Reader Time
optional_time n ts at = optional (is_name n (slice_get ts at)) transition_time ts at

-- 0 where it is left out

abbrev pub or_0 : Option ℕ → ℕ
or_0 (Some n) = n
or_0 None = 0

unfoldable pub named_byte : Name → Reader ℕ
named_byte n ts at = made or_0 (λ ts at. optional (is_name n (slice_get ts at)) positive_byte ts at) ts at

abbrev pub or_no_time : Option Tenths → Tenths
or_no_time (Some t) = t
or_no_time None = tenths 0

unfoldable pub named_time : Name → Reader Tenths
named_time n ts at = made or_no_time (λ ts at. optional (is_name n (slice_get ts at)) positive_time ts at) ts at

-- no word more
abbrev pub alone : {A : Type 0} → A → Reader A
alone x ts at = Ok (x, at)

abbrev pub nothing : Reader (Unit {0})
nothing ts at = Ok (tt, at)

abbrev pub is_there : Option (Unit {0}) → Bool
is_there (Some u) = true
is_there None = false

-- whether a name is there, which stands alone
unfoldable pub flag : Name → Reader Bool
flag n ts at = made is_there (λ ts at. optional (is_name n (slice_get ts at)) nothing ts at) ts at
