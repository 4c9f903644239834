-- A text to records.
use Rattle.std.specs.Prelude.{ℕ, suc, if◌then◌else◌, List, [], ◌∷◌, ◌++◌, nat_eq, nat_lt, take, drop, length, Result, Ok, Err}
use Rattle.std.specs.Str.{bytes_eq}
use Rattle.records.specs.Written.{event_record, settings_record}
use Rattle.words.specs.EventLine.{event_line}
use Rattle.words.specs.Lexis.{column_of}
use Rattle.words.specs.SettingsLine.{settings_line}
use Rattle.words.specs.Tokens.{line_tokens}
use Rattle.words.specs.Values.{fault}
use Rattle.words.specs.declared.fault.Expected.{Expected}
use Rattle.words.specs.declared.fault.Expected.TheVariants as expected
use Rattle.words.specs.declared.fault.Fault.{Fault}
use Rattle.words.specs.declared.fault.WordFault.{WordFault}
use Rattle.words.specs.declared.tokens.Token.{Token}

-- without a byte order mark
abbrev pub unmarked : List ℕ → List ℕ
unmarked s = if bytes_eq (take 3 s) (0xEF ∷ 0xBB ∷ 0xBF ∷ []) then drop 3 s else s

abbrev pub put_before : ℕ → List (List ℕ) → List (List ℕ)
put_before b [] = (b ∷ []) ∷ []
put_before b (l ∷ ls) = (b ∷ l) ∷ ls

-- a text cut at every line feed
unfoldable pub lines_of : List ℕ → List (List ℕ)
lines_of [] = [] ∷ []
lines_of (b ∷ s) = if nat_eq b 10 then [] ∷ lines_of s else put_before b (lines_of s)

-- the fault of a word of line n, by its place
abbrev pub placed : ℕ → List ℕ → WordFault → Fault
placed n l f = record { line = n; column = column_of l f.word; expected = f.expected }

abbrev pub record_of : {A : Type 0} → (A → List ℕ) → Result A WordFault → Result (List ℕ) WordFault
record_of write (Ok x) = Ok (write x)
record_of write (Err f) = Err f

-- the record of a line, after so many bytes of records: first the settings, then events, as far as there is room for them
abbrev pub line_record : List Token → ℕ → Result (List ℕ) WordFault
line_record ts before =
    if nat_eq before 0 then record_of settings_record (settings_line ts)
    else if nat_lt 5100 before then fault 0 expected.NoMoreEvents
    else record_of event_record (event_line ts)

abbrev pub behind : List ℕ → ℕ → List ℕ → Result (List ℕ) WordFault → Result (List ℕ) Fault
behind before n l (Ok r) = Ok (before ++ r)
behind before n l (Err f) = Err (placed n l f)

-- the records of the lines before, and that of line n, if it has a word
unfoldable pub line_read : List ℕ → ℕ → List ℕ → Result (List ℕ) Fault
line_read before n l =
    if nat_eq (length (line_tokens l)) 0 then Ok before else behind before n l (line_record (line_tokens l) (length before))

-- the last line ends the text: by then there must be settings
abbrev pub whole : ℕ → List ℕ → List ℕ → Result (List ℕ) Fault
whole n l [] = Err (placed n l (record { word = 0; expected = expected.Settings }))
whole n l (b ∷ s) = Ok (b ∷ s)

abbrev pub line_then : Result (List ℕ) Fault → (List ℕ → Result (List ℕ) Fault) → Result (List ℕ) Fault
line_then (Ok s) f = f s
line_then (Err e) f = Err e

-- the records of the lines from line n on, behind those before them
unfoldable pub lines_read : List ℕ → ℕ → List (List ℕ) → Result (List ℕ) Fault
lines_read before n [] = Ok before
lines_read before n (l ∷ []) = line_then (line_read before n l) (whole n l)
lines_read before n (l ∷ (m ∷ ls)) = line_then (line_read before n l) (λ s. lines_read s (suc n) (m ∷ ls))

-- the records of a text, or its first fault
unfoldable pub play_read : List ℕ → Result (List ℕ) Fault
play_read text = lines_read [] 1 (lines_of (unmarked text))

-- what a call gives, and the lent room after it: a text that is at fault leaves it as it was
abbrev pub put : Result (List ℕ) Fault → List ℕ → Result ℕ Fault × List ℕ
put (Ok s) out = (Ok (length s), s ++ drop (length s) out)
put (Err f) out = (Err f, out)

abbrev pub read_into : List ℕ → List ℕ → Result ℕ Fault × List ℕ
read_into text out = put (play_read text) out

-- Faults: their numbers in the table of docs/WORDS.md
abbrev pub expected_number : Expected → ℕ
expected_number expected.Settings = 1
expected_number expected.Min = 2
expected_number expected.Max = 3
expected_number expected.FastestRate = 4
expected_number expected.Byte = 5
expected_number expected.PositiveByte = 6
expected_number expected.MinAtMost254 = 7
expected_number expected.MaxAtMost254 = 8
expected_number expected.MaxNotBelowMin = 9
expected_number expected.NoLighting = 10
expected_number expected.ClockTime = 11
expected_number expected.Lamp = 12
expected_number expected.Verb = 13
expected_number expected.Direction = 14
expected_number expected.Answer = 15
expected_number expected.OnOff = 16
expected_number expected.Attribute = 17
expected_number expected.ByteOrNull = 18
expected_number expected.LevelOrIn = 19
expected_number expected.In = 20
expected_number expected.SceneTime = 21
expected_number expected.TransitionTime = 22
expected_number expected.PositiveTime = 23
expected_number expected.End = 24
expected_number (expected.NameOrEnd n) = 25
expected_number expected.NoMoreEvents = 26

-- the number of an answer: 0 where the text is a play
abbrev pub read_number : Result ℕ Fault → ℕ
read_number (Ok n) = 0
read_number (Err f) = expected_number f.expected

-- the bytes of the records; or the line and the column of the fault
abbrev pub read_values : Result ℕ Fault → List ℕ
read_values (Ok n) = n ∷ []
read_values (Err f) = f.line ∷ f.column ∷ []

-- the same of a text

abbrev pub text_number : Result (List ℕ) Fault → ℕ
text_number (Ok s) = 0
text_number (Err f) = expected_number f.expected

abbrev pub text_values : Result (List ℕ) Fault → List ℕ
text_values (Ok s) = length s ∷ []
text_values (Err f) = f.line ∷ f.column ∷ []
