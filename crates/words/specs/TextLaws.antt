-- Plays in words: whole texts, as laws for every text, by which the reading of a text (Reading.antt) can be believed.
use Rattle.std.specs.Prelude.{ℕ, suc, ◌+◌, ◌-◌, ◌*◌, ◌≤◌, ◌<◌, ◌≡◌, ◌≢◌, ◌↔◌, if◌then◌else◌, List, [], ◌∷◌, ◌++◌, nat_eq, length, take, drop, Some, Ok, Err}
use Rattle.std.specs.List.{All, slice_get}
use Rattle.transitions.specs.declared.events.Event.{Event}
use Rattle.transitions.specs.declared.settings.Settings.{Settings}
use Rattle.records.specs.Written.{EventFits, event_record, settings_record}
use Rattle.words.specs.EventLine.{event_line}
use Rattle.words.specs.Laws.{Right}
use Rattle.words.specs.Lexis.{column_of, from_word, trimmed, word}
use Rattle.words.specs.Reading.{lines_of, play_read, unmarked}
use Rattle.words.specs.SettingsLine.{settings_line}
use Rattle.words.specs.Spelling.{event_text, settings_text}
use Rattle.words.specs.Tokens.{line_tokens, token_of}
use Rattle.words.specs.declared.fault.Expected.{Expected}
use Rattle.words.specs.declared.fault.Expected.TheVariants as expected
use Rattle.words.specs.declared.fault.Fault.{Fault}
use Rattle.words.specs.declared.tokens.Token.{Token}

-- of lines, the tokens of those that have a word
unfoldable pub said : List (List ℕ) → List (List Token)
said [] = []
said (l ∷ ls) = if nat_eq (length (line_tokens l)) 0 then said ls else line_tokens l ∷ said ls

abbrev pub events_said : List Event → List (List Token)
events_said [] = []
events_said (e ∷ es) = line_tokens (event_text e) ∷ events_said es

-- the tokens of the one text of settings and of each event
abbrev pub play_said : Settings → List Event → List (List Token)
play_said x es = line_tokens (settings_text x) ∷ events_said es

abbrev pub events_records : List Event → List ℕ
events_records [] = []
events_records (e ∷ es) = event_record e ++ events_records es

-- the record of settings, and those of events, one behind the other
abbrev pub play_records : Settings → List Event → List ℕ
play_records x es = settings_record x ++ events_records es

-- lines that say right settings and at most 255 right events, each as in its text, and nothing else; and their records
pub record Says (lines : List (List ℕ)) (records : List ℕ) : Type 0 where
  pub settings : Settings
  pub events : List Event
  pub right : Right settings
  pub fit : All EventFits events
  pub few : length events ≤ 255
  pub tokens : said lines ≡ play_said settings events
  pub written : records ≡ play_records settings events

-- What is wrong with line i, and with which word of it.
pub data Cause (lines : List (List ℕ)) (i : ℕ) (line : List ℕ) (at : ℕ) (what : Expected) : Type 0 where
  -- the first line that has a word is not that of right settings
  NoRightSettings : 0 < length (line_tokens line) → said (take i lines) ≡ []
      → settings_line (line_tokens line) ≡ Err (record { word = at; expected = what }) → Cause lines i line at what
  -- behind right settings and at most 254 right events, the line is not that of a right event
  NoRightEvent : (x : Settings) (es : List Event) → Right x → All EventFits es → length es ≤ 254 → 0 < length (line_tokens line) → said (take i lines) ≡ play_said x es
      → event_line (line_tokens line) ≡ Err (record { word = at; expected = what }) → Cause lines i line at what
  -- behind right settings and 255 right events, the line has a word
  TooMany : (x : Settings) (es : List Event) → Right x → All EventFits es → length es ≡ 255 → 0 < length (line_tokens line) → said (take i lines) ≡ play_said x es
      → at ≡ 0 → what ≡ expected.NoMoreEvents → Cause lines i line at what
  -- no line has a word; this is the last
  NoSettings : said lines ≡ [] → suc i ≡ length lines → at ≡ 0 → what ≡ expected.Settings → Cause lines i line at what

-- A fault's place, the line and in it the word, and its cause.
pub record Wrong (lines : List (List ℕ)) (f : Fault) : Type 0 where
  pub index : ℕ
  pub line : List ℕ
  pub there : slice_get lines index ≡ Some line
  pub number : f.line ≡ index + 1
  pub at : ℕ
  pub column : f.column ≡ column_of line at
  pub cause : Cause lines index line at f.expected

-- lines, with a line feed between each two
abbrev pub joined : List (List ℕ) → List ℕ
joined [] = []
joined (l ∷ []) = l
joined (l ∷ (m ∷ ls)) = l ++ (10 ∷ joined (m ∷ ls))

pub record TextLaws : Type 0 where
  -- a text is read as records exactly if its lines say what they are the records of
  pub text_exact : (text s : List ℕ) → (play_read text ≡ Ok s) ↔ Says (lines_of (unmarked text)) s
  pub text_length : (text s : List ℕ) → play_read text ≡ Ok s → (n : ℕ) × (n ≤ 255) × (length s ≡ 20 * (1 + n))
  -- and every other text is at fault, in its first line that cannot go on so
  pub text_fault : (text : List ℕ) (f : Fault) → play_read text ≡ Err f → Wrong (lines_of (unmarked text)) f
  -- at its column stands the word; past the last word, the comment or the end of the line
  pub column_place : (line : List ℕ) (n : ℕ) → drop (column_of line n - 1) line ≡ from_word n line
  pub column_word : (line : List ℕ) (n : ℕ) (t : Token) → slice_get (line_tokens line) n ≡ Some t → token_of (word (drop (column_of line n - 1) line)) ≡ t
  pub column_bare : (line : List ℕ) (n : ℕ) → trimmed (from_word n line) ≡ from_word n line
  -- the lines of a text are it, cut at every line feed
  pub lines_joined : (text : List ℕ) → joined (lines_of text) ≡ text
  pub lines_bare : (text : List ℕ) → All (λ line. All (λ b. b ≢ 10) line) (lines_of text)
