-- Plays in words, as laws for every text, line, event and settings, by which the definitions of this folder can be believed.
use Rattle.std.specs.Prelude.{ℕ, suc, ◌^◌, ◌<◌, ◌≡◌, ◌↔◌, List, Ok, Err}
use Rattle.std.specs.Fmt.{decimal}
use Rattle.std.specs.List.{slice_get}
use Rattle.units.specs.declared.Micros.{Micros}
use Rattle.transitions.specs.declared.events.Event.{Event}
use Rattle.transitions.specs.declared.settings.Settings.{Settings}
use Rattle.records.specs.Written.{EventFits, SettingsFit, Allowed}
use Rattle.words.specs.EventLine.{event_line}
use Rattle.words.specs.Names.{name_text, verb_text}
use Rattle.words.specs.SettingsLine.{settings_line}
use Rattle.words.specs.Spelling.{event_text, settings_text}
use Rattle.words.specs.Tokens.{line_tokens, token_of}
use Rattle.words.specs.declared.fault.WordFault.{WordFault}
use Rattle.words.specs.declared.names.Name.{Name}
use Rattle.words.specs.declared.names.Verb.{Verb}
use Rattle.words.specs.declared.tokens.Token.{Token}
use Rattle.words.specs.declared.tokens.Token.TheVariants as token

-- settings that a right record can hold
abbrev pub Right : Settings → Type 0
Right x = SettingsFit x × Allowed x

-- the first n tokens of two lines are the same, or both lines end before
abbrev pub SameUpTo : ℕ → List Token → List Token → Type 0
SameUpTo n ts us = (m : ℕ) → m < n → slice_get ts m ≡ slice_get us m

-- The first fault of a line: the words before it are those of a line that is right, and with it they are not those of any.
-- Past the last word stands nothing, which is a fault where no right line ends.
pub record First {A : Type 0} (Fits : A → Type 0) (text : A → List ℕ) (line : List ℕ) (f : WordFault) : Type 0 where
  pub right : A
  pub fits : Fits right
  pub before : SameUpTo f.word (line_tokens line) (line_tokens (text right))
  pub with_it : (x : A) → Fits x → SameUpTo (suc f.word) (line_tokens line) (line_tokens (text x)) → ⊥

pub record Laws : Type 0 where
  -- a line is read as an event exactly if its tokens are those of the event's text
  pub event_exact : (line : List ℕ) (e : Event) → (event_line (line_tokens line) ≡ Ok e) ↔ (EventFits e × (line_tokens line ≡ line_tokens (event_text e)))
  -- so what is written is read again
  pub event_again : (e : Event) → EventFits e → event_line (line_tokens (event_text e)) ≡ Ok e
  -- and every other line is at fault, at its first word that no event's text goes on with
  pub event_fault : (line : List ℕ) (f : WordFault) → event_line (line_tokens line) ≡ Err f → First EventFits event_text line f
  -- the same of settings
  pub settings_exact : (line : List ℕ) (x : Settings) → (settings_line (line_tokens line) ≡ Ok x) ↔ (Right x × (line_tokens line ≡ line_tokens (settings_text x)))
  pub settings_again : (x : Settings) → Right x → settings_line (line_tokens (settings_text x)) ≡ Ok x
  pub settings_fault : (line : List ℕ) (f : WordFault) → settings_line (line_tokens line) ≡ Err f → First Right settings_text line f
  -- the token of a word tells the word, of a time its value, which 64 bits hold
  pub number_word : (w : List ℕ) (x : ℕ) → token_of w ≡ token.Number x → (w ≡ decimal x) × (x < 2 ^ 64)
  pub name_word : (w : List ℕ) (n : Name) → token_of w ≡ token.Name n → w ≡ name_text n
  pub verb_word : (w : List ℕ) (v : Verb) → token_of w ≡ token.Verb v → w ≡ verb_text v
  pub time_word : (w : List ℕ) (t : Micros) → token_of w ≡ token.Time t → t.0 < 2 ^ 64
