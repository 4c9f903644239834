-- The sheet in the words of docs/RULES.md (Sheet, Causes): laws for every list of bytes, by which the definitions of this folder can be believed.
use Rattle.std.specs.Prelude.{ℕ, ◌+◌, ◌/◌, ◌%◌, ◌≤◌, ◌<◌, true, false, ◌≡◌, ◌↔◌, ◌⊎◌, List, [], ◌∷◌, ◌++◌, pos, negsuc, length, take, drop, Ok, Err}
use Rattle.text.specs.Text.{ascii, digits}
use Rattle.records.specs.SettingsRecord.{settings_read, settings_read_number}
use Rattle.records.specs.declared.refusal.RecordRefusal.TheVariants.{RecordWrong, MaxAbove254, MinAboveMax, LightingMin0}
use Rattle.transitions.specs.declared.settings.Settings.{Settings}
use Rattle.level_control.specs.Answer.{Outcome}
use Rattle.level_control.specs.State.{new_state}
use Rattle.level_control.specs.declared.state.LevelControlState.{LevelControlState}
use Rattle.sheet.specs.Lines.{record_outcome, records_of, outcomes_of, outcome_line, lines_from, text_of}
use Rattle.sheet.specs.Play.{length_ok, play_of, returned, refusal_text, key_of, printed}
use Rattle.sheet.specs.declared.refusal.PlayRefusal.{PlayRefusal}
use Rattle.sheet.specs.declared.refusal.PlayRefusal.TheVariants.{Record as RecordRefused, TextTooLong}

pub record Laws : Type 0 where
  -- the length of a play is 20 to 5,120 in twenties
  pub length_right : (n : ℕ) → (length_ok n ≡ true) ↔ ((20 ≤ n) × (n ≤ 5120) × (n % 20 ≡ 0))
  -- no refused call changes the output: what it returns, and every byte of the output
  pub refused_keeps : (records out : List ℕ) (why : PlayRefusal) → (play_of records out).0 ≡ Err why → (play_of records out).1 ≡ out
  -- an accepted call: the text stands at the front, its length is returned, and the bytes past it stay
  pub text_stands : (records out : List ℕ) (settings : Settings)
      → length_ok (length records) ≡ true → settings_read (take 20 records) ≡ Ok settings
      → length (text_of (new_state settings) (drop 20 records)) ≤ length out
      → let text = text_of (new_state settings) (drop 20 records) in
      returned (play_of records out) ≡ (pos (length text), text ++ drop (length text) out)
  -- minus 16 exactly where the text does not fit
  pub too_short : (records out : List ℕ) (settings : Settings)
      → length_ok (length records) ≡ true → settings_read (take 20 records) ≡ Ok settings
      → length out < length (text_of (new_state settings) (drop 20 records))
      → returned (play_of records out) ≡ (negsuc 15, out)
  -- minus 1 exactly if the length or the settings' record is wrong
  pub minus_1 : (records out : List ℕ)
      → (returned (play_of records out) ≡ (negsuc 0, out))
      ↔ ((length_ok (length records) ≡ false) ⊎ (settings_read_number (settings_read (take 20 records)) ≡ 1))
  -- minus 2, 3, 4 exactly if the length is right and the settings' number is that; negsuc n is minus n + 1
  pub minus_2_3_4 : (records out : List ℕ) (n : ℕ) → 1 ≤ n → n ≤ 3
      → (returned (play_of records out) ≡ (negsuc n, out))
      ↔ ((length_ok (length records) ≡ true) × (settings_read_number (settings_read (take 20 records)) ≡ n + 1))
  -- keysheet prints the text of an accepted play that fits; the rest of its output stays
  pub prints_text : (records out : List ℕ) (settings : Settings)
      → length_ok (length records) ≡ true → settings_read (take 20 records) ≡ Ok settings
      → length (text_of (new_state settings) (drop 20 records)) ≤ length out
      → let text = text_of (new_state settings) (drop 20 records) in
      (key_of records out ≡ (length text, text ++ drop (length text) out)) × (printed (key_of records out) ≡ text)
  -- or `0 `, the number that the C entry gives, and a line feed, if the line fits; the rest stays
  pub prints_number : (records out : List ℕ) (n : ℕ) → (returned (play_of records out)).0 ≡ negsuc n
      → let line = ascii "0 " ++ digits (n + 1) ++ ascii "\n" in
      length line ≤ length out
      → (key_of records out ≡ (length line, line ++ drop (length line) out)) × (printed (key_of records out) ≡ line)
  -- of a line for which out has no room, as much as fits; the length is that of the whole
  pub prints_part : (records out : List ℕ) (n : ℕ) → (returned (play_of records out)).0 ≡ negsuc n
      → let line = ascii "0 " ++ digits (n + 1) ++ ascii "\n" in
      length out ≤ length line → key_of records out ≡ (length line, take (length out) line)
  -- these lines, byte for byte
  pub refusal_lines : (refusal_text (RecordRefused RecordWrong) ≡ 48 ∷ 32 ∷ 49 ∷ 10 ∷ [])
      × (refusal_text (RecordRefused MaxAbove254) ≡ 48 ∷ 32 ∷ 50 ∷ 10 ∷ [])
      × (refusal_text (RecordRefused MinAboveMax) ≡ 48 ∷ 32 ∷ 51 ∷ 10 ∷ [])
      × (refusal_text (RecordRefused LightingMin0) ≡ 48 ∷ 32 ∷ 52 ∷ 10 ∷ [])
      × (refusal_text TextTooLong ≡ 48 ∷ 32 ∷ 49 ∷ 54 ∷ 10 ∷ [])
  -- keysheet reads one byte more than a play may have, which is enough
  pub reads_enough : (input out : List ℕ) → play_of (take 5121 input) out ≡ play_of input out
  -- the output keeps its length
  pub same_length : (records out : List ℕ) → length (play_of records out).1 ≡ length out
  -- the first record's line has index 1, and each line one more than the line before it
  pub first_line : (start : LevelControlState) (bytes rest : List ℕ) → length bytes ≡ 20
      → text_of start (bytes ++ rest)
      ≡ outcome_line 1 (record_outcome start bytes) ++ lines_from 2 (outcomes_of (record_outcome start bytes).state (records_of (length rest / 20) rest))
  pub next_line : (index : ℕ) (o : Outcome) (more : List Outcome) → lines_from index (o ∷ more) ≡ outcome_line index o ++ lines_from (index + 1) more
  -- a line for each event record, damaged ones too
  pub a_line_each : (start : LevelControlState) (k : ℕ) (bytes : List ℕ) → length (outcomes_of start (records_of k bytes)) ≡ k
