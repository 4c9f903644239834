-- What a text is read as is no refused play: its length and its settings are right, so that its sheet is never the line of a refusal.
use Rattle.std.specs.Prelude.{ℕ, ◌*◌, ◌+◌, ◌≤◌, ◌≡◌, List, length, take, Ok}
use Rattle.transitions.specs.declared.settings.Settings.{Settings}
use Rattle.records.specs.SettingsRecord.{settings_read}
use Rattle.words.specs.Reading.{play_read}

-- settings that a list of bytes begins with
pub record Begins (s : List ℕ) : Type 0 where
  pub settings : Settings
  pub read : settings_read (take 20 s) ≡ Ok settings

pub record SheetLaws : Type 0 where
  pub settings_right : (text s : List ℕ) → play_read text ≡ Ok s → Begins s
  -- 20 to 5,120 bytes in twenties
  pub length_right : (text s : List ℕ) → play_read text ≡ Ok s → (n : ℕ) × (n ≤ 255) × (length s ≡ 20 * (1 + n))
