-- Proofs of specs/SheetLaws.antt. Assumes nothing.
use Rattle.std.proofs.Common.{ℕ, ◌≡◌, ◌++◌, List, take, refl, ap, ◌∙◌}
use Rattle.std.specs.Prelude.{Ok}
use Rattle.transitions.specs.declared.settings.Settings.{Settings}
use Rattle.records.specs.SettingsRecord.{settings_read}
use Rattle.records.specs.Written.{settings_record}
use Rattle.records.proofs.RecordLaws.{record_laws}
use Rattle.words.specs.Reading.{play_read}
use Rattle.words.specs.SheetLaws.{Begins, SheetLaws}
use Rattle.words.specs.TextLaws.{events_records}
use Rattle.words.proofs.TextsHold.{text_laws}

front : (x : Settings) (rest : List ℕ) → take 20 (settings_record x ++ rest) ≡ settings_record x
front x rest = refl

settings_right : (text s : List ℕ) → play_read text ≡ Ok s → Begins s
settings_right text s e =
    let says = (text_laws.text_exact text s).0 e in
    let first : take 20 s ≡ settings_record says.settings = ap (take 20) says.written ∙ front says.settings (events_records says.events) in
    record {
      settings = says.settings;
      read = ap settings_read first ∙ record_laws.settings_written says.settings says.right.0 says.right.1;
    }

pub sheet_laws : SheetLaws
sheet_laws = record { settings_right = settings_right; length_right = text_laws.text_length }
