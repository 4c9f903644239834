-- Records, as laws: proofs of specs/Laws.antt. Assumes nothing.
use Rattle.records.specs.Laws.{Laws}
use Rattle.records.proofs.ByteLaws.{low_first_bytes, below}
use Rattle.records.proofs.LayoutLaws.{settings_right, settings_number, event_right}
use Rattle.records.proofs.HeadLaws.{event_head}
use Rattle.records.proofs.FitLaws.{event_fits, settings_fit}
use Rattle.records.proofs.MissingLaws.{event_ignores, settings_ignores}
use Rattle.records.proofs.WrittenLaws.{event_written, settings_written}

pub record_laws : Laws
record_laws = record {
  low_first_bytes = low_first_bytes;
  below = below;
  below_16 = below 2;
  below_32 = below 4;
  below_64 = below 8;
  settings_right = settings_right;
  settings_number = settings_number;
  event_right = event_right;
  event_head = event_head;
  event_ignores = event_ignores;
  settings_ignores = settings_ignores;
  settings_fit = settings_fit;
  event_fits = event_fits;
  settings_written = settings_written;
  event_written = event_written;
}
