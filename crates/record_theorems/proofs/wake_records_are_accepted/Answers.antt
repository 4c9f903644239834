-- What the check of `wake_records_are_accepted` does not find by itself.
use Rattle.record_theorems.proofs.RecordsHold.{wake_records_accepted}
use Rattle.record_theorems.proofs.wake_records_are_accepted.Goals as goal

pub returns : goal.returns
returns c = wake_records_accepted
