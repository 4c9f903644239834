-- What the check of `answer_records_are_accepted` does not find by itself.
use Rattle.record_theorems.proofs.RecordsHold.{answer_records_accepted}
use Rattle.record_theorems.proofs.answer_records_are_accepted.Goals as goal

pub returns : goal.returns
returns c = answer_records_accepted
