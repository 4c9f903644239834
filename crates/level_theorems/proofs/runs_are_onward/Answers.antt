-- What the check of `runs_are_onward` does not find by itself.
use Rattle.level_theorems.proofs.RunsHold.{onward_since}
use Rattle.level_theorems.proofs.runs_are_onward.Goals as goal

pub returns : goal.returns
returns c = onward_since
