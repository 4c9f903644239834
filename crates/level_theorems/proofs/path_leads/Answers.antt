-- What the check of `path_leads` does not find by itself.
use Rattle.level_theorems.proofs.PathTheorem.{path_is}
use Rattle.level_theorems.proofs.path_leads.Goals as goal

pub returns : goal.returns
returns c = path_is
