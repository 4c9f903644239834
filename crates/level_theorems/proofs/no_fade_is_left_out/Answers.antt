-- What the check of `no_fade_is_left_out` does not find by itself.
use Rattle.level_theorems.proofs.RunsHold.{no_fade_left_out}
use Rattle.level_theorems.proofs.no_fade_is_left_out.Goals as goal

pub returns : goal.returns
returns c = no_fade_left_out
