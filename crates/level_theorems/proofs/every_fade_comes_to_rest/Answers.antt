-- What the check of `every_fade_comes_to_rest` does not find by itself.
use Rattle.level_theorems.proofs.Progress.{comes_to_rest}
use Rattle.level_theorems.proofs.every_fade_comes_to_rest.Goals as goal

pub returns : goal.returns
returns c = comes_to_rest
