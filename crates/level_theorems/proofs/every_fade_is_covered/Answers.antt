-- What the check of `every_fade_is_covered` does not find by itself.
use Rattle.level_theorems.proofs.EveryFadeCovered.{every_fade_covered}
use Rattle.level_theorems.proofs.every_fade_is_covered.Goals as goal

pub returns : goal.returns
returns c = every_fade_covered
