-- What the loop of `scene_level` keeps.
use Rattle.std.proofs.Common.{length}
use Rattle.transitions.proofs.scene.+scene_level.Given as goal

abbrev pub decreases-scene_level : goal.decreases-scene_level
decreases-scene_level l = length l.ids.now
