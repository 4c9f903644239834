-- Scenes: which level a scene recalls.
use Rattle.std.specs.Prelude.{ℕ, Bool, ◌&&◌, List, [], ◌∷◌, eqb, leb, Some, None}
use Rattle.transitions.specs.Search.{first_where}
use Rattle.units.specs.declared.Millis.{Millis}
use Rattle.transitions.specs.declared.events.SceneRequest.{SceneRequest}
use Rattle.transitions.specs.Types.{Level}

pub record Pair : Type 0 where
  pub id : ℕ
  pub value : ℕ

-- the pairs of two lists, up to the shorter length
abbrev pub pairs : List ℕ → List ℕ → List Pair
pairs [] values = []
pairs (id ∷ ids) [] = []
pairs (id ∷ ids) (value ∷ values) = record { id = id; value = value } ∷ pairs ids values

-- a pair with id 0 and a value; above 255 it is none
abbrev pub decides : Pair → Bool
decides p = eqb p.id 0 && leb p.value 255

-- the first such pair decides; the level is missing where no pair does
unfoldable pub scene_level : List ℕ → List ℕ → Level
scene_level ids values = first_where decides (λ p. Some p.value) None (pairs ids values)

-- what a scene's pairs and its milliseconds ask for
abbrev pub scene_of : List ℕ → List ℕ → Millis → SceneRequest
scene_of ids values time = record { level = scene_level ids values; transition_time = time }
