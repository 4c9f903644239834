-- Coupling: `update_coupled_on_off`.
use Rattle.std.specs.Prelude.{ℕ, Bool, cond, ◌&&◌, not, List, [], ◌∷◌, ltb, Option, Some, None}
use Rattle.std.specs.Bool.{beq}

-- with on/off, and only coupled: the wanted value is 1 above MIN, else 0. It is sent only if it differs from the on/off value
unfoldable pub coupled_on_off : Bool → Bool → Bool → ℕ → ℕ → Option Bool
coupled_on_off with_on_off coupled on min level =
    cond (with_on_off && coupled && not (beq (ltb min level) on)) (Some (ltb min level)) None

-- the values of the C actions that an answer stands for
abbrev pub coupled_values : Option Bool → List ℕ
coupled_values (Some wanted) = cond wanted 1 0 ∷ []
coupled_values None = []
