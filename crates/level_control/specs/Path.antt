-- Every fade: the levels that lead one by one from c to t. Nothing of the machine is used here.
use Rattle.std.specs.Prelude.{ℕ, zero, suc, ◌+◌, ◌-◌, cond, List, [], ◌∷◌, ltb}

-- the k levels above c, and below it
abbrev pub above : ℕ → ℕ → List ℕ
above c zero = []
above c (suc k) = (c + 1) ∷ above (c + 1) k

abbrev pub below : ℕ → ℕ → List ℕ
below c zero = []
below c (suc k) = (c - 1) ∷ below (c - 1) k

unfoldable pub path : ℕ → ℕ → List ℕ
path c t = cond (ltb c t) (above c (t - c)) (below c (c - t))
