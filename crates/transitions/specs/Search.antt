-- The first element of a list that a test takes: what a table of causes and a scene's pairs are read by.
use Rattle.std.specs.Prelude.{Bool, true, false, cond, ◌≡◌, List, [], ◌∷◌, ◌++◌}

-- the value of the first element that the test takes, or `none` where it takes no element
abbrev pub first_where : {A B : Type 0} → (A → Bool) → (A → B) → B → List A → B
first_where test value none [] = none
first_where test value none (a ∷ l) = cond (test a) (value a) (first_where test value none l)

-- the test takes no element
abbrev pub NoneOf : {A : Type 0} → (A → Bool) → List A → Type 0
NoneOf test [] = Unit {0}
NoneOf test (a ∷ l) = (test a ≡ false) × NoneOf test l

-- a stands in the list, the test takes it, and takes none before it
pub record First {A : Type 0} (test : A → Bool) (l : List A) (a : A) : Type 0 where
  pub earlier : List A
  pub others : List A
  pub stands : l ≡ earlier ++ (a ∷ others)
  pub none_earlier : NoneOf test earlier
  pub taken : test a ≡ true
