-- What `first_where` gives: the value of the first element that the test takes. Assumes nothing.
use mathlib.Core.Bool.{Bool, true, false}
use mathlib.Core.Path.{◌≡◌, refl}
use mathlib.Core.List.{List, [], ◌∷◌, ◌++◌}
use mathlib.Core.Logic.{◌⊎◌, inl, inr}
use Rattle.transitions.specs.Search.{first_where, NoneOf, First}

module _ {A B : Type 0} (test : A → Bool) (value : A → B) (none : B) where
  found_behind : (earlier others : List A) (a : A) → NoneOf test earlier → test a ≡ true
      → first_where test value none (earlier ++ (a ∷ others)) ≡ value a
  found_behind [] others a n e = rw e refl
  found_behind (x ∷ earlier) others a n e = rw n.0 (found_behind earlier others a n.1 e)

  pub found : (l : List A) (a : A) → First test l a → first_where test value none l ≡ value a
  found l a f = rw f.stands (found_behind f.earlier f.others a f.none_earlier f.taken)

  pub missed : (l : List A) → NoneOf test l → first_where test value none l ≡ none
  missed [] n = refl
  missed (x ∷ l) n = rw n.0 (missed l n.1)

module _ {A : Type 0} (test : A → Bool) where
  behind : (x a : A) (l : List A) → test x ≡ false → First test l a → First test (x ∷ l) a
  behind x a l e f = record {
    earlier = x ∷ f.earlier;
    others = f.others;
    stands = rw f.stands refl;
    none_earlier = (e, f.none_earlier);
    taken = f.taken;
  }

  -- a list has a first element that the test takes, or none
  pub either : (l : List A) → ((a : A) × First test l a) ⊎ NoneOf test l
  either [] = inr tt
  either (x ∷ l) = go (test x) refl (either l)
    where
      go : (b : Bool) → test x ≡ b → ((a : A) × First test l a) ⊎ NoneOf test l → ((a : A) × First test (x ∷ l) a) ⊎ NoneOf test (x ∷ l)
      go true e r = inl (x, record { earlier = []; others = l; stands = refl; none_earlier = tt; taken = e })
      go false e (inl f) = inl (f.0, behind x f.0 l e f.1)
      go false e (inr n) = inr (e, n)
