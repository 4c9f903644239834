-- Scenes by place: which place decides, in the words of docs/RULES.md. Proofs for specs/Laws.antt. Assumes nothing.
use Rattle.std.specs.Prelude.{Some, None}
use Prim.Native.Nat.{ℕ, zero, suc, ◌<◌}
use mathlib.Core.Bool.{Bool, true, false, ◌&&◌, true≢false}
use mathlib.Core.Path.{◌≡◌, refl, sym, ap, subst, ◌∙◌}
use mathlib.Core.List.{List, [], ◌∷◌}
use mathlib.Core.Logic.{◌↔◌}
use native.Mathlib.Omega.{arith}
use borrow.Author.Tests.{eqb-true, leb-true, eq-eqb, le-leb}
use lib.Dec.{eqb, leb}
use Rattle.std.proofs.lemmas.Bool.{and_from, and_parts}
use Rattle.std.proofs.lemmas.Option.{none-some, same_Some}
use Rattle.transitions.specs.Laws.{DecidesAt}
use Rattle.transitions.specs.Scene.{scene_level}
use Rattle.transitions.specs.Types.{Level}

abbrev NoneBefore : List ℕ → List ℕ → ℕ → Type 0
NoneBefore ids values i = (j w : ℕ) → j < i → DecidesAt ids values j w → ⊥

abbrev FirstAt : List ℕ → List ℕ → ℕ → Type 0
FirstAt ids values v = (i : ℕ) × DecidesAt ids values i v × NoneBefore ids values i

-- The first pair of two lists, and those after it

module _ (id value : ℕ) (ids values : List ℕ) where
  abbrev here : Bool
  here = eqb id 0 && leb value 255

  taken : here ≡ true → scene_level (id ∷ ids) (value ∷ values) ≡ Some value
  unfolding scene_level
  taken e = rw e refl

  passed : here ≡ false → scene_level (id ∷ ids) (value ∷ values) ≡ scene_level ids values
  unfolding scene_level
  passed e = rw e refl

  is_here : here ≡ true → DecidesAt (id ∷ ids) (value ∷ values) 0 value
  is_here e = record {
    id_0 = ap Some (eqb-true id 0 (and_parts (eqb id 0) (leb value 255) e).0);
    its_value = refl;
    known = leb-true value 255 (and_parts (eqb id 0) (leb value 255) e).1;
  }

  is_value : (v : ℕ) → DecidesAt (id ∷ ids) (value ∷ values) 0 v → value ≡ v
  is_value v d = same_Some value v d.its_value

  decides_here : (v : ℕ) → DecidesAt (id ∷ ids) (value ∷ values) 0 v → here ≡ true
  decides_here v d =
      and_from (eqb id 0) (leb value 255) (eq-eqb id 0 (same_Some id 0 d.id_0)) (le-leb value 255 (omega (arith, is_value v d, d.known)))

  further : (i v : ℕ) → DecidesAt ids values i v → DecidesAt (id ∷ ids) (value ∷ values) (suc i) v
  further i v d = record { id_0 = d.id_0; its_value = d.its_value; known = d.known }

  nearer : (i v : ℕ) → DecidesAt (id ∷ ids) (value ∷ values) (suc i) v → DecidesAt ids values i v
  nearer i v d = record { id_0 = d.id_0; its_value = d.its_value; known = d.known }

  -- a first pair that does not decide changes nothing for the places after it
  still_none : (i : ℕ) → here ≡ false → NoneBefore ids values i → NoneBefore (id ∷ ids) (value ∷ values) (suc i)
  still_none i e n zero w h d = true≢false (sym (decides_here w d) ∙ e)
  still_none i e n (suc j) w h d = n j w (omega arith) (nearer j w d)

-- Some v: at the first place that decides, and there alone

place : (ids values : List ℕ) (v : ℕ) → scene_level ids values ≡ Some v → FirstAt ids values v
unfolding scene_level
place [] values v e = absurd (none-some v e)
place (id ∷ ids) [] v e = absurd (none-some v e)
place (id ∷ ids) (value ∷ values) v e = go (here id value ids values) refl (place ids values v)
  where
    go : (b : Bool) → here id value ids values ≡ b → (scene_level ids values ≡ Some v → FirstAt ids values v) → FirstAt (id ∷ ids) (value ∷ values) v
    go true t r =
        let same : value ≡ v = same_Some value v (sym (taken id value ids values t) ∙ e) in
        (0, subst (DecidesAt (id ∷ ids) (value ∷ values) 0) same (is_here id value ids values t), λ j w h d. absurd (omega arith))
    go false f r =
        let found : FirstAt ids values v = r (sym (passed id value ids values f) ∙ e) in
        (suc found.0, further id value ids values found.0 v found.1, still_none id value ids values found.0 f found.2)

at_place : (ids values : List ℕ) (i v : ℕ) → DecidesAt ids values i v → NoneBefore ids values i → scene_level ids values ≡ Some v
at_place [] values i v d n = absurd (none-some 0 d.id_0)
at_place (id ∷ ids) [] i v d n = absurd (none-some v d.its_value)
at_place (id ∷ ids) (value ∷ values) zero v d n =
    taken id value ids values (decides_here id value ids values v d) ∙ ap Some (is_value id value ids values v d)
at_place (id ∷ ids) (value ∷ values) (suc i) v d n = go (here id value ids values) refl (at_place ids values i v)
  where
    go : (b : Bool) → here id value ids values ≡ b → (DecidesAt ids values i v → NoneBefore ids values i → scene_level ids values ≡ Some v)
        → scene_level (id ∷ ids) (value ∷ values) ≡ Some v
    go true t r = absurd (n 0 value (omega arith) (is_here id value ids values t))
    go false f r =
        passed id value ids values f
        ∙ r (nearer id value ids values i v d) (λ j w h e. n (suc j) w (omega arith) (further id value ids values j w e))

pub scene_at : (ids values : List ℕ) (v : ℕ) → (scene_level ids values ≡ Some v) ↔ FirstAt ids values v
scene_at ids values v = (place ids values v, λ h. at_place ids values h.0 v h.1 h.2)

-- None: at no place

nowhere : (ids values : List ℕ) → scene_level ids values ≡ None → (i v : ℕ) → DecidesAt ids values i v → ⊥
nowhere [] values e i v d = none-some 0 d.id_0
nowhere (id ∷ ids) [] e i v d = none-some v d.its_value
nowhere (id ∷ ids) (value ∷ values) e i v d = go (here id value ids values) refl i d (nowhere ids values)
  where
    go : (b : Bool) → here id value ids values ≡ b → (k : ℕ) → DecidesAt (id ∷ ids) (value ∷ values) k v
        → (scene_level ids values ≡ None → (i w : ℕ) → DecidesAt ids values i w → ⊥) → ⊥
    go true t k p r = none-some value (sym e ∙ taken id value ids values t)
    go false f zero p r = true≢false (sym (decides_here id value ids values v p) ∙ f)
    go false f (suc k) p r = r (sym (passed id value ids values f) ∙ e) k v (nearer id value ids values k v p)

pub scene_nowhere : (ids values : List ℕ) → (scene_level ids values ≡ None) ↔ ((i v : ℕ) → DecidesAt ids values i v → ⊥)
scene_nowhere ids values = (nowhere ids values, go (scene_level ids values) refl)
  where
    go : (l : Level) → scene_level ids values ≡ l → ((i v : ℕ) → DecidesAt ids values i v → ⊥) → scene_level ids values ≡ None
    go (Some v) e n = let found : FirstAt ids values v = place ids values v e in absurd (n found.0 v found.1)
    go None e n = e
