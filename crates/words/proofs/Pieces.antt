-- What a reader of a part of a line and the tokens of its values have to do with each other, and how parts are put together.
use Rattle.std.proofs.Common.{ℕ, suc, ◌≡◌, ◌≤◌, Bool, true, false, List, [], ◌∷◌, ◌++◌, refl, sym, ap, ◌∙◌, arith, append_assoc}
use Rattle.std.specs.Prelude.{Option, Some, None, Result, Ok, Err, not}
use Rattle.std.specs.List.{slice_get}
use Rattle.words.specs.Values.{Reader, both, made, one, taken, optional, is_name, ◌>>=◌}
use Rattle.words.specs.declared.fault.Expected.{Expected}
use Rattle.words.specs.declared.fault.WordFault.{WordFault}
use Rattle.words.specs.declared.names.Name.{Name}
use Rattle.words.specs.declared.tokens.Token.{Token}
use Rattle.words.specs.declared.tokens.Token.TheVariants as token

-- these tokens stand from a place on
abbrev pub Stands : List Token → ℕ → List Token → Type 0
Stands ts at [] = Unit {0}
Stands ts at (t ∷ more) = (slice_get ts at ≡ Some t) × Stands ts (suc at) more

-- the place past them
abbrev pub past : ℕ → List Token → ℕ
past at [] = at
past at (t ∷ more) = past (suc at) more

-- two lines have the same tokens up to a place
abbrev pub Agree : List Token → List Token → ℕ → Type 0
Agree ts us to = (m : ℕ) → m ≤ to → slice_get ts m ≡ slice_get us m

-- the last place that a reader has looked at
abbrev pub reach : {A : Type 0} → Result (A × ℕ) WordFault → ℕ
reach (Ok x) = x.1
reach (Err f) = f.word

-- the first of these tokens, or what follows them
abbrev pub first_of : List Token → Option Token → Option Token
first_of [] t = t
first_of (u ∷ us) t = Some u

-- the tokens before a fault begin the tokens of a value
pub record Viable {A : Type 0} (w : A → List Token) (Fits : A → Type 0) (ts : List Token) (at : ℕ) (f : WordFault) : Type 0 where
  pub value : A
  pub front : List Token
  pub more : List Token
  pub fits : Fits value
  pub begins : w value ≡ front ++ more
  pub stands : Stands ts at front
  pub place : f.word ≡ past at front

-- a reader of the values that fit gives a value exactly for its tokens, if what follows them is free
pub record Piece {A : Type 0} (p : Reader A) (w : A → List Token) (Fits : A → Type 0) (free : Option Token → Bool) : Type 0 where
  pub sound : (ts : List Token) (at to : ℕ) (a : A) → p ts at ≡ Ok (a, to) → Stands ts at (w a) × (to ≡ past at (w a)) × Fits a
  pub takes : (ts : List Token) (at : ℕ) (a : A) → Fits a → Stands ts at (w a) → free (slice_get ts (past at (w a))) ≡ true → p ts at ≡ Ok (a, past at (w a))
  pub agrees : (ts us : List Token) (at : ℕ) → Agree ts us (reach (p ts at)) → p us at ≡ p ts at
  pub viable : (ts : List Token) (at : ℕ) (f : WordFault) → p ts at ≡ Err f → Viable w Fits ts at f

-- Lists of tokens.

pub past_append : (at : ℕ) (xs ys : List Token) → past at (xs ++ ys) ≡ past (past at xs) ys
past_append at [] ys = refl
past_append at (x ∷ xs) ys = past_append (suc at) xs ys

pub past_up : (at : ℕ) (xs : List Token) → at ≤ past at xs
past_up at [] = omega arith
past_up at (x ∷ xs) = omega (arith, past_up (suc at) xs)

pub stands_append : (ts : List Token) (at : ℕ) (xs ys : List Token) → Stands ts at xs → Stands ts (past at xs) ys → Stands ts at (xs ++ ys)
stands_append ts at [] ys h g = g
stands_append ts at (x ∷ xs) ys h g = (h.0, stands_append ts (suc at) xs ys h.1 g)

pub stands_front : (ts : List Token) (at : ℕ) (xs ys : List Token) → Stands ts at (xs ++ ys) → Stands ts at xs
stands_front ts at [] ys h = tt
stands_front ts at (x ∷ xs) ys h = (h.0, stands_front ts (suc at) xs ys h.1)

pub stands_back : (ts : List Token) (at : ℕ) (xs ys : List Token) → Stands ts at (xs ++ ys) → Stands ts (past at xs) ys
stands_back ts at [] ys h = h
stands_back ts at (x ∷ xs) ys h = stands_back ts (suc at) xs ys h.1

pub token_after : (ts : List Token) (at : ℕ) (ys : List Token) → Stands ts at ys → slice_get ts at ≡ first_of ys (slice_get ts (past at ys))
token_after ts at [] h = refl
token_after ts at (y ∷ ys) h = h.0

pub agree_less : (ts us : List Token) (to from : ℕ) → Agree ts us to → from ≤ to → Agree ts us from
agree_less ts us to from h l m k = h m (omega (arith, l, k))

-- Results.

value_or : {A : Type 0} → A × ℕ → Result (A × ℕ) WordFault → A × ℕ
value_or d (Ok x) = x
value_or d (Err f) = d

fault_or : {A : Type 0} → WordFault → Result A WordFault → WordFault
fault_or d (Ok x) = d
fault_or d (Err f) = f

abbrev pub answer : {A : Type 0} → A → ℕ → Result (A × ℕ) WordFault
answer a n = Ok (a, n)

pub ok_is : {A : Type 0} (a b : A) (m n : ℕ) → answer a m ≡ answer b n → (a ≡ b) × (m ≡ n)
unfolding value_or
ok_is a b m n e = let pair : (a, m) ≡ (b, n) = ap (value_or (a, m)) e in (ap (λ x. x.0) pair, ap (λ x. x.1) pair)

abbrev pub failed : {A : Type 0} → WordFault → Result A WordFault
failed f = Err f

pub err_is : {A : Type 0} (f g : WordFault) → failed {A = A} f ≡ failed g → f ≡ g
unfolding fault_or
err_is f g e = ap (fault_or f) e

pub ok_no_err : {A : Type 0} {x : A × ℕ} {f : WordFault} → Ok x ≡ failed f → ⊥
ok_no_err e = absurd cc

pub not_true : (b : Bool) → not b ≡ true → b ≡ false
not_true true e = sym e
not_true false e = refl

-- One word.

taken_ok : {A : Type 0} (v : Option A) (what : Expected) (at to : ℕ) (a : A) → taken v what at ≡ Ok (a, to) → (v ≡ Some a) × (to ≡ suc at)
taken_ok (Some x) what at to a e = let same = ok_is x a (suc at) to e in (ap (λ y. Some y) same.0, sym same.1)
taken_ok None what at to a e = absurd cc

taken_err : {A : Type 0} (v : Option A) (what : Expected) (at : ℕ) (f : WordFault) → taken v what at ≡ Err f → f.word ≡ at
taken_err (Some x) what at f e = absurd cc
taken_err None what at f e = cc

taken_reach : {A : Type 0} (v : Option A) (what : Expected) (at : ℕ) → at ≤ reach (taken v what at)
taken_reach (Some x) what at = omega arith
taken_reach None what at = omega arith

-- a value of one word and its token
pub record Reads {A : Type 0} (value : Option Token → Option A) (spell : A → Token) (Fits : A → Type 0) : Type 0 where
  pub reads : (t : Option Token) (a : A) → value t ≡ Some a → (t ≡ Some (spell a)) × Fits a
  pub gives : (a : A) → Fits a → value (Some (spell a)) ≡ Some a

abbrev pub any : Option Token → Bool
any t = true

pub one_piece : {A : Type 0} (value : Option Token → Option A) (what : Expected) (spell : A → Token) (Fits : A → Type 0) (some : A) → Fits some
    → Reads value spell Fits → Piece (one value what) (λ a. spell a ∷ []) Fits any
one_piece value what spell Fits some fits r = record {
  sound = λ ts at to a e.
      let v = taken_ok (value (slice_get ts at)) what at to a e in
      let x = r.reads (slice_get ts at) a v.0 in
      ((x.0, tt), v.1, x.1);
  takes = λ ts at a h s free. rw (s.0, r.gives a h) refl;
  agrees = λ ts us at h. rw (← h at (taken_reach (value (slice_get ts at)) what at)) refl;
  viable = λ ts at f e. record {
    value = some;
    front = [];
    more = spell some ∷ [];
    fits = fits;
    begins = refl;
    stands = tt;
    place = taken_err (value (slice_get ts at)) what at f e;
  };
}

-- One after the other.

abbrev pair : {A B : Type 0} → A × ℕ → B × ℕ → Result ((A × B) × ℕ) WordFault
pair x y = Ok ((x.0, y.0), y.1)

abbrev two : {A B : Type 0} → Result (A × ℕ) WordFault → (A × ℕ → Result (B × ℕ) WordFault) → Result ((A × B) × ℕ) WordFault
two r k = r >>= λ x. k x >>= λ y. pair x y

record Gave {A B : Type 0} (r : Result (A × ℕ) WordFault) (k : A × ℕ → Result (B × ℕ) WordFault) (b : A × B) (to : ℕ) : Type 0 where
  first : A × ℕ
  second : B × ℕ
  first_is : r ≡ Ok first
  second_is : k first ≡ Ok second
  value : b ≡ (first.0, second.0)
  place : to ≡ second.1

second_gave : {A B : Type 0} (x : A × ℕ) (k : A × ℕ → Result (B × ℕ) WordFault) (s : Result (B × ℕ) WordFault) (b : A × B) (to : ℕ)
    → k x ≡ s → (s >>= λ y. pair x y) ≡ answer b to → Gave (Ok x) k b to
second_gave x k (Ok y) b to h e =
    let same = ok_is (x.0, y.0) b y.1 to e in
    record { first = x; second = y; first_is = refl; second_is = h; value = sym same.0; place = sym same.1 }
second_gave x k (Err f) b to h e = absurd cc

gave : {A B : Type 0} (r : Result (A × ℕ) WordFault) (k : A × ℕ → Result (B × ℕ) WordFault) (b : A × B) (to : ℕ) → two r k ≡ answer b to → Gave r k b to
gave (Ok x) k b to e = second_gave x k (k x) b to refl e
gave (Err f) k b to e = absurd cc

data Failed {A B : Type 0} (r : Result (A × ℕ) WordFault) (k : A × ℕ → Result (B × ℕ) WordFault) (f : WordFault) : Type 0 where
  First : r ≡ Err f → Failed r k f
  Second : (x : A × ℕ) → r ≡ Ok x → k x ≡ Err f → Failed r k f

second_failed : {A B : Type 0} (x : A × ℕ) (k : A × ℕ → Result (B × ℕ) WordFault) (s : Result (B × ℕ) WordFault) (f : WordFault)
    → k x ≡ s → (s >>= λ y. pair x y) ≡ failed f → Failed (Ok x) k f
second_failed x k (Ok y) f h e = absurd cc
second_failed x k (Err g) f h e = Second x refl (h ∙ ap (λ g. Err g) (err_is g f e))

two_failed : {A B : Type 0} (r : Result (A × ℕ) WordFault) (k : A × ℕ → Result (B × ℕ) WordFault) (f : WordFault) → two r k ≡ failed f → Failed r k f
two_failed (Ok x) k f e = second_failed x k (k x) f refl e
two_failed (Err g) k f e = First (ap (λ g. Err g) (err_is g f e))

-- how far two readers have looked

second_reach : {A B : Type 0} (x : A × ℕ) (s : Result (B × ℕ) WordFault) → reach (s >>= λ y. pair x y) ≡ reach s
second_reach x (Ok y) = refl
second_reach x (Err f) = refl

pub reach_up : {A : Type 0} {p : Reader A} {w : A → List Token} {Fits : A → Type 0} {free : Option Token → Bool} → Piece p w Fits free
    → (ts : List Token) (at : ℕ) (r : Result (A × ℕ) WordFault) → p ts at ≡ r → at ≤ reach r
reach_up {w = w} piece ts at (Ok x) e = omega (arith, past_up at (w x.0), (piece.sound ts at x.1 x.0 e).1)
reach_up {w = w} piece ts at (Err f) e = let v = piece.viable ts at f e in omega (arith, past_up at v.front, v.place)

module _ {A B : Type 0} {p : Reader A} {q : A → Reader B} {w : A → List Token} {v : A → B → List Token} {F : A → Type 0} {G : A → B → Type 0}
    {free free_between : Option Token → Bool} (first : Piece p w F free_between) (second : (a : A) → F a → Piece (q a) (v a) (G a) free)
    (some : (a : A) → F a → B) (some_fits : (a : A) (h : F a) → G a (some a h))
    (next : (a : A) (b : B) → F a → G a b → (t : Option Token) → free t ≡ true → free_between (first_of (v a b) t) ≡ true) where
  tokens : A × B → List Token
  tokens x = w x.0 ++ v x.0 x.1

  both_sound : (ts : List Token) (at to : ℕ) (x : A × B) → both p q ts at ≡ Ok (x, to)
      → Stands ts at (w x.0 ++ v x.0 x.1) × (to ≡ past at (w x.0 ++ v x.0 x.1)) × (F x.0 × G x.0 x.1)
  both_sound ts at to x e =
      let g = gave (p ts at) (λ y. q y.0 ts y.1) x to e in
      let a = g.first.0 in
      let b = g.second.0 in
      let s = first.sound ts at g.first.1 a g.first_is in
      let t = (second a s.2).sound ts g.first.1 g.second.1 b g.second_is in
      rw g.value (stands_append ts at (w a) (v a b) s.0 (rw (← s.1) t.0), g.place ∙ (t.1 ∙ (ap (λ n. past n (v a b)) s.1 ∙ sym (past_append at (w a) (v a b)))), (s.2, t.2))

  both_takes : (ts : List Token) (at : ℕ) (x : A × B) → F x.0 × G x.0 x.1 → Stands ts at (w x.0 ++ v x.0 x.1)
      → free (slice_get ts (past at (w x.0 ++ v x.0 x.1))) ≡ true → both p q ts at ≡ Ok (x, past at (w x.0 ++ v x.0 x.1))
  both_takes ts at x h s f =
      let a = x.0 in
      let b = x.1 in
      let s1 = stands_front ts at (w a) (v a b) s in
      let s2 = stands_back ts at (w a) (v a b) s in
      let free_end : free (slice_get ts (past (past at (w a)) (v a b))) ≡ true = rw (← past_append at (w a) (v a b)) f in
      let free_mid : free_between (slice_get ts (past at (w a))) ≡ true = rw (token_after ts (past at (w a)) (v a b) s2) (next a b h.0 h.1 _ free_end) in
      rw (first.takes ts at a h.0 s1 free_mid, (second a h.0).takes ts (past at (w a)) b h.1 s2 free_end, past_append at (w a) (v a b)) refl

  both_agrees : (ts us : List Token) (at : ℕ) (r : Result (A × ℕ) WordFault) → p ts at ≡ r → Agree ts us (reach (both p q ts at)) → both p q us at ≡ both p q ts at
  both_agrees ts us at (Ok y) e h =
      let far : Agree ts us (reach (q y.0 ts y.1)) = rw (← second_reach {A = A} y (q y.0 ts y.1)) (rw e at h) in
      let piece = second y.0 (first.sound ts at y.1 y.0 e).2 in
      let near = agree_less ts us (reach (q y.0 ts y.1)) y.1 far (reach_up piece ts y.1 (q y.0 ts y.1) refl) in
      let same : p us at ≡ p ts at = first.agrees ts us at (rw e near) in
      rw (same, e, piece.agrees ts us y.1 far) refl
  both_agrees ts us at (Err f) e h =
      let near : Agree ts us f.word = rw e at h in
      let same : p us at ≡ p ts at = first.agrees ts us at (rw e near) in
      rw (same, e) refl

  both_viable : (ts : List Token) (at : ℕ) (f : WordFault) → Failed (p ts at) (λ y. q y.0 ts y.1) f
      → Viable (λ (x : A × B). w x.0 ++ v x.0 x.1) (λ x. F x.0 × G x.0 x.1) ts at f
  both_viable ts at f (First e) =
      let y = first.viable ts at f e in
      let b = some y.value y.fits in
      record {
        value = (y.value, b);
        front = y.front;
        more = y.more ++ v y.value b;
        fits = (y.fits, some_fits y.value y.fits);
        begins = rw y.begins (append_assoc y.front y.more (v y.value b));
        stands = y.stands;
        place = y.place;
      }
  both_viable ts at f (Second x e k) =
      let s = first.sound ts at x.1 x.0 e in
      let y = (second x.0 s.2).viable ts x.1 f k in
      record {
        value = (x.0, y.value);
        front = w x.0 ++ y.front;
        more = y.more;
        fits = (s.2, y.fits);
        begins = rw y.begins (sym (append_assoc (w x.0) y.front y.more));
        stands = stands_append ts at (w x.0) y.front s.0 (rw (← s.1) y.stands);
        place = y.place ∙ (ap (λ n. past n y.front) s.1 ∙ sym (past_append at (w x.0) y.front));
      }

  pub both_piece : Piece (both p q) (λ x. w x.0 ++ v x.0 x.1) (λ x. F x.0 × G x.0 x.1) free
  both_piece = record {
    sound = both_sound;
    takes = both_takes;
    agrees = λ ts us at h. both_agrees ts us at (p ts at) refl h;
    viable = λ ts at f e. both_viable ts at f (two_failed (p ts at) (λ y. q y.0 ts y.1) f e);
  }

-- Made into something else.

record Unmade {A B : Type 0} (f : A → B) (r : Result (A × ℕ) WordFault) (b : B) (to : ℕ) : Type 0 where
  from : A × ℕ
  from_is : r ≡ Ok from
  value : b ≡ f from.0
  place : to ≡ from.1

unmade : {A B : Type 0} (f : A → B) (r : Result (A × ℕ) WordFault) (b : B) (to : ℕ) → (r >>= λ x. answer (f x.0) x.1) ≡ answer b to → Unmade f r b to
unmade f (Ok x) b to e = let same = ok_is (f x.0) b x.1 to e in record { from = x; from_is = refl; value = sym same.0; place = sym same.1 }
unmade f (Err g) b to e = absurd cc

made_failed : {A B : Type 0} (f : A → B) (r : Result (A × ℕ) WordFault) (g : WordFault) → (r >>= λ x. answer (f x.0) x.1) ≡ failed g → r ≡ Err g
made_failed f (Ok x) g e = absurd cc
made_failed f (Err h) g e = ap (λ h. Err h) (err_is h g e)

made_reach : {A B : Type 0} (f : A → B) (r : Result (A × ℕ) WordFault) → reach (r >>= λ x. answer (f x.0) x.1) ≡ reach r
made_reach f (Ok x) = refl
made_reach f (Err g) = refl

-- a value that something was made from
pub record From {A B : Type 0} (f : A → B) (F : A → Type 0) (b : B) : Type 0 where
  pub value : A
  pub fits : F value
  pub makes : f value ≡ b

module _ {A B : Type 0} (f : A → B) {p : Reader A} {w : A → List Token} {F : A → Type 0} {free : Option Token → Bool} (piece : Piece p w F free)
    (w' : B → List Token) (F' : B → Type 0) (tokens : (a : A) → F a → w' (f a) ≡ w a) (fits : (a : A) → F a → F' (f a)) (from : (b : B) → F' b → From f F b) where
  made_sound : (ts : List Token) (at to : ℕ) (b : B) → made f p ts at ≡ Ok (b, to) → Stands ts at (w' b) × (to ≡ past at (w' b)) × F' b
  made_sound ts at to b e =
      let u = unmade f (p ts at) b to e in
      let s = piece.sound ts at u.from.1 u.from.0 u.from_is in
      rw (u.value, tokens u.from.0 s.2) (s.0, u.place ∙ s.1, fits u.from.0 s.2)

  made_takes : (ts : List Token) (at : ℕ) (b : B) → F' b → Stands ts at (w' b) → free (slice_get ts (past at (w' b))) ≡ true → made f p ts at ≡ Ok (b, past at (w' b))
  made_takes ts at b h s free =
      let x = from b h in
      let same : w' b ≡ w x.value = ap w' (sym x.makes) ∙ tokens x.value x.fits in
      let t = piece.takes ts at x.value x.fits (rw (← same) s) (rw (← same) free) in
      rw t (ap (λ c. answer c (past at (w x.value))) x.makes ∙ ap (λ us. answer b (past at us)) (sym same))

  made_viable : (ts : List Token) (at : ℕ) (g : WordFault) → Viable w F ts at g → Viable w' F' ts at g
  made_viable ts at g v = record {
    value = f v.value;
    front = v.front;
    more = v.more;
    fits = fits v.value v.fits;
    begins = tokens v.value v.fits ∙ v.begins;
    stands = v.stands;
    place = v.place;
  }

  pub made_piece : Piece (made f p) w' F' free
  made_piece = record {
    sound = made_sound;
    takes = made_takes;
    agrees = λ ts us at h. let same = piece.agrees ts us at (rw (← made_reach f (p ts at)) h) in rw same refl;
    viable = λ ts at g e. made_viable ts at g (piece.viable ts at g (made_failed f (p ts at) g e));
  }

-- A name in front of it, or neither.

abbrev pub named : {A : Type 0} → Name → (A → List Token) → Option A → List Token
named n w (Some a) = token.Name n ∷ w a
named n w None = []

abbrev pub IfThere : {A : Type 0} → (A → Type 0) → Option A → Type 0
IfThere F (Some a) = F a
IfThere F None = Unit {0}

-- not this name
abbrev pub other : Name → Option Token → Bool
other n t = not (is_name n t)

record There {A : Type 0} (r : Result (A × ℕ) WordFault) (b : Option A) (to : ℕ) : Type 0 where
  from : A × ℕ
  from_is : r ≡ Ok from
  value : b ≡ Some from.0
  place : to ≡ from.1

there : {A : Type 0} (r : Result (A × ℕ) WordFault) (b : Option A) (to : ℕ) → (r >>= λ x. answer (Some x.0) x.1) ≡ answer b to → There r b to
there (Ok x) b to e = let same = ok_is (Some x.0) b x.1 to e in record { from = x; from_is = refl; value = sym same.0; place = sym same.1 }
there (Err g) b to e = absurd cc

there_failed : {A : Type 0} (r : Result (A × ℕ) WordFault) (g : WordFault) → (r >>= λ x. answer {A = Option A} (Some x.0) x.1) ≡ failed g → r ≡ Err g
there_failed (Ok x) g e = absurd cc
there_failed (Err h) g e = ap (λ h. Err h) (err_is h g e)

there_reach : {A : Type 0} (r : Result (A × ℕ) WordFault) → reach (r >>= λ x. answer {A = Option A} (Some x.0) x.1) ≡ reach r
there_reach (Ok x) = refl
there_reach (Err g) = refl

module _ {A : Type 0} (n : Name) (is : (t : Option Token) → is_name n t ≡ true → t ≡ Some (token.Name n)) (own : is_name n (Some (token.Name n)) ≡ true)
    {p : Reader A} {w : A → List Token} {F : A → Type 0} (piece : Piece p w F any) where
  reader : Reader (Option A)
  reader ts at = optional (is_name n (slice_get ts at)) p ts at

  absent : (ts : List Token) (at : ℕ) → is_name n (slice_get ts at) ≡ false → optional (is_name n (slice_get ts at)) p ts at ≡ Ok (None, at)
  absent ts at e = rw e refl

  present : (ts : List Token) (at : ℕ) → is_name n (slice_get ts at) ≡ true
      → optional (is_name n (slice_get ts at)) p ts at ≡ (p ts (suc at) >>= λ x. answer (Some x.0) x.1)
  present ts at e = rw e refl

  optional_sound : (ts : List Token) (at to : ℕ) (b : Option A) (test : Bool) → is_name n (slice_get ts at) ≡ test
      → optional (is_name n (slice_get ts at)) p ts at ≡ Ok (b, to) → Stands ts at (named n w b) × (to ≡ past at (named n w b)) × IfThere F b
  optional_sound ts at to b true t e =
      let x = there (p ts (suc at)) b to (sym (present ts at t) ∙ e) in
      let s = piece.sound ts (suc at) x.from.1 x.from.0 x.from_is in
      rw x.value ((is (slice_get ts at) t, s.0), x.place ∙ s.1, s.2)
  optional_sound ts at to b false t e =
      let same = ok_is None b at to (sym (absent ts at t) ∙ e) in
      rw (← same.0) (tt, sym same.1, tt)

  optional_takes : (ts : List Token) (at : ℕ) (b : Option A) → IfThere F b → Stands ts at (named n w b) → other n (slice_get ts (past at (named n w b))) ≡ true
      → optional (is_name n (slice_get ts at)) p ts at ≡ Ok (b, past at (named n w b))
  optional_takes ts at (Some a) h s free =
      let here : is_name n (slice_get ts at) ≡ true = rw s.0 own in
      present ts at here ∙ ap (λ r. r >>= λ x. answer (Some x.0) x.1) (piece.takes ts (suc at) a h s.1 refl)
  optional_takes ts at None h s free = absent ts at (not_true (is_name n (slice_get ts at)) free)

  optional_agrees : (ts us : List Token) (at : ℕ) (test : Bool) → is_name n (slice_get ts at) ≡ test → Agree ts us (reach (optional (is_name n (slice_get ts at)) p ts at))
      → optional (is_name n (slice_get us at)) p us at ≡ optional (is_name n (slice_get ts at)) p ts at
  optional_agrees ts us at true t h =
      let far : Agree ts us (reach (p ts (suc at))) = rw (← there_reach (p ts (suc at))) (rw (present ts at t) at h) in
      let same : slice_get ts at ≡ slice_get us at = far at (omega (arith, reach_up piece ts (suc at) (p ts (suc at)) refl)) in
      let here : is_name n (slice_get us at) ≡ true = rw (← same) t in
      present us at here ∙ (ap (λ r. r >>= λ x. answer (Some x.0) x.1) (piece.agrees ts us (suc at) far) ∙ sym (present ts at t))
  optional_agrees ts us at false t h =
      let near : Agree ts us at = rw (absent ts at t) at h in
      let same : slice_get ts at ≡ slice_get us at = near at (omega arith) in
      absent us at (rw (← same) t) ∙ sym (absent ts at t)

  optional_viable : (ts : List Token) (at : ℕ) (f : WordFault) (test : Bool) → is_name n (slice_get ts at) ≡ test
      → optional (is_name n (slice_get ts at)) p ts at ≡ Err f → Viable (named n w) (IfThere F) ts at f
  optional_viable ts at f true t e =
      let v = piece.viable ts (suc at) f (there_failed (p ts (suc at)) f (sym (present ts at t) ∙ e)) in
      record {
        value = Some v.value;
        front = token.Name n ∷ v.front;
        more = v.more;
        fits = v.fits;
        begins = ap (λ us. token.Name n ∷ us) v.begins;
        stands = (is (slice_get ts at) t, v.stands);
        place = v.place;
      }
  optional_viable ts at f false t e = absurd (ok_no_err (sym (absent ts at t) ∙ e))

  pub optional_piece : Piece (λ ts at. optional (is_name n (slice_get ts at)) p ts at) (named n w) (IfThere F) (other n)
  optional_piece = record {
    sound = λ ts at to b e. optional_sound ts at to b (is_name n (slice_get ts at)) refl e;
    takes = optional_takes;
    agrees = λ ts us at h. optional_agrees ts us at (is_name n (slice_get ts at)) refl h;
    viable = λ ts at f e. optional_viable ts at f (is_name n (slice_get ts at)) refl e;
  }

-- Nothing behind it.

abbrev pub is_end : Option Token → Bool
is_end (Some t) = false
is_end None = true

-- less may follow
pub before_end : {A : Type 0} {p : Reader A} {w : A → List Token} {F : A → Type 0} {free : Option Token → Bool} → Piece p w F free
    → ((t : Option Token) → is_end t ≡ true → free t ≡ true) → Piece p w F is_end
before_end piece h = record {
  sound = piece.sound;
  takes = λ ts at a g s f. piece.takes ts at a g s (h _ f);
  agrees = piece.agrees;
  viable = piece.viable;
}
