-- A whole line: it is read exactly where its tokens are those of a text, and its first fault is the first word with which no text goes on.
use Rattle.std.proofs.Common.{ℕ, zero, suc, ◌≡◌, ◌+◌, ◌≤◌, ◌<◌, Bool, true, false, List, [], ◌∷◌, ◌++◌, length, refl, sym, ap, ◌∙◌, arith, nat_le}
use Rattle.std.specs.Prelude.{Some, None, Result, Ok, Err, ◌↔◌}
use Rattle.std.specs.List.{slice_get}
use Rattle.std.proofs.lemmas.Bool.Decides.{nat_tests}
use Rattle.std.proofs.lemmas.Option.{slice_get_past, slice_get-get_or}
use Rattle.words.specs.Laws.{First, SameUpTo}
use Rattle.words.specs.Tokens.{line_tokens}
use Rattle.words.specs.Values.{Reader, ended, ◌>>=◌}
use Rattle.words.specs.declared.fault.Expected.{Expected}
use Rattle.words.specs.declared.fault.WordFault.{WordFault}
use Rattle.words.specs.declared.tokens.Token.{Token}
use Rattle.words.specs.declared.tokens.Token.TheVariants as token
use Rattle.words.proofs.Pieces.{Agree, Piece, Stands, answer, err_is, failed, is_end, ok_is, past, reach}

-- Lists of tokens.

pub past_is : (at : ℕ) (us : List Token) → past at us ≡ at + length us
past_is at [] = omega arith
past_is at (u ∷ us) = let more = past_is (suc at) us in omega (arith, more)

shifted : (t : Token) (ts : List Token) (at : ℕ) (us : List Token) → Stands (t ∷ ts) (suc at) us → Stands ts at us
shifted t ts at [] h = tt
shifted t ts at (u ∷ us) h = (h.0, shifted t ts (suc at) us h.1)

behind_one : (t : Token) (ts : List Token) (at : ℕ) (us : List Token) → Stands ts at us → Stands (t ∷ ts) (suc at) us
behind_one t ts at [] h = tt
behind_one t ts at (u ∷ us) h = (h.0, behind_one t ts (suc at) us h.1)

pub stands_self : (us : List Token) → Stands us 0 us
stands_self [] = tt
stands_self (u ∷ us) = (refl, behind_one u us 0 us (stands_self us))

some_token : (t u : Token) → Some t ≡ Some u → t ≡ u
some_token t u e = cc

pub stands_all : (ts us : List Token) → Stands ts 0 us → length ts ≤ length us → ts ≡ us
stands_all [] [] h l = refl
stands_all [] (u ∷ us) h l = absurd cc
stands_all (t ∷ ts) [] h l = absurd (omega (arith, l))
stands_all (t ∷ ts) (u ∷ us) h l = ap (λ x. x ∷ ts) (some_token t u h.0) ∙ ap (λ x. u ∷ x) (stands_all ts us (shifted t ts 0 us h.1) (omega (arith, l)))

pub stands_same : (ts front more : List Token) → Stands ts 0 front → (m : ℕ) → m < length front → slice_get ts m ≡ slice_get (front ++ more) m
stands_same ts [] more h m l = absurd (omega (arith, l))
stands_same [] (u ∷ us) more h m l = absurd cc
stands_same (t ∷ ts) (u ∷ us) more h zero l = h.0
stands_same (t ∷ ts) (u ∷ us) more h (suc m) l = stands_same ts us more (shifted t ts 0 us h.1) m (omega (arith, l))

-- Whole lines.

abbrev pub whole_line : {A : Type 0} → Reader A → (A → Expected) → List Token → Result A WordFault
whole_line p more ts = p ts 0 >>= λ x. ended (more x.0) x.0 ts x.1

value_of : {A : Type 0} → A → Result A WordFault → A
value_of d (Ok x) = x
value_of d (Err f) = d

abbrev told : {A : Type 0} → A → Result A WordFault
told x = Ok x

value_is : {A : Type 0} (a b : A) → told a ≡ told b → a ≡ b
unfolding value_of
value_is a b e = ap (value_of a) e

told_no_err : {A : Type 0} {x : A} {f : WordFault} → told x ≡ failed f → ⊥
told_no_err e = absurd cc

err_no_ok : {A : Type 0} {x : A × ℕ} {f : WordFault} → failed f ≡ Ok x → ⊥
err_no_ok e = absurd cc

some_no_none : {t : Token} → Some t ≡ None → ⊥
some_no_none e = absurd cc

append_nil : (us : List Token) → us ++ [] ≡ us
append_nil [] = refl
append_nil (u ∷ us) = ap (λ vs. u ∷ vs) (append_nil us)

-- how a line ends
data Ended {A : Type 0} (ts : List Token) (x : A × ℕ) (r : Result A WordFault) : Type 0 where
  AtEnd : length ts ≤ x.1 → r ≡ told x.0 → Ended ts x r
  TooLong : (f : WordFault) → x.1 < length ts → f.word ≡ x.1 → r ≡ failed f → Ended ts x r

ended_by : {A : Type 0} (what : Expected) (ts : List Token) (x : A × ℕ) (test : Bool) → nat_le (length ts) x.1 ≡ test → Ended ts x (ended what x.0 ts x.1)
ended_by what ts x true e = AtEnd (grind (arith, nat_tests, e)) (rw e refl)
ended_by what ts x false e = TooLong (record { word = x.1; expected = what }) (grind (arith, nat_tests, e)) refl (rw e refl)

how_ended : {A : Type 0} (what : Expected) (ts : List Token) (x : A × ℕ) → Ended ts x (ended what x.0 ts x.1)
how_ended what ts x = ended_by what ts x (nat_le (length ts) x.1) refl

-- a value whose tokens begin so
pub record Begun {A : Type 0} (w : A → List Token) (Fits : A → Type 0) (front : List Token) : Type 0 where
  pub value : A
  pub fits : Fits value
  pub more : List Token
  pub begins : w value ≡ front ++ more

module _ {A : Type 0} {p : Reader A} {w : A → List Token} {F : A → Type 0} (piece : Piece p w F is_end) (more : A → Expected)
    (text : A → List ℕ) (Fits : A → Type 0) (said : (a : A) → Fits a → line_tokens (text a) ≡ w a) (weaker : (a : A) → Fits a → F a)
    (stronger : (line : List ℕ) (a : A) → F a → Stands (line_tokens line) 0 (w a) → Fits a)
    (begun : (line : List ℕ) (a : A) (front rest : List Token) → F a → w a ≡ front ++ rest → Stands (line_tokens line) 0 front → Begun w Fits front) where
  -- of the text's own tokens
  own : (a : A) → F a → p (w a) 0 ≡ Ok (a, length (w a))
  own a h =
      let end : past 0 (w a) ≡ length (w a) = past_is 0 (w a) ∙ omega arith in
      let free : is_end (slice_get (w a) (past 0 (w a))) ≡ true = rw (end, slice_get_past (w a) (length (w a)) (omega arith)) refl in
      piece.takes (w a) 0 a h (stands_self (w a)) free ∙ ap (λ n. answer a n) end

  ended_all : (a : A) → Ended (w a) (a, length (w a)) (ended (more a) a (w a) (length (w a))) → ended (more a) a (w a) (length (w a)) ≡ Ok a
  ended_all a (AtEnd l e) = e
  ended_all a (TooLong f l g e) = absurd (omega (arith, l))

  own_line : (a : A) → F a → whole_line p more (w a) ≡ Ok a
  own_line a h = rw (own a h) (ended_all a (how_ended (more a) (w a) (a, length (w a))))

  -- what a line was read as stands in it, and it ends there

  read_ended : (ts : List Token) (x : A × ℕ) (a : A) → p ts 0 ≡ Ok x → Ended ts x (ended (more x.0) x.0 ts x.1) → ended (more x.0) x.0 ts x.1 ≡ told a
      → Stands ts 0 (w a) × (length ts ≤ length (w a)) × F a
  read_ended ts x a r (AtEnd l e) g =
      let same : x.0 ≡ a = value_is x.0 a (sym e ∙ g) in
      let s = piece.sound ts 0 x.1 x.0 r in
      let long : length ts ≤ length (w x.0) = omega (arith, l, s.1, past_is 0 (w x.0)) in
      rw (← same) (s.0, long, s.2)
  read_ended ts x a r (TooLong f l k e) g = absurd (told_no_err (sym g ∙ e))

  read_by : (ts : List Token) (r : Result (A × ℕ) WordFault) (a : A) → p ts 0 ≡ r → (r >>= λ x. ended (more x.0) x.0 ts x.1) ≡ told a
      → Stands ts 0 (w a) × (length ts ≤ length (w a)) × F a
  read_by ts (Ok x) a r g = read_ended ts x a r (how_ended (more x.0) ts x) g
  read_by ts (Err f) a r g = absurd cc

  pub line_exact : (line : List ℕ) (a : A) → (whole_line p more (line_tokens line) ≡ Ok a) ↔ (Fits a × (line_tokens line ≡ line_tokens (text a)))
  line_exact line a = (
    λ e.
        let r = read_by (line_tokens line) (p (line_tokens line) 0) a refl e in
        let fits = stronger line a r.2 r.0 in
        (fits, stands_all (line_tokens line) (w a) r.0 r.1 ∙ sym (said a fits)),
    λ h. rw (h.1, said a h.0) (own_line a (weaker a h.0)),
  )

  pub line_again : (a : A) → Fits a → whole_line p more (line_tokens (text a)) ≡ Ok a
  line_again a h = rw (said a h) (own_line a (weaker a h))

  -- faults

  agreed : (ts us : List Token) (n : ℕ) → SameUpTo (suc n) ts us → Agree ts us n
  agreed ts us n h m l = h m (omega (arith, l))

  other_fault : (ts : List Token) (f : WordFault) (x : A) → F x → p ts 0 ≡ failed f → SameUpTo (suc f.word) ts (w x) → ⊥
  other_fault ts f x h e same =
      let reached : Agree ts (w x) (reach (p ts 0)) = rw e (agreed ts (w x) f.word same) in
      err_no_ok (sym (piece.agrees ts (w x) 0 reached ∙ e) ∙ own x h)

  too_long : (ts : List Token) (x : A × ℕ) (a : A) → F a → p ts 0 ≡ Ok x → x.1 < length ts → SameUpTo (suc x.1) ts (w a) → ⊥
  too_long ts x a h e l same =
      let reached : Agree ts (w a) (reach (p ts 0)) = rw e (agreed ts (w a) x.1 same) in
      let ends = ok_is x.0 a x.1 (length (w a)) (sym (piece.agrees ts (w a) 0 reached ∙ e) ∙ own a h) in
      let there = slice_get-get_or ts x.1 token.Other l in
      let past : slice_get (w a) x.1 ≡ None = slice_get_past (w a) x.1 (omega (arith, ends.1)) in
      some_no_none (sym there ∙ (same x.1 (omega arith) ∙ past))

  first_viable : (line : List ℕ) (f : WordFault) → p (line_tokens line) 0 ≡ failed f → First Fits text line f
  first_viable line f e =
      let v = piece.viable (line_tokens line) 0 f e in
      let b = begun line v.value v.front v.more v.fits v.begins v.stands in
      let at : f.word ≡ length v.front = omega (arith, v.place, past_is 0 v.front) in
      record {
        right = b.value;
        fits = b.fits;
        before = λ m l. rw (said b.value b.fits, b.begins) (stands_same (line_tokens line) v.front b.more v.stands m (omega (arith, l, at)));
        with_it = λ x h same. other_fault (line_tokens line) f x (weaker x h) e (rw (said x h) at same);
      }

  first_ended : (line : List ℕ) (x : A × ℕ) (f : WordFault) → p (line_tokens line) 0 ≡ Ok x → Ended (line_tokens line) x (ended (more x.0) x.0 (line_tokens line) x.1)
      → ended (more x.0) x.0 (line_tokens line) x.1 ≡ failed f → First Fits text line f
  first_ended line x f r (AtEnd l e) g = absurd (told_no_err (sym e ∙ g))
  first_ended line x f r (TooLong k l at e) g =
      let s = piece.sound (line_tokens line) 0 x.1 x.0 r in
      let fits = stronger line x.0 s.2 s.0 in
      let same : k ≡ f = err_is k f (sym e ∙ g) in
      let place : f.word ≡ x.1 = ap (λ f. f.word) (sym same) ∙ at in
      let long : x.1 ≡ length (w x.0) = omega (arith, s.1, past_is 0 (w x.0)) in
      record {
        right = x.0;
        fits = fits;
        before = λ m h. rw (said x.0 fits, ← append_nil (w x.0)) (stands_same (line_tokens line) (w x.0) [] s.0 m (omega (arith, h, place, long)));
        with_it = λ a h same. too_long (line_tokens line) x a (weaker a h) r l (rw (said a h, place) at same);
      }

  first_by : (line : List ℕ) (r : Result (A × ℕ) WordFault) (f : WordFault) → p (line_tokens line) 0 ≡ r
      → (r >>= λ x. ended (more x.0) x.0 (line_tokens line) x.1) ≡ failed f → First Fits text line f
  first_by line (Ok x) f r g = first_ended line x f r (how_ended (more x.0) (line_tokens line) x) g
  first_by line (Err k) f r g = first_viable line f (r ∙ ap (λ k. failed k) (err_is k f g))

  pub line_fault : (line : List ℕ) (f : WordFault) → whole_line p more (line_tokens line) ≡ Err f → First Fits text line f
  line_fault line f e = first_by line (p (line_tokens line) 0) f refl e
