-- Proofs of specs/TimeLaws.antt. Assumes nothing.
use Rattle.std.proofs.Common.{ℕ, suc, ◌≡◌, ◌+◌, ◌-◌, ◌*◌, ◌/◌, ◌%◌, ◌^◌, ◌≤◌, ◌<◌, Bool, true, false, cond, ◌&&◌, ◌||◌, List, [], ◌∷◌, ◌++◌, length, get_or, take, drop, nat_eq, nat_lt, Option, Some, None, refl, sym, ap, ◌∙◌, arith, append_assoc, append-nil, subst, lt_of_le_of_lt, take-append-drop, take_all, drop_of_length-le, le-mul_of_pos_right, div-one}
use native.Mathlib.Nat.{one-le-pow}
use Rattle.std.specs.List.{list_all, prefix_len}
use Rattle.std.proofs.lemmas.Bool.Decides.{nat_tests}
use Rattle.text.specs.Text.{digits}
use Rattle.text.proofs.DigitLaws.{digits_only, digits_decimal}
use Rattle.units.specs.Units.{micros}
use Rattle.units.specs.declared.Micros.{Micros}
use Rattle.words.proofs.WordLaws.{apart, chosen, number_spelled, some_is, time_read}
use Rattle.words.proofs.WordTokens.{all_such, by_test, by_zeros, digit_other, number_is, scaled_is, seconds_give, shorter, unit_of}
use Rattle.words.proofs.WordsRead.{both}
use Rattle.words.specs.Lexis.{is_other}
use Rattle.words.specs.Names.{name_of, verb_of}
use Rattle.words.specs.Numbers.{is_digit, micros_of, number_after, number_of, parts_of, scaled, scaled_if, seconds_of}
use Rattle.words.specs.Spelling.{fraction, seconds_text}
use Rattle.words.specs.TimeLaws.{Pointed, Spells, TimeLaws, Whole}
use Rattle.words.specs.Tokens.{token_of}
use Rattle.words.specs.declared.tokens.Token.TheVariants as token

-- Whole seconds.

-- an s is no digit
unit_after : (n : ℕ) (s : List ℕ) → number_after n (s ++ (115 ∷ [])) ≡ None
unfolding number_after
unit_after n [] = refl
unit_after n (b ∷ s) = by_test _ _ (unit_after (10 * n + (b - 48)) s)

no_number : (s : List ℕ) → number_of (s ++ (115 ∷ [])) ≡ None
no_number s = by_zeros _ _ (unit_after 0 s)

all_of : (p : ℕ → Bool) (s : List ℕ) → list_all p s ≡ true → prefix_len p s ≡ length s
all_of p [] h = refl
all_of p (b ∷ s) h =
    let t = both (p b) (list_all p s) h in
    rw t.0 (omega (arith, all_of p s t.1))

whole_below : (n : ℕ) → n * 10 ^ 6 < 2 ^ 64 → n < 2 ^ 64
whole_below n h = omega (arith, h)

whole_are : (n : ℕ) → n * 10 ^ 6 < 2 ^ 64 → seconds_of (digits n) ≡ Some (micros (n * 10 ^ 6))
unfolding seconds_of
whole_are n h =
    let s = digits n in
    rw (
      all_of (is_other 46) s (all_such (is_other 46) digit_other s (digits_only n)),
      take_all (length s) s (omega arith),
      drop_of_length-le s {i = length s} (omega arith),
      number_is n (whole_below n h),
    ) (scaled_is n 6 h)

whole_seconds : (n : ℕ) → n * 10 ^ 6 < 2 ^ 64 → token_of (digits n ++ (115 ∷ [])) ≡ token.Time (micros (n * 10 ^ 6))
unfolding token_of
whole_seconds n h = rw (no_number (digits n), unit_of (digits n), whole_are n h) refl

-- With a point.

split_below : (k n : ℕ) → n * 10 ^ (6 - k) < 2 ^ 64 → n < 2 ^ 64
split_below k n h = lt_of_le_of_lt (le-mul_of_pos_right n (one-le-pow (6 - k) 10 (omega arith))) h

fractions : (k n : ℕ) → 1 ≤ k → k ≤ 6 → n * 10 ^ (6 - k) < 2 ^ 64 → token_of (seconds_text k n) ≡ token.Time (micros (n * 10 ^ (6 - k)))
fractions k n some few h = (seconds_give k n some few (split_below k n h) h).token

-- No others.

scaled_value : (n places : ℕ) (t : Micros) → scaled n places ≡ Some t → t.0 ≡ n * 10 ^ places
scaled_value n places t e =
    let c = chosen (nat_lt (n * 10 ^ places) (2 ^ 64)) (Some (micros (n * 10 ^ places))) t e in
    sym (ap (λ t. t.0) (some_is (micros (n * 10 ^ places)) t c.1))

-- the number that is read on tells what stood before it and what was read
record ReadOn (whole n : ℕ) (s : List ℕ) : Type 0 where
  before : whole ≡ n / 10 ^ length s
  behind : s ≡ fraction (length s) n

read_on : (whole n : ℕ) (s : List ℕ) → number_after whole s ≡ Some n → ReadOn whole n s
unfolding number_after
read_on whole n [] e = record { before = some_is whole n e ∙ sym (div-one n); behind = refl }
read_on whole n (b ∷ s) e =
    let m = 10 * whole + (b - 48) in
    let c = chosen (is_digit b && nat_lt m (2 ^ 64)) (number_after m s) n e in
    let d = (both (is_digit b) (nat_lt m (2 ^ 64)) c.0).0 in
    let low : 48 ≤ b = grind (arith, nat_tests, d) in
    let high : b ≤ 57 = grind (arith, nat_tests, d) in
    let more = read_on m n s c.1 in
    let q = n / 10 ^ length s in
    let digit : b ≡ 48 + q % 10 = omega (arith, more.before, low, high) in
    record {
      before = omega (arith, shorter (length s) n, more.before, low, high);
      behind = ap (λ b. b ∷ s) digit ∙ ap (λ s. (48 + q % 10) ∷ s) more.behind;
    }

number_digits : (w : List ℕ) (x : ℕ) → number_of w ≡ Some x → w ≡ digits x
number_digits w x e = let h = number_spelled w x e in h.0 ∙ sym (digits_decimal x h.1)

-- what may stand behind the head
abbrev Tail : List ℕ → Type 0
Tail [] = Unit {0}
Tail (b ∷ s) = b ≡ 46

split_at : (head : List ℕ) (whole : ℕ) (s : List ℕ) (t : Micros) (o : Option ℕ) → number_of head ≡ Some whole → number_after whole s ≡ o
    → 1 ≤ length s → length s ≤ 6 → scaled_if o (6 - length s) ≡ Some t → Spells ((head ++ (46 ∷ s)) ++ (115 ∷ [])) t
split_at head whole s t None h r some few e = absurd cc
split_at head whole s t (Some n) h r some few e =
    let k = length s in
    let on = read_on whole n s r in
    let front : head ≡ digits (n / 10 ^ k) = number_digits head whole h ∙ ap digits on.before in
    Pointed k n some few
    (append_assoc head (46 ∷ s) (115 ∷ [])
    ∙ (ap (λ f. head ++ (46 ∷ (f ++ (115 ∷ [])))) on.behind ∙ ap (λ f. f ++ (46 ∷ (fraction k n ++ (115 ∷ [])))) front))
    (scaled_value n (6 - k) t e)

parts_are : (head rest : List ℕ) (t : Micros) (o : Option ℕ) → number_of head ≡ o → Tail rest → parts_of o rest ≡ Some t
    → Spells ((head ++ rest) ++ (115 ∷ [])) t
parts_are head [] t (Some whole) h p e =
    Whole whole (ap (λ f. f ++ (115 ∷ [])) (append-nil head ∙ number_digits head whole h)) (scaled_value whole 6 t e)
parts_are head (point ∷ s) t (Some whole) h p e =
    let a = apart (nat_eq (length s) 0 || nat_lt 6 (length s)) (scaled_if (number_after whole s) (6 - length s)) t e in
    let some : 1 ≤ length s = grind (arith, nat_tests, a.0) in
    let few : length s ≤ 6 = grind (arith, nat_tests, a.0) in
    rw p (split_at head whole s t (number_after whole s) h refl some few a.1)
parts_are head [] t None h p e = absurd cc
parts_are head (point ∷ s) t None h p e = absurd cc

-- the head ends at the point
tail_by : (b : ℕ) (s : List ℕ) (test : Bool) → is_other 46 b ≡ test → Tail (drop (prefix_len (is_other 46) s) s) → Tail (drop (prefix_len (is_other 46) (b ∷ s)) (b ∷ s))
tail_by b s true e more =
    let next : 1 + prefix_len (is_other 46) s ≡ suc (prefix_len (is_other 46) s) = omega arith in
    rw (e, next) more
tail_by b s false e more = let point : b ≡ 46 = grind (arith, nat_tests, e) in rw e point

tail_is : (s : List ℕ) → Tail (drop (prefix_len (is_other 46) s) s)
tail_is [] = tt
tail_is (b ∷ s) = tail_by b s (is_other 46 b) refl (tail_is s)

seconds_spelled : (s : List ℕ) (t : Micros) → seconds_of s ≡ Some t → Spells (s ++ (115 ∷ [])) t
unfolding seconds_of
seconds_spelled s t e =
    let k = prefix_len (is_other 46) s in
    subst (λ w. Spells (w ++ (115 ∷ [])) t) (take-append-drop k s) (parts_are (take k s) (drop k s) t (number_of (take k s)) refl (tail_is s) e)

last_is : (b : ℕ) (s : List ℕ) → get_or (b ∷ s) (length s) 0 ≡ 115 → take (length s) (b ∷ s) ++ (115 ∷ []) ≡ b ∷ s
last_is b [] h = ap (λ b. b ∷ []) (sym h)
last_is b (c ∷ s) h = ap (λ s. b ∷ s) (last_is c s h)

micros_spelled : (w : List ℕ) (t : Micros) → micros_of w ≡ Some t → Spells w t
unfolding micros_of
micros_spelled [] t e = absurd cc
micros_spelled (b ∷ s) t e =
    let front : length (b ∷ s) - 1 ≡ length s = omega arith in
    let some = apart (nat_eq (length (b ∷ s)) 0) (cond (nat_eq (get_or (b ∷ s) (length (b ∷ s) - 1) 0) 115) (seconds_of (take (length (b ∷ s) - 1) (b ∷ s))) None) t e in
    let read = chosen (nat_eq (get_or (b ∷ s) (length s) 0) 115) (seconds_of (take (length s) (b ∷ s))) t (rw front at some.1) in
    let unit : get_or (b ∷ s) (length s) 0 ≡ 115 = grind (arith, nat_tests, read.0) in
    subst (λ w. Spells w t) (last_is b s unit) (seconds_spelled (take (length s) (b ∷ s)) t read.1)

time_word : (w : List ℕ) (t : Micros) → token_of w ≡ token.Time t → Spells w t
unfolding token_of
time_word w t e = micros_spelled w t (time_read (number_of w) (micros_of w) (verb_of w) (name_of w) t e)

pub time_laws : TimeLaws
time_laws = record { whole_seconds = whole_seconds; fractions = fractions; time_word = time_word }
