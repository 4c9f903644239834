-- Each kind of word that is written is a word, and gives its token. Assumes nothing.
use Rattle.std.proofs.Common.{ℕ, zero, suc, ◌≡◌, ◌+◌, ◌-◌, ◌*◌, ◌/◌, ◌%◌, ◌^◌, ◌≤◌, ◌<◌, Bool, true, false, ◌&&◌, cond, List, [], ◌∷◌, ◌++◌, length, get_or, nat_lt, Option, Some, None, refl, sym, ap, ◌∙◌, arith, ⊎_elim, length-append, append_assoc, take_at, drop_at, pow-suc, div-one, div-le_self}
use native.Mathlib.Nat.{div-div-eq-div-mul}
use borrow.Author.Tests.{ne_eqb, lt-ltb, le-leb, le-ltb}
use Rattle.std.specs.List.{list_all, prefix_len}
use Rattle.std.proofs.Math.Seq.{get_or-append_seam}
use Rattle.std.proofs.lemmas.Bool.{cases_lt}
use Rattle.std.proofs.lemmas.Bool.Decides.{nat_tests}
use Rattle.std.proofs.lemmas.Fmt.{decimal_nonempty, first_decimal}
use Rattle.std.proofs.lemmas.List.Folds.{list_all-append}
use Rattle.text.specs.Laws.{All, Digit, read_after}
use Rattle.text.specs.Text.{digits}
use Rattle.text.proofs.DigitLaws.{digits_read, digits_only, digits_one, digits_decimal}
use Rattle.units.specs.Units.{micros}
use Rattle.words.proofs.WordsRead.{both, from_both, is_word, word_from, Gives}
use Rattle.words.specs.Lexis.{is_inner, is_other}
use Rattle.words.specs.Names.{name_of, name_text, verb_of, verb_text}
use Rattle.words.specs.Numbers.{is_digit, micros_of, number_after, number_of, scaled, seconds_of}
use Rattle.words.specs.Spelling.{fraction, seconds_text}
use Rattle.words.specs.Tokens.{token_of}
use Rattle.words.specs.declared.names.CommandVerb.TheVariants as command
use Rattle.words.specs.declared.names.Name.{Name}
use Rattle.words.specs.declared.names.Name.TheVariants as name
use Rattle.words.specs.declared.names.Verb.{Verb}
use Rattle.words.specs.declared.names.Verb.TheVariants as verb
use Rattle.words.specs.declared.tokens.Token.TheVariants as token

-- Names and verbs.

name_token : (n : Name) → token_of (name_text n) ≡ token.Name n
unfolding token_of number_after micros_of seconds_of verb_of name_of
name_token name.On = refl
name_token n = refl

name_inner : (n : Name) → is_word (name_text n) ≡ true
name_inner name.On = refl
name_inner n = refl

pub name_gives : (n : Name) → Gives (name_text n) (token.Name n)
name_gives n = record { word = name_inner n; token = name_token n }

verb_token : (v : Verb) → token_of (verb_text v) ≡ token.Verb v
unfolding token_of number_after micros_of seconds_of verb_of name_of
verb_token (verb.Command command.Move) = refl
verb_token (verb.Command c) = refl
verb_token v = refl

verb_inner : (v : Verb) → is_word (verb_text v) ≡ true
verb_inner (verb.Command command.Move) = refl
verb_inner (verb.Command c) = refl
verb_inner v = refl

pub verb_gives : (v : Verb) → Gives (verb_text v) (token.Verb v)
verb_gives v = record { word = verb_inner v; token = verb_token v }

-- Numbers.

pub all_such : (p : ℕ → Bool) → ((b : ℕ) → Digit b → p b ≡ true) → (s : List ℕ) → All Digit s → list_all p s ≡ true
all_such p f [] d = refl
all_such p f (b ∷ s) d = from_both (p b) (list_all p s) (f b d.0) (all_such p f s d.1)

digit_test : (b : ℕ) → Digit b → is_digit b ≡ true
digit_test b d = rw (le-leb 48 b d.0, le-leb b 57 d.1) refl

digit_inner : (b : ℕ) → Digit b → is_inner b ≡ true
digit_inner b d = grind (arith, nat_tests, d.0, d.1)

-- reading on only makes it larger
grows : (n : ℕ) (s : List ℕ) → n ≤ read_after n s
grows n [] = omega arith
grows n (b ∷ s) = omega (arith, grows (10 * n + (b - 48)) s)

after_read : (n : ℕ) (s : List ℕ) → All Digit s → read_after n s < 2 ^ 64 → number_after n s ≡ Some (read_after n s)
unfolding number_after
after_read n [] d h = refl
after_read n (b ∷ s) d h =
    let next = 10 * n + (b - 48) in
    rw (digit_test b d.0, lt-ltb next (2 ^ 64) (omega (arith, grows next s, h))) (after_read next s d.1 h)

digits_after : (x : ℕ) → x < 2 ^ 64 → number_after 0 (digits x) ≡ Some x
digits_after x h = after_read 0 (digits x) (digits_only x) (rw (digits_read x h) h) ∙ ap Some (digits_read x h)

and_false : (b : Bool) → (b && false) ≡ false
and_false true = refl
and_false false = refl

pub number_is : (x : ℕ) → x < 2 ^ 64 → number_of (digits x) ≡ Some x
number_is x h = ⊎_elim
    (λ g. ap number_of (digits_one x g) ∙ (ap (number_after 0) (sym (digits_one x g)) ∙ digits_after x h))
    (λ g.
    let some : 0 < length (digits x) = rw (digits_decimal x h) (decimal_nonempty x h) in
    let head : 48 < get_or (digits x) 0 0 = rw (digits_decimal x h) (first_decimal x (omega arith) h) in
    rw (
      ne_eqb (length (digits x)) 0 (λ e. omega (arith, some, e)),
      ne_eqb (get_or (digits x) 0 0) 48 (λ e. omega (arith, head, e)),
      and_false (nat_lt 1 (length (digits x))),
    ) (digits_after x h)) (cases_lt x 10)

digits_some : (x : ℕ) → x < 2 ^ 64 → 1 ≤ length (digits x)
digits_some x h = rw (digits_decimal x h) (decimal_nonempty x h)

digits_inner : (x : ℕ) → list_all is_inner (digits x) ≡ true
digits_inner x = all_such is_inner digit_inner (digits x) (digits_only x)

number_token : (x : ℕ) → x < 2 ^ 64 → token_of (digits x) ≡ token.Number x
unfolding token_of
number_token x h = rw (number_is x h) refl

pub number_gives : (x : ℕ) → x < 2 ^ 64 → Gives (digits x) (token.Number x)
number_gives x h = record { word = word_from (digits x) (digits_inner x) (digits_some x h); token = number_token x h }

-- Times.

-- k digits behind the point
fraction_length : (k n : ℕ) → length (fraction k n) ≡ k
fraction_length zero n = refl
fraction_length (suc k) n = ap suc (fraction_length k n)

fraction_digits : (k n : ℕ) → All Digit (fraction k n)
fraction_digits zero n = tt
fraction_digits (suc k) n = ((omega arith, omega arith), fraction_digits k n)

pub shorter : (k n : ℕ) → n / 10 ^ suc k ≡ n / 10 ^ k / 10
shorter k n = ap (λ d. n / d) (pow-suc 10 k) ∙ sym (div-div-eq-div-mul n (10 ^ k) 10)

-- the digits behind the point, read behind those before it, are the number
fraction_after : (k n : ℕ) → n < 2 ^ 64 → number_after (n / 10 ^ k) (fraction k n) ≡ Some n
unfolding number_after
fraction_after zero n h = ap Some (div-one n)
fraction_after (suc k) n h =
    let q = n / 10 ^ k in
    let same : 10 * (n / 10 ^ suc k) + (48 + q % 10 - 48) ≡ q = rw (shorter k n) (omega arith) in
    let below : q < 2 ^ 64 = omega (arith, h, div-le_self n (10 ^ k)) in
    rw (same, digit_test (48 + q % 10) (omega arith, omega arith), lt-ltb q (2 ^ 64) below) (fraction_after k n h)

-- a point is no digit
pub by_test : (b : Bool) (x : Option ℕ) → x ≡ None → cond b x None ≡ None
by_test true x e = e
by_test false x e = refl

point_after : (n : ℕ) (s rest : List ℕ) → number_after n (s ++ (46 ∷ rest)) ≡ None
unfolding number_after
point_after n [] rest = refl
point_after n (b ∷ s) rest = by_test _ _ (point_after (10 * n + (b - 48)) s rest)

pub by_zeros : (b : Bool) (x : Option ℕ) → x ≡ None → cond b None x ≡ None
by_zeros true x e = refl
by_zeros false x e = e

no_number : (s rest : List ℕ) → number_of (s ++ (46 ∷ rest)) ≡ None
no_number s rest = by_zeros _ _ (point_after 0 s rest)

-- behind a number that ends with an s
pub unit_of : (s : List ℕ) → micros_of (s ++ (115 ∷ [])) ≡ seconds_of s
unfolding micros_of
unit_of s =
    let long : length (s ++ (115 ∷ [])) ≡ suc (length s) = rw length-append (omega arith) in
    let last : length (s ++ (115 ∷ [])) - 1 ≡ length s = omega (arith, long) in
    let unit : get_or (s ++ (115 ∷ [])) (length s) 0 ≡ 115 = get_or-append_seam s 115 [] 0 in
    rw (ne_eqb (length (s ++ (115 ∷ []))) 0 (λ e. omega (arith, long, e)), last, unit, take_at s (115 ∷ []) (length s) refl) refl

point_at : (s rest : List ℕ) → list_all (is_other 46) s ≡ true → prefix_len (is_other 46) (s ++ (46 ∷ rest)) ≡ length s
point_at [] rest h = refl
point_at (b ∷ s) rest h =
    let t = both (is_other 46 b) (list_all (is_other 46) s) h in
    rw t.0 (omega (arith, point_at s rest t.1))

pub digit_other : (b : ℕ) → Digit b → is_other 46 b ≡ true
digit_other b d = grind (arith, nat_tests, d.0, d.1)

pub scaled_is : (n places : ℕ) → n * 10 ^ places < 2 ^ 64 → scaled n places ≡ Some (micros (n * 10 ^ places))
scaled_is n places h = rw (lt-ltb (n * 10 ^ places) (2 ^ 64) h) refl

seconds_are : (k n : ℕ) → 1 ≤ k → k ≤ 6 → n < 2 ^ 64 → n * 10 ^ (6 - k) < 2 ^ 64
    → seconds_of (digits (n / 10 ^ k) ++ (46 ∷ fraction k n)) ≡ Some (micros (n * 10 ^ (6 - k)))
unfolding seconds_of
seconds_are k n some few wide h =
    let whole = digits (n / 10 ^ k) in
    let below : n / 10 ^ k < 2 ^ 64 = omega (arith, wide, div-le_self n (10 ^ k)) in
    rw (
      point_at whole (fraction k n) (all_such (is_other 46) digit_other whole (digits_only (n / 10 ^ k))),
      take_at whole (46 ∷ fraction k n) (length whole) refl,
      drop_at whole (46 ∷ fraction k n) (length whole) refl,
      number_is (n / 10 ^ k) below,
      fraction_length k n,
      ne_eqb k 0 (λ e. omega (arith, some, e)),
      le-ltb 6 k few,
      fraction_after k n wide,
    ) (scaled_is n (6 - k) h)

apart : (k n : ℕ) → seconds_text k n ≡ (digits (n / 10 ^ k) ++ (46 ∷ fraction k n)) ++ (115 ∷ [])
apart k n = sym (append_assoc (digits (n / 10 ^ k)) (46 ∷ fraction k n) (115 ∷ []))

seconds_micros : (k n : ℕ) → 1 ≤ k → k ≤ 6 → n < 2 ^ 64 → n * 10 ^ (6 - k) < 2 ^ 64
    → micros_of (seconds_text k n) ≡ Some (micros (n * 10 ^ (6 - k)))
seconds_micros k n some few wide h =
    ap micros_of (apart k n) ∙ (unit_of (digits (n / 10 ^ k) ++ (46 ∷ fraction k n)) ∙ seconds_are k n some few wide h)

seconds_token : (k n : ℕ) → 1 ≤ k → k ≤ 6 → n < 2 ^ 64 → n * 10 ^ (6 - k) < 2 ^ 64
    → token_of (seconds_text k n) ≡ token.Time (micros (n * 10 ^ (6 - k)))
unfolding token_of
seconds_token k n some few wide h = rw (no_number (digits (n / 10 ^ k)) (fraction k n ++ (115 ∷ [])), seconds_micros k n some few wide h) refl

seconds_inner : (k n : ℕ) → list_all is_inner (seconds_text k n) ≡ true
seconds_inner k n =
    rw (
      list_all-append is_inner (digits (n / 10 ^ k)) (46 ∷ (fraction k n ++ (115 ∷ []))),
      digits_inner (n / 10 ^ k),
      list_all-append is_inner (fraction k n) (115 ∷ []),
      all_such is_inner digit_inner (fraction k n) (fraction_digits k n),
    ) refl

seconds_some : (k n : ℕ) → 1 ≤ length (seconds_text k n)
seconds_some k n = rw length-append (omega arith)

pub seconds_give : (k n : ℕ) → 1 ≤ k → k ≤ 6 → n < 2 ^ 64 → n * 10 ^ (6 - k) < 2 ^ 64
    → Gives (seconds_text k n) (token.Time (micros (n * 10 ^ (6 - k))))
seconds_give k n some few wide h = record {
  word = word_from (seconds_text k n) (seconds_inner k n) (seconds_some k n);
  token = seconds_token k n some few wide h;
}
