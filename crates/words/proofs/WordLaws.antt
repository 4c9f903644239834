-- What the token of a word tells of the word: how it is spelled, or that a time fits in 64 bits. Assumes nothing.
use Rattle.std.proofs.Common.{ℕ, ◌≡◌, ◌+◌, ◌-◌, ◌*◌, ◌^◌, ◌<◌, Bool, true, false, cond, ◌&&◌, ◌||◌, List, [], ◌∷◌, length, get_or, take, drop, nat_eq, nat_lt, Option, Some, None, decimal, refl, sym, ap, ◌∙◌, arith, rules}
use Rattle.std.specs.List.{prefix_len}
use Rattle.std.specs.Str.{all_ascii_digits, bytes_eq}
use borrow.Author.Tests.{ltb-true}
use Rattle.std.proofs.lemmas.Bool.Decides.{nat_tests}
use Rattle.std.proofs.lemmas.Fmt.{decimal-digits_value}
use Rattle.std.proofs.lemmas.Slice.Eq.{bytes_eq-Decides}
use Rattle.std.proofs.lemmas.Str.Parse.{IsNumeralModel, numerals_by_fold}
use Rattle.text.specs.Laws.{read_after}
use Rattle.transitions.specs.Search.{first_where}
use Rattle.units.specs.Units.{micros}
use Rattle.units.specs.declared.Micros.{Micros}
use Rattle.words.proofs.WordsRead.{both}
use Rattle.words.specs.Lexis.{is_other}
use Rattle.words.specs.Names.{name_of, name_text, names, verb_of, verb_text, verbs}
use Rattle.words.specs.Numbers.{is_digit, micros_of, number_after, number_of, parts_of, scaled, scaled_if, seconds_of}
use Rattle.words.specs.Tokens.{number_token, token_of}
use Rattle.words.specs.declared.names.Name.{Name}
use Rattle.words.specs.declared.names.Verb.{Verb}
use Rattle.words.specs.declared.tokens.Token.TheVariants as token

-- The first of the readings that a word has is its token.

number_read : (o : Option ℕ) (t : Option Micros) (v : Option Verb) (n : Option Name) (x : ℕ)
    → number_token o t v n ≡ token.Number x → o ≡ Some x
number_read (Some y) t v n x e = cc
number_read None (Some t) v n x e = absurd cc
number_read None None (Some v) n x e = absurd cc
number_read None None None (Some n) x e = absurd cc
number_read None None None None x e = absurd cc

pub time_read : (o : Option ℕ) (t : Option Micros) (v : Option Verb) (n : Option Name) (x : Micros)
    → number_token o t v n ≡ token.Time x → t ≡ Some x
time_read (Some y) t v n x e = absurd cc
time_read None (Some t) v n x e = cc
time_read None None (Some v) n x e = absurd cc
time_read None None None (Some n) x e = absurd cc
time_read None None None None x e = absurd cc

verb_read : (o : Option ℕ) (t : Option Micros) (v : Option Verb) (n : Option Name) (x : Verb)
    → number_token o t v n ≡ token.Verb x → v ≡ Some x
verb_read (Some y) t v n x e = absurd cc
verb_read None (Some t) v n x e = absurd cc
verb_read None None (Some v) n x e = cc
verb_read None None None (Some n) x e = absurd cc
verb_read None None None None x e = absurd cc

name_read : (o : Option ℕ) (t : Option Micros) (v : Option Verb) (n : Option Name) (x : Name)
    → number_token o t v n ≡ token.Name x → n ≡ Some x
name_read (Some y) t v n x e = absurd cc
name_read None (Some t) v n x e = absurd cc
name_read None None (Some v) n x e = absurd cc
name_read None None None (Some n) x e = cc
name_read None None None None x e = absurd cc

-- Tests before a value.

-- the test of a leading zero, or of nothing
pub apart : {A : Type 0} (b : Bool) (x : Option A) (y : A) → cond b None x ≡ Some y → (b ≡ false) × (x ≡ Some y)
apart true x y e = absurd cc
apart false x y e = (refl, e)

pub chosen : {A : Type 0} (b : Bool) (x : Option A) (y : A) → cond b x None ≡ Some y → (b ≡ true) × (x ≡ Some y)
chosen true x y e = (refl, e)
chosen false x y e = absurd cc

pub some_is : {A : Type 0} (x y : A) → Some x ≡ Some y → x ≡ y
some_is x y e = cc

-- Numbers.

own : IsNumeralModel (λ ds. all_ascii_digits ds ≡ true) (read_after 0)
own = numerals_by_fold _ (search rules) read_after (search rules)

after_is : (n x : ℕ) (s : List ℕ) → n < 2 ^ 64
    → number_after n s ≡ Some x → (all_ascii_digits s ≡ true) × (read_after n s ≡ x) × (x < 2 ^ 64)
unfolding number_after
after_is n x [] h e = let same = some_is n x e in (refl, same, rw (sym same) h)
after_is n x (b ∷ s) h e =
    let c = chosen (is_digit b && nat_lt (10 * n + (b - 48)) (2 ^ 64)) (number_after (10 * n + (b - 48)) s) x e in
    let t = both (is_digit b) (nat_lt (10 * n + (b - 48)) (2 ^ 64)) c.0 in
    let below : 10 * n + (b - 48) < 2 ^ 64 = grind (arith, nat_tests, t.1) in
    let more = after_is (10 * n + (b - 48)) x s below c.1 in
    (grind (arith, nat_tests, t.0, more.0), more.1, more.2)

pub number_spelled : (w : List ℕ) (x : ℕ) → number_of w ≡ Some x → (w ≡ decimal x) × (x < 2 ^ 64)
number_spelled w x e =
    let a = apart (nat_eq (length w) 0 || (nat_lt 1 (length w) && nat_eq (get_or w 0 0) 48)) (number_after 0 w) x e in
    let r = after_is 0 x w (omega arith) a.1 in
    let some : 0 < length w = grind (arith, nat_tests, a.0) in
    let lead : get_or w 0 0 ≡ 48 → length w ≡ 1 = λ z. grind (arith, nat_tests, a.0, z) in
    (rw (← r.1) (sym (decimal-digits_value own w r.0 some lead (rw r.1 r.2))), r.2)

pub number_word : (w : List ℕ) (x : ℕ) → token_of w ≡ token.Number x → (w ≡ decimal x) × (x < 2 ^ 64)
unfolding token_of
number_word w x e = number_spelled w x (number_read (number_of w) (micros_of w) (verb_of w) (name_of w) x e)

-- Names and verbs.

here : {A : Type 0} (text : A → List ℕ) (w : List ℕ) (test : Bool) (a b : A) (rest : Option A) → bytes_eq (text b) w ≡ test
    → (rest ≡ Some a → w ≡ text a) → cond test (Some b) rest ≡ Some a → w ≡ text a
here text w true a b rest t more e = sym ((bytes_eq-Decides (text b) w).0 t) ∙ ap text (some_is b a e)
here text w false a b rest t more e = more e

first_is : {A : Type 0} (text : A → List ℕ) (w : List ℕ) (a : A) (all : List A)
    → first_where (λ b. bytes_eq (text b) w) (λ b. Some b) None all ≡ Some a → w ≡ text a
first_is text w a [] e = absurd cc
first_is text w a (b ∷ more) e =
    here text w (bytes_eq (text b) w) a b (first_where (λ b. bytes_eq (text b) w) (λ b. Some b) None more) refl (first_is text w a more) e

pub name_word : (w : List ℕ) (n : Name) → token_of w ≡ token.Name n → w ≡ name_text n
unfolding token_of name_of
name_word w n e = first_is name_text w n names (name_read (number_of w) (micros_of w) (verb_of w) (name_of w) n e)

pub verb_word : (w : List ℕ) (v : Verb) → token_of w ≡ token.Verb v → w ≡ verb_text v
unfolding token_of verb_of
verb_word w v e = first_is verb_text w v verbs (verb_read (number_of w) (micros_of w) (verb_of w) (name_of w) v e)

-- Times.

scaled_below : (n places : ℕ) (t : Micros) → scaled n places ≡ Some t → t.0 < 2 ^ 64
scaled_below n places t e =
    let c = chosen (nat_lt (n * 10 ^ places) (2 ^ 64)) (Some (micros (n * 10 ^ places))) t e in
    let same = ap (λ t. t.0) (some_is (micros (n * 10 ^ places)) t c.1) in
    rw (sym same) (ltb-true (n * 10 ^ places) (2 ^ 64) c.0)

scaled_if_below : (o : Option ℕ) (places : ℕ) (t : Micros) → scaled_if o places ≡ Some t → t.0 < 2 ^ 64
scaled_if_below (Some n) places t e = scaled_below n places t e
scaled_if_below None places t e = absurd cc

parts_below : (o : Option ℕ) (rest : List ℕ) (t : Micros) → parts_of o rest ≡ Some t → t.0 < 2 ^ 64
parts_below (Some whole) [] t e = scaled_below whole 6 t e
parts_below (Some whole) (point ∷ fraction) t e =
    scaled_if_below (number_after whole fraction) (6 - length fraction) t
    (apart (nat_eq (length fraction) 0 || nat_lt 6 (length fraction)) (scaled_if (number_after whole fraction) (6 - length fraction)) t e).1
parts_below None [] t e = absurd cc
parts_below None (point ∷ fraction) t e = absurd cc

seconds_below : (w : List ℕ) (t : Micros) → seconds_of w ≡ Some t → t.0 < 2 ^ 64
unfolding seconds_of
seconds_below w t e = parts_below (number_of (take (prefix_len (is_other 46) w) w)) (drop (prefix_len (is_other 46) w) w) t e

micros_below : (w : List ℕ) (t : Micros) → micros_of w ≡ Some t → t.0 < 2 ^ 64
unfolding micros_of
micros_below w t e =
    let some = apart (nat_eq (length w) 0) (cond (nat_eq (get_or w (length w - 1) 0) 115) (seconds_of (take (length w - 1) w)) None) t e in
    seconds_below (take (length w - 1) w) t (chosen (nat_eq (get_or w (length w - 1) 0) 115) (seconds_of (take (length w - 1) w)) t some.1).1

pub time_below : (w : List ℕ) (t : Micros) → token_of w ≡ token.Time t → t.0 < 2 ^ 64
unfolding token_of
time_below w t e = micros_below w t (time_read (number_of w) (micros_of w) (verb_of w) (name_of w) t e)
