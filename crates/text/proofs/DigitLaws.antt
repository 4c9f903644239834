-- Laws of decimal digits: those of x from those of x / 10, how many there are, and what they read as. Assumes nothing.
use Prim.Native.Nat.{ℕ, zero, suc, ◌+◌, ◌-◌, ◌*◌, ◌/◌, ◌%◌, ◌^◌, ◌≤◌, ◌<◌, zero-le}
use Prim.Native.Char.{code}
use mathlib.Core.Path.{◌≡◌, refl, sym, ap, ◌∙◌}
use mathlib.Core.Logic.{⊎_elim}
use mathlib.Core.List.{List, [], ◌∷◌, ◌++◌}
use native.Mathlib.Nat.{pow-succ', one-le-pow}
use native.Mathlib.Omega.{arith}
use borrow.Author.Tests.{lt-ltb, le-ltb}
use lib.Dec.{lit≤, lit<}
use lib.ListN.{length, get_or, length-append, take, drop}
use Rattle.std.proofs.Math.Seq.{take-add, take-append_seam}
use Rattle.std.proofs.lemmas.Bool.{cases_lt}
use Rattle.std.proofs.lemmas.Fmt.{decimal_from_appends, decimal_nonempty, first_decimal, length-decimal-le}
use Rattle.std.proofs.lemmas.Grind.{common_steps, get_or_default_zero}
use Rattle.std.specs.Fmt.{decimal}
use Rattle.text.specs.Text.{digits, digits_within}
use Rattle.text.specs.Laws.{read_after, read_digits, All, Digit}

within_one : (k x : ℕ) → x < 10 → digits_within (suc k) x ≡ (code "0" + x) ∷ []
unfolding digits_within
within_one k x h = rw (lt-ltb x 10 h)

within_more : (k x : ℕ) → 10 ≤ x → digits_within (suc k) x ≡ digits_within k (x / 10) ++ ((code "0" + x % 10) ∷ [])
unfolding digits_within
within_more k x h = rw (le-ltb x 10 h)

pub digits_one : (x : ℕ) → x < 10 → digits x ≡ (code "0" + x) ∷ []
unfolding digits
digits_one x h = within_one 19 x h

-- a number below 10^(k+1) has at most k+1 digits, and none has more than 20

within_length : (j k x : ℕ) → x < 10 ^ suc k → length (digits_within j x) ≤ suc k
unfolding digits_within
within_length zero k x h = zero-le
within_length (suc j) zero x h = rw (within_one j x (omega arith)) (omega arith)
within_length (suc j) (suc k) x h = ⊎_elim
    (λ g. rw (within_one j x g) (omega arith))
    (λ g. rw (within_more j x g, length-append) (omega (arith, within_length j k (x / 10) (omega (arith, pow-succ' 10 (suc k)))))) (cases_lt x 10)

within_at_most : (j x : ℕ) → length (digits_within j x) ≤ j
unfolding digits_within
within_at_most zero x = zero-le
within_at_most (suc j) x = ⊎_elim
    (λ g. rw (within_one j x g) (omega arith))
    (λ g. rw (within_more j x g, length-append) (omega (arith, within_at_most j (x / 10)))) (cases_lt x 10)

-- there is one at least
within_some : (k x : ℕ) → 1 ≤ length (digits_within (suc k) x)
within_some k x = ⊎_elim
    (λ g. rw (within_one k x g) (omega arith))
    (λ g. rw (within_more k x g, length-append) (omega arith)) (cases_lt x 10)

pub digits_below : (k x : ℕ) → x < 10 ^ suc k → length (digits x) ≤ suc k
unfolding digits
digits_below k x h = within_length 20 k x h

pub digits_at_most : (x : ℕ) → length (digits x) ≤ 20
unfolding digits
digits_at_most x = within_at_most 20 x

-- the last digit counts one, those before it ten
read_last : (n : ℕ) (ds : List ℕ) (d : ℕ) → read_after n (ds ++ (d ∷ [])) ≡ 10 * read_after n ds + (d - code "0")
read_last n [] d = refl
read_last n (e ∷ ds) d = read_last (10 * n + (e - code "0")) ds d

within_read : (k x : ℕ) → x < 10 ^ suc k → read_digits (digits_within (suc k) x) ≡ x
within_read zero x h = rw (within_one 0 x (omega arith)) (omega arith)
within_read (suc k) x h = ⊎_elim
    (λ g. rw (within_one (suc k) x g) (omega arith))
    (λ g. rw (within_more (suc k) x g, read_last 0 (digits_within (suc k) (x / 10)) (code "0" + x % 10))
    (omega (arith, within_read k (x / 10) (omega (arith, pow-succ' 10 (suc k)))))) (cases_lt x 10)

pub digits_read : (x : ℕ) → x < 2 ^ 64 → read_digits (digits x) ≡ x
unfolding digits
digits_read x h = within_read 19 x (omega arith)

pub all_append : (Such : ℕ → Type 0) (a b : List ℕ) → All Such a → All Such b → All Such (a ++ b)
all_append Such [] b p q = q
all_append Such (x ∷ a) b p q = (p.0, all_append Such a b p.1 q)

within_only : (k x : ℕ) → All Digit (digits_within k x)
unfolding digits_within
within_only zero x = tt
within_only (suc k) x = ⊎_elim
    (λ g. rw (within_one k x g) ((omega arith, omega arith), tt))
    (λ g. rw (within_more k x g) (all_append Digit (digits_within k (x / 10)) ((code "0" + x % 10) ∷ []) (within_only k (x / 10)) ((omega arith, omega arith), tt))) (cases_lt x 10)

pub digits_only : (x : ℕ) → All Digit (digits x)
unfolding digits
digits_only x = within_only 20 x

-- the library's decimal is the same
pub digits_decimal : (x : ℕ) → x < 2 ^ 64 → digits x ≡ decimal x
unfolding digits
digits_decimal x h = decimal_from_appends digits_within (record { one = within_one; more = within_more }) 20 x h (length-decimal-le 20 x (lit< tt) (omega arith) h)

pub first_digit : (x : ℕ) → x < 2 ^ 64 → 10 ≤ x → get_or (digits x) 0 (code "0") ≡ code "0" → ⊥
first_digit x b h e =
    let zero_first : get_or (decimal x) 0 0 ≡ code "0" =
    sym (get_or_default_zero (decimal x) 0 (code "0") (decimal_nonempty x b)) ∙ ap (λ l. get_or l 0 (code "0")) (sym (digits_decimal x b)) ∙ e in
    omega (arith, zero_first, first_decimal x (omega arith) b)

-- a number from 10^k on and below 10^(k+1) has k+1 digits
within_count : (m k x : ℕ) → x < 10 ^ suc k → 10 ^ m ≤ x → suc m ≤ length (digits_within (suc k) x)
within_count zero k x h g = within_some k x
within_count (suc m) zero x h g = omega (arith, pow-succ' 10 m, one-le-pow m 10 (lit≤ tt))
within_count (suc m) (suc k) x h g =
    let ten : 10 ≤ x = omega (arith, pow-succ' 10 m, one-le-pow m 10 (lit≤ tt)) in
    rw (within_more (suc k) x ten, length-append) (omega (arith, within_count m k (x / 10) (omega (arith, pow-succ' 10 (suc k))) (omega (arith, pow-succ' 10 m))))

pub counted_log : (m x : ℕ) → x < 2 ^ 64 → 10 ^ m ≤ x → x < 10 * 10 ^ m → suc m ≡ length (digits x)
unfolding digits
counted_log m x b g h = omega (arith, within_count m 19 x (omega arith) g, within_length 20 m x (omega (arith, pow-succ' 10 m)))

pub counted_zero : 1 ≡ length (digits 0)
counted_zero = ap length (sym (digits_one 0 (lit< tt)))

pub ruleset counted = (counted_log, counted_zero, common_steps)

-- digits that stand from r on, and end where the line then ends
pub digits_stand : (old new : List ℕ) (r k x : ℕ) → x < 2 ^ 64 → k ≡ length (digits x) → take r new ≡ take r old → drop r new ≡ decimal x ++ drop (r + k) old
    → take (r + k) new ≡ take r old ++ digits x
digits_stand old new r k x b e t d =
    take-add r k new ∙ rw (t, d, sym (digits_decimal x b), e, take-append_seam (digits x) (drop (r + length (digits x)) old))

pub decimal_length : (x : ℕ) → x < 2 ^ 64 → length (decimal x) ≡ length (digits x)
decimal_length x h = ap length (sym (digits_decimal x h))

pub ruleset writes = (digits_decimal, decimal_length, digits_stand, common_steps)
