-- Steps from word to word.
use Rattle.std.proofs.Common.{ℕ, zero, suc, ◌≡◌, ◌-◌, ◌<◌, List, [], ◌∷◌, ◌++◌, length, refl, arith, false, true, nat_eq, length-append, append-nil, append_assoc}
use Rattle.words.specs.Lexis.{from_word, after_word, word}
use Rattle.words.specs.declared.tokens.Token.{Token}
use Rattle.words.specs.Tokens.{token_of, tokens_in}

pub next_from : (n : ℕ) (s : List ℕ) → 0 < n → from_word n s ≡ from_word (n - 1) (after_word s)
unfolding from_word
next_from zero s h = absurd (omega (arith, h))
next_from (suc n) s h = let e : suc n - 1 ≡ n = omega arith in rw e refl

pub next_tokens : (n : ℕ) (s : List ℕ) → 0 < n → nat_eq (length (word s)) 0 ≡ false → tokens_in n s ≡ token_of (word s) ∷ tokens_in (n - 1) (after_word s)
unfolding tokens_in
next_tokens zero s h e = absurd (omega (arith, h))
next_tokens (suc n) s h e = let m : suc n - 1 ≡ n = omega arith in rw (e, m) refl

pub goes_on : (ts : List Token) (s : List ℕ) → length ts < 32 → nat_eq (length (word s)) 0 ≡ false
    → (ts ++ token_of (word s) ∷ []) ++ tokens_in (32 - length (ts ++ token_of (word s) ∷ [])) (after_word s) ≡ ts ++ tokens_in (32 - length ts) s
goes_on ts s h e =
    let l : 32 - length (ts ++ token_of (word s) ∷ []) ≡ 32 - length ts - 1 = rw length-append (omega arith) in
    rw (l, next_tokens (32 - length ts) s (omega (arith, h)) e) (append_assoc ts (token_of (word s) ∷ []) _)

pub ends : (ts : List Token) (n : ℕ) (s : List ℕ) → nat_eq (length (word s)) 0 ≡ true → ts ++ tokens_in n s ≡ ts
unfolding tokens_in
ends ts zero s e = append-nil ts
ends ts (suc n) s e = rw e (append-nil ts)
