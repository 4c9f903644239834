-- Words behind spaces are read word by word. Assumes nothing.
use Rattle.std.proofs.Common.{ℕ, zero, suc, ◌≡◌, ◌+◌, ◌≤◌, Bool, true, false, ◌&&◌, List, [], ◌∷◌, ◌++◌, length, nat_eq, refl, sym, ap, ◌∙◌, arith, length-append, append_assoc, append-nil, take_at, drop_at}
use Rattle.std.specs.List.{list_all, prefix_len}
use Rattle.std.specs.Char.{is_ascii_whitespace}
use Rattle.std.proofs.Math.Dec.{eqb-suc-zero}
use Rattle.std.proofs.lemmas.Bool.Decides.{nat_tests}
use Rattle.words.specs.Lexis.{is_inner, trimmed, word, after_word}
use Rattle.words.specs.Spelling.{spaced, setting_text}
use Rattle.words.specs.Tokens.{token_of, tokens_in}
use Rattle.words.specs.declared.tokens.Token.{Token}

pub both : (a b : Bool) → (a && b) ≡ true → (a ≡ true) × (b ≡ true)
both true b e = (refl, e)
both false b e = absurd cc

pub from_both : (a b : Bool) → a ≡ true → b ≡ true → (a && b) ≡ true
from_both a b p q = rw (p, q) refl

-- one word: not empty, and no white space and no '#' in it
abbrev pub is_word : List ℕ → Bool
is_word [] = false
is_word (b ∷ w) = is_inner b && list_all is_inner w

pub word_from : (w : List ℕ) → list_all is_inner w ≡ true → 1 ≤ length w → is_word w ≡ true
word_from [] i h = absurd (omega (arith, h))
word_from (b ∷ w) i h = i

-- what may stand behind a word
abbrev pub Ends : List ℕ → Type 0
Ends [] = Unit {0}
Ends (b ∷ s) = is_inner b ≡ false

word_len : (w rest : List ℕ) → list_all is_inner w ≡ true → Ends rest → prefix_len is_inner (w ++ rest) ≡ length w
word_len [] [] i e = refl
word_len [] (b ∷ s) i e = rw e refl
word_len (b ∷ w) rest i e =
    let t = both (is_inner b) (list_all is_inner w) i in
    rw t.0 (omega (arith, word_len w rest t.1 e))

no_white : (b : ℕ) → is_inner b ≡ true → is_ascii_whitespace b ≡ false
no_white b i = grind (arith, nat_tests, i)

word_trimmed : (w rest : List ℕ) → is_word w ≡ true → trimmed (w ++ rest) ≡ w ++ rest
word_trimmed [] rest h = absurd cc
word_trimmed (b ∷ w) rest h = rw (no_white b (both (is_inner b) (list_all is_inner w) h).0) refl

word_inner : (w : List ℕ) → is_word w ≡ true → list_all is_inner w ≡ true
word_inner [] h = absurd cc
word_inner (b ∷ w) h = h

word_some : (w : List ℕ) → is_word w ≡ true → nat_eq (length w) 0 ≡ false
word_some [] h = absurd cc
word_some (b ∷ w) h = eqb-suc-zero (length w)

word_is : (w rest : List ℕ) → is_word w ≡ true → Ends rest → word (w ++ rest) ≡ w
word_is w rest h e = rw (word_trimmed w rest h, word_len w rest (word_inner w h) e) (take_at w rest (length w) refl)

rest_is : (w rest : List ℕ) → is_word w ≡ true → Ends rest → after_word (w ++ rest) ≡ rest
rest_is w rest h e = rw (word_trimmed w rest h, word_len w rest (word_inner w h) e) (drop_at w rest (length w) refl)

-- a word at the front gives the first token
pub first_token : (n : ℕ) (w rest : List ℕ) → is_word w ≡ true → Ends rest
    → tokens_in (suc n) (w ++ rest) ≡ token_of w ∷ tokens_in n rest
unfolding tokens_in
first_token n w rest h e = rw (word_is w rest h e, word_some w h, rest_is w rest h e) refl

pub past_space : (n : ℕ) (s : List ℕ) → tokens_in n (32 ∷ s) ≡ tokens_in n s
unfolding tokens_in
past_space zero s = refl
past_space (suc n) s =
    let next : 1 + prefix_len is_ascii_whitespace s ≡ suc (prefix_len is_ascii_whitespace s) = omega arith in
    rw next refl

no_tokens : (n : ℕ) → tokens_in n [] ≡ []
unfolding tokens_in
no_tokens zero = refl
no_tokens (suc n) = refl

-- one word, and its token
pub record Gives (w : List ℕ) (t : Token) : Type 0 where
  pub word : is_word w ≡ true
  pub token : token_of w ≡ t

abbrev pub Each : List (List ℕ) → List Token → Type 0
Each [] [] = Unit {0}
Each [] (t ∷ ts) = ⊥
Each (w ∷ ws) [] = ⊥
Each (w ∷ ws) (t ∷ ts) = Gives w t × Each ws ts

-- at most m words, and their tokens
pub record Say (m : ℕ) (ws : List (List ℕ)) (ts : List Token) : Type 0 where
  pub count : length ws ≤ m
  pub each : Each ws ts

each_append : (ws vs : List (List ℕ)) (ts us : List Token) → Each ws ts → Each vs us → Each (ws ++ vs) (ts ++ us)
each_append [] vs [] us p q = q
each_append [] vs (t ∷ ts) us p q = absurd p
each_append (w ∷ ws) vs [] us p q = absurd p
each_append (w ∷ ws) vs (t ∷ ts) us p q = (p.0, each_append ws vs ts us p.1 q)

pub say_append : {m n : ℕ} {ws vs : List (List ℕ)} {ts us : List Token}
    → Say m ws ts → Say n vs us → Say (m + n) (ws ++ vs) (ts ++ us)
say_append p q = record { count = rw length-append (omega (arith, p.count, q.count)); each = each_append _ _ _ _ p.each q.each }

pub say_none : (m : ℕ) → Say m [] []
say_none m = record { count = omega arith; each = tt }

pub say_more : {m : ℕ} {w : List ℕ} {t : Token} {ws : List (List ℕ)} {ts : List Token} → Gives w t → Say m ws ts → Say (suc m) (w ∷ ws) (t ∷ ts)
say_more g p = record { count = omega (arith, p.count); each = (g, p.each) }

pub say_within : {m n : ℕ} {ws : List (List ℕ)} {ts : List Token} → m ≤ n → Say m ws ts → Say n ws ts
say_within h p = record { count = omega (arith, h, p.count); each = p.each }

-- what stands behind a word, of at most m words, and their tokens
pub record Reads (m : ℕ) (s : List ℕ) (ts : List Token) : Type 0 where
  pub ends : Ends s
  pub tokens : (n : ℕ) → m ≤ n → tokens_in n s ≡ ts

pub reads_none : Reads 0 [] []
reads_none = record { ends = tt; tokens = λ n h. no_tokens n }

spaced_ends : (ws : List (List ℕ)) (rest : List ℕ) → Ends rest → Ends (spaced ws ++ rest)
spaced_ends [] rest e = e
spaced_ends (w ∷ ws) rest e = refl

spaced_tokens : (m : ℕ) (ws : List (List ℕ)) (ts : List Token) (rest : List ℕ) (us : List Token) → Each ws ts → Reads m rest us
    → (n : ℕ) → length ws + m ≤ n → tokens_in n (spaced ws ++ rest) ≡ ts ++ us
spaced_tokens m [] [] rest us p r n h = r.tokens n (omega (arith, h))
spaced_tokens m [] (t ∷ ts) rest us p r n h = absurd p
spaced_tokens m (w ∷ ws) [] rest us p r n h = absurd p
spaced_tokens m (w ∷ ws) (t ∷ ts) rest us p r zero h = absurd (omega (arith, h))
spaced_tokens m (w ∷ ws) (t ∷ ts) rest us p r (suc n) h =
    past_space (suc n) ((w ++ spaced ws) ++ rest)
    ∙ (ap (tokens_in (suc n)) (append_assoc w (spaced ws) rest)
    ∙ (first_token n w (spaced ws ++ rest) p.0.word (spaced_ends ws rest r.ends)
    ∙ (ap (λ u. u ∷ tokens_in n (spaced ws ++ rest)) p.0.token
    ∙ ap (λ us. t ∷ us) (spaced_tokens m ws ts rest us p.1 r n (omega (arith, h))))))

-- two spaces before words, or nothing
pub reads_setting : {k m : ℕ} {ws : List (List ℕ)} {ts : List Token} {rest : List ℕ} {us : List Token} → Say k ws ts → Reads m rest us
    → Reads (k + m) (setting_text ws ++ rest) (ts ++ us)
reads_setting {k = k} {m = m} {ws = ws} {ts = ts} {rest = rest} {us = us} p r = by ws ts p
  where
    by : (ws : List (List ℕ)) (ts : List Token) → Say k ws ts → Reads (k + m) (setting_text ws ++ rest) (ts ++ us)
    by [] [] p = record { ends = r.ends; tokens = λ n h. r.tokens n (omega (arith, h)) }
    by [] (t ∷ ts) p = absurd p.each
    by (w ∷ ws) [] p = absurd p.each
    by (w ∷ ws) (t ∷ ts) p = record {
      ends = refl;
      tokens = λ n h.
          past_space n (spaced (w ∷ ws) ++ rest) ∙ spaced_tokens m (w ∷ ws) (t ∷ ts) rest us p.each r n (omega (arith, h, p.count));
    }

-- the last words of a text
pub reads_last : {k : ℕ} {ws : List (List ℕ)} {ts : List Token} → Say k ws ts → Reads k (32 ∷ spaced ws) ts
reads_last {k = k} {ws = ws} {ts = ts} p = record {
  ends = refl;
  tokens = λ n h.
      past_space n (spaced ws)
      ∙ (ap (tokens_in n) (sym (append-nil (spaced ws)))
      ∙ (spaced_tokens 0 ws ts [] [] p.each reads_none n (omega (arith, h, p.count)) ∙ append-nil ts));
}

pub reads_words : {k : ℕ} {ws : List (List ℕ)} {ts : List Token} → Say k ws ts → Reads k (setting_text ws) ts
reads_words {k = k} {ws = ws} {ts = ts} p = by ws ts p
  where
    by : (ws : List (List ℕ)) (ts : List Token) → Say k ws ts → Reads k (setting_text ws) ts
    by [] [] p = record { ends = tt; tokens = λ n h. no_tokens n }
    by [] (t ∷ ts) p = absurd p.each
    by (w ∷ ws) [] p = absurd p.each
    by (w ∷ ws) (t ∷ ts) p = reads_last p

-- the first word of a text
pub reads_first : {m : ℕ} {w : List ℕ} {t : Token} {rest : List ℕ} {ts : List Token} → Gives w t → Reads m rest ts
    → (n : ℕ) → m ≤ n → tokens_in (suc n) (w ++ rest) ≡ t ∷ ts
reads_first {w = w} {t = t} {rest = rest} g r n h =
    first_token n w rest g.word r.ends ∙ (ap (λ u. u ∷ tokens_in n rest) g.token ∙ ap (λ us. t ∷ us) (r.tokens n h))
