-- Proofs of specs/PlaceLaws.antt. Assumes nothing.
use Rattle.std.proofs.Common.{ℕ, zero, suc, ◌≡◌, ◌+◌, ◌-◌, ◌≤◌, ◌<◌, Bool, true, false, List, [], ◌∷◌, ◌++◌, length, take, drop, refl, sym, ap, subst, ◌∙◌, arith, nat_eq, length-append, append-nil, append_assoc, take-append-drop, take_at, drop_at, drop_of_length-le}
use Rattle.std.specs.Prelude.{bytes_eq}
use Rattle.std.specs.List.{list_all, prefix_len}
use Rattle.std.specs.Char.{is_ascii_whitespace}
use Rattle.std.proofs.lemmas.Bool.Decides.{nat_tests}
use Rattle.std.proofs.lemmas.Slice.Eq.{bytes_eq-Decides}
use Rattle.words.specs.Lexis.{after_word, column_of, from_word, is_inner, trimmed, word}
use Rattle.words.specs.PlaceLaws.{PlaceLaws}
use Rattle.words.specs.Reading.{unmarked}
use Rattle.words.specs.Tokens.{line_tokens, token_of, tokens_in}
use Rattle.words.proofs.PlaysAgain.{play_again}
use Rattle.words.proofs.WordsRead.{Ends, first_token, from_both, word_from}

one_more : (n : ℕ) → 1 + n ≡ suc n
one_more n = omega arith

-- A line up to a word, and from it on.

abbrev gap : List ℕ → List ℕ
gap s = take (prefix_len is_ascii_whitespace s) s

-- what stands before word n
abbrev front : ℕ → List ℕ → List ℕ
front zero s = gap s
front (suc n) s = gap s ++ (word s ++ front n (after_word s))

gap_whole : (s : List ℕ) → gap s ++ trimmed s ≡ s
gap_whole s = take-append-drop (prefix_len is_ascii_whitespace s) s

word_whole : (s : List ℕ) → gap s ++ (word s ++ after_word s) ≡ s
word_whole s = ap (λ r. gap s ++ r) (take-append-drop (prefix_len is_inner (trimmed s)) (trimmed s)) ∙ gap_whole s

line_whole : (n : ℕ) (s : List ℕ) → front n s ++ from_word n s ≡ s
unfolding from_word
line_whole zero s = gap_whole s
line_whole (suc n) s =
    let rest : List ℕ = after_word s in
    append_assoc (gap s) (word s ++ front n rest) (from_word n rest)
    ∙ (ap (λ r. gap s ++ r) (append_assoc (word s) (front n rest) (from_word n rest) ∙ ap (λ r. word s ++ r) (line_whole n rest)) ∙ word_whole s)

column_is : (line : List ℕ) (n : ℕ) → column_of line n - 1 ≡ length (front n line)
column_is line n =
    let l : length (front n line) + length (from_word n line) ≡ length line = sym (length-append (front n line) (from_word n line)) ∙ ap length (line_whole n line) in
    omega (arith, l)

up_to : (line : List ℕ) (n : ℕ) → take (column_of line n - 1) line ≡ front n line
up_to line n =
    ap (λ k. take k line) (column_is line n)
    ∙ (ap (λ s. take (length (front n line)) s) (sym (line_whole n line)) ∙ take_at (front n line) (from_word n line) (length (front n line)) refl)

from_on : (line : List ℕ) (n : ℕ) → drop (column_of line n - 1) line ≡ from_word n line
from_on line n =
    ap (λ k. drop k line) (column_is line n)
    ∙ (ap (λ s. drop (length (front n line)) s) (sym (line_whole n line)) ∙ drop_at (front n line) (from_word n line) (length (front n line)) refl)

-- A gap says nothing.

nothing : (n : ℕ) → tokens_in n [] ≡ []
unfolding tokens_in
nothing zero = refl
nothing (suc n) = refl

past_white : (n b : ℕ) (s : List ℕ) → is_ascii_whitespace b ≡ true → tokens_in n (b ∷ s) ≡ tokens_in n s
unfolding tokens_in
past_white zero b s e = refl
past_white (suc n) b s e = rw (e, one_more (prefix_len is_ascii_whitespace s)) refl

gap_by : (n b : ℕ) (s rest : List ℕ) (test : Bool) → is_ascii_whitespace b ≡ test → tokens_in n (gap s ++ rest) ≡ tokens_in n rest
    → tokens_in n (gap (b ∷ s) ++ rest) ≡ tokens_in n rest
gap_by n b s rest true e h = rw (e, one_more (prefix_len is_ascii_whitespace s)) (past_white n b (gap s ++ rest) e ∙ h)
gap_by n b s rest false e h = rw e refl

past_gap : (n : ℕ) (s rest : List ℕ) → tokens_in n (gap s ++ rest) ≡ tokens_in n rest
past_gap n [] rest = refl
past_gap n (b ∷ s) rest = gap_by n b s rest (is_ascii_whitespace b) refl (past_gap n s rest)

-- A word is one, and ends.

module _ (test : ℕ → Bool) where
  passed_by : (b : ℕ) (s : List ℕ) (t : Bool) → test b ≡ t → list_all test (take (prefix_len test s) s) ≡ true
      → list_all test (take (prefix_len test (b ∷ s)) (b ∷ s)) ≡ true
  passed_by b s true e h = rw (e, one_more (prefix_len test s)) (from_both (test b) (list_all test (take (prefix_len test s) s)) e h)
  passed_by b s false e h = rw e refl

  passed : (s : List ℕ) → list_all test (take (prefix_len test s) s) ≡ true
  passed [] = refl
  passed (b ∷ s) = passed_by b s (test b) refl (passed s)

ends_by : (b : ℕ) (s : List ℕ) (t : Bool) → is_inner b ≡ t → Ends (drop (prefix_len is_inner s) s) → Ends (drop (prefix_len is_inner (b ∷ s)) (b ∷ s))
ends_by b s true e h = rw (e, one_more (prefix_len is_inner s)) h
ends_by b s false e h = rw e e

rest_ends : (s : List ℕ) → Ends (drop (prefix_len is_inner s) s)
rest_ends [] = tt
rest_ends (b ∷ s) = ends_by b s (is_inner b) refl (rest_ends s)

front_ends : (a b s : List ℕ) → a ++ b ≡ s → Ends s → Ends a
front_ends [] b s e h = tt
front_ends (x ∷ a) b s e h = subst Ends (sym e) h

next_ends : (n : ℕ) (s : List ℕ) → Ends (front n (after_word s))
next_ends n s = front_ends (front n (after_word s)) (from_word n (after_word s)) (after_word s) (line_whole n (after_word s)) (rest_ends (trimmed s))

some : (w : List ℕ) → nat_eq (length w) 0 ≡ false → 1 ≤ length w
some w e = grind (arith, nat_tests, e)

first_word : (n : ℕ) (s rest : List ℕ) → nat_eq (length (word s)) 0 ≡ false → Ends rest
    → tokens_in (suc n) (gap s ++ (word s ++ rest)) ≡ token_of (word s) ∷ tokens_in n rest
first_word n s rest e h =
    past_gap (suc n) s (word s ++ rest) ∙ first_token n (word s) rest (word_from (word s) (passed is_inner (trimmed s)) (some (word s) e)) h

-- From word to word.

no_word : (n : ℕ) (s : List ℕ) → nat_eq (length (word s)) 0 ≡ true → tokens_in n s ≡ []
unfolding tokens_in
no_word zero s e = refl
no_word (suc n) s e = rw e refl

one_word : (n : ℕ) (s : List ℕ) → nat_eq (length (word s)) 0 ≡ false → tokens_in (suc n) s ≡ token_of (word s) ∷ tokens_in n (after_word s)
unfolding tokens_in
one_word n s e = rw e refl

more_than_none : (n : ℕ) (s : List ℕ) (k : ℕ) → nat_eq (length (word s)) 0 ≡ true → suc k ≤ length (tokens_in n s) → ⊥
more_than_none n s k e h = let l : length (tokens_in n s) ≡ 0 = ap length (no_word n s e) in absurd (omega (arith, h, l))

-- the first words

no_tokens : (s : List ℕ) → tokens_in 0 s ≡ []
unfolding tokens_in
no_tokens s = refl

abbrev Before : ℕ → ℕ → List ℕ → Type 0
Before n m s = n ≤ length (tokens_in m s) → tokens_in m (front n s) ≡ take n (tokens_in m s)

before_by : (n m : ℕ) (s : List ℕ) → Before n m (after_word s) → (test : Bool) → nat_eq (length (word s)) 0 ≡ test → Before (suc n) (suc m) s
before_by n m s more true e h = absurd (more_than_none (suc m) s n e h)
before_by n m s more false e h =
    let step = one_word m s e in
    let l : length (tokens_in (suc m) s) ≡ suc (length (tokens_in m (after_word s))) = ap length step in
    first_word m s (front n (after_word s)) e (next_ends n s)
    ∙ (ap (λ ts. token_of (word s) ∷ ts) (more (omega (arith, h, l))) ∙ sym (ap (λ ts. take (suc n) ts) step))

before_words : (n m : ℕ) (s : List ℕ) → Before n m s
before_words zero m s h = ap (tokens_in m) (sym (append-nil (gap s))) ∙ (past_gap m s [] ∙ nothing m)
before_words (suc n) zero s h = let l : length (tokens_in 0 s) ≡ 0 = ap length (no_tokens s) in absurd (omega (arith, h, l))
before_words (suc n) (suc m) s h = before_by n m s (before_words n m (after_word s)) (nat_eq (length (word s)) 0) refl h

column_before : (line : List ℕ) (n : ℕ) → n ≤ length (line_tokens line) → line_tokens (take (column_of line n - 1) line) ≡ take n (line_tokens line)
column_before line n h = ap (λ s. line_tokens s) (up_to line n) ∙ before_words n 32 line h

-- the others

enough_by : (m k : ℕ) (s : List ℕ) → (length (tokens_in m (after_word s)) < m → tokens_in k (after_word s) ≡ tokens_in m (after_word s))
    → (test : Bool) → nat_eq (length (word s)) 0 ≡ test → length (tokens_in (suc m) s) < suc m → tokens_in (suc k) s ≡ tokens_in (suc m) s
enough_by m k s more true e h = no_word (suc k) s e ∙ sym (no_word (suc m) s e)
enough_by m k s more false e h =
    let l : length (tokens_in (suc m) s) ≡ suc (length (tokens_in m (after_word s))) = ap length (one_word m s e) in
    one_word k s e ∙ (ap (λ ts. token_of (word s) ∷ ts) (more (omega (arith, h, l))) ∙ sym (one_word m s e))

-- a line of fewer words has no more
enough : (m k : ℕ) (s : List ℕ) → m ≤ k → length (tokens_in m s) < m → tokens_in k s ≡ tokens_in m s
enough zero k s l h = absurd (omega (arith, h))
enough (suc m) zero s l h = absurd (omega (arith, l))
enough (suc m) (suc k) s l h = enough_by m k s (enough m k (after_word s) (omega (arith, l))) (nat_eq (length (word s)) 0) refl h

abbrev Rest : ℕ → ℕ → ℕ → List ℕ → Type 0
Rest n m k s = n ≤ length (tokens_in m s) → length (tokens_in m s) < m → tokens_in k (from_word n s) ≡ drop n (tokens_in m s)

rest_by : (n m k : ℕ) (s : List ℕ) → Rest n m k (after_word s) → (test : Bool) → nat_eq (length (word s)) 0 ≡ test → Rest (suc n) (suc m) k s
unfolding from_word
rest_by n m k s more true e h f = absurd (more_than_none (suc m) s n e h)
rest_by n m k s more false e h f =
    let step = one_word m s e in
    let l : length (tokens_in (suc m) s) ≡ suc (length (tokens_in m (after_word s))) = ap length step in
    more (omega (arith, h, l)) (omega (arith, f, l)) ∙ sym (ap (λ ts. drop (suc n) ts) step)

rest_words : (n m k : ℕ) (s : List ℕ) → m ≤ k → Rest n m k s
unfolding from_word
rest_words zero m k s l h f = sym (past_gap k s (trimmed s)) ∙ (ap (tokens_in k) (gap_whole s) ∙ enough m k s l f)
rest_words (suc n) zero k s l h f = absurd (omega (arith, f))
rest_words (suc n) (suc m) k s l h f = rest_by n m k s (rest_words n m k (after_word s) (omega (arith, l))) (nat_eq (length (word s)) 0) refl h f

column_rest : (line : List ℕ) (n : ℕ) → n ≤ length (line_tokens line) → length (line_tokens line) < 32
    → line_tokens (drop (column_of line n - 1) line) ≡ drop n (line_tokens line)
column_rest line n h f = ap (λ s. line_tokens s) (from_on line n) ∙ rest_words n 32 32 line (omega arith) h f

column_end : (line : List ℕ) (n : ℕ) → n ≡ length (line_tokens line) → n < 32 → line_tokens (drop (column_of line n - 1) line) ≡ []
column_end line n e h = column_rest line n (omega (arith, e)) (omega (arith, e, h)) ∙ drop_of_length-le (line_tokens line) (omega (arith, e))

-- The mark.

mark_skipped : (s : List ℕ) → unmarked (0xEF ∷ 0xBB ∷ 0xBF ∷ s) ≡ s
mark_skipped s = refl

kept_by : (s : List ℕ) (test : Bool) → bytes_eq (take 3 s) (0xEF ∷ 0xBB ∷ 0xBF ∷ []) ≡ test → (take 3 s ≡ 0xEF ∷ 0xBB ∷ 0xBF ∷ [] → ⊥) → unmarked s ≡ s
kept_by s true e h = absurd (h ((bytes_eq-Decides (take 3 s) (0xEF ∷ 0xBB ∷ 0xBF ∷ [])).0 e))
kept_by s false e h = rw e refl

no_mark_kept : (s : List ℕ) → (take 3 s ≡ 0xEF ∷ 0xBB ∷ 0xBF ∷ [] → ⊥) → unmarked s ≡ s
no_mark_kept s h = kept_by s (bytes_eq (take 3 s) (0xEF ∷ 0xBB ∷ 0xBF ∷ [])) refl h

pub place_laws : PlaceLaws
place_laws = record {
  column_before = column_before;
  column_rest = column_rest;
  column_end = column_end;
  mark_skipped = mark_skipped;
  no_mark_kept = no_mark_kept;
  play_again = play_again;
}
