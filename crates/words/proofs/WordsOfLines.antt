-- Proofs of specs/WordLaws.antt. Assumes nothing.
use Rattle.std.proofs.Common.{ℕ, zero, suc, ◌≡◌, ◌+◌, ◌≤◌, Bool, true, false, List, [], ◌∷◌, ◌++◌, length, take, drop, Option, Some, None, refl, sym, ap, ◌∙◌, arith, inl, inr, ⊎_elim}
use Rattle.std.specs.Prelude.{map}
use mathlib.Core.Logic.{◌⊎◌, ◌≢◌}
use Rattle.std.specs.List.{AllByRecursion as Each, list_all, prefix_len}
use Rattle.std.specs.Char.{is_ascii_whitespace}
use Rattle.std.proofs.lemmas.Bool.Decides.{nat_tests, eqb_tells}
use Rattle.words.specs.Lexis.{is_inner, trimmed, word, after_word}
use Rattle.words.specs.Tokens.{line_tokens, token_of, tokens_in}
use Rattle.words.specs.WordLaws.{WordLaws, White, InWord, Piece, Line, IsPiece, IsLine, Apart, comment_bytes, before, spelled}
use Rattle.words.proofs.WordsRead.{is_word, Ends, first_token, from_both}

-- Bytes.

white_is : (b : ℕ) → White b → is_ascii_whitespace b ≡ true
white_is b (inl e) = rw e refl
white_is b (inr (inl e)) = rw e refl
white_is b (inr (inr (inl e))) = rw e refl
white_is b (inr (inr (inr (inl e)))) = rw e refl
white_is b (inr (inr (inr (inr e)))) = rw e refl

white_ends : (b : ℕ) → White b → is_inner b ≡ false
white_ends b h = rw (white_is b h) refl

inner_by : (b : ℕ) → b ≢ 32 → b ≢ 9 → b ≢ 13 → b ≢ 12 → b ≢ 10 → b ≢ 35 → is_inner b ≡ true
inner_by b s t r f l c = grind (arith, nat_tests, s, t, r, f, l, c)

inner_is : (b : ℕ) → InWord b → is_inner b ≡ true
inner_is b h =
    let n : White b → ⊥ = h.no_white in
    inner_by b (λ e. n (inl e)) (λ e. n (inr (inl e))) (λ e. n (inr (inr (inl e)))) (λ e. n (inr (inr (inr (inl e))))) (λ e. n (inr (inr (inr (inr e))))) h.no_comment

-- Gaps say nothing.

past_white : (n b : ℕ) (s : List ℕ) → White b → tokens_in n (b ∷ s) ≡ tokens_in n s
unfolding tokens_in
past_white zero b s h = refl
past_white (suc n) b s h =
    let next : 1 + prefix_len is_ascii_whitespace s ≡ suc (prefix_len is_ascii_whitespace s) = omega arith in
    rw (white_is b h, next) refl

past_gap : (n : ℕ) (gap s : List ℕ) → Each White gap → tokens_in n (gap ++ s) ≡ tokens_in n s
past_gap n [] s h = refl
past_gap n (b ∷ gap) s h = past_white n b (gap ++ s) h.0 ∙ past_gap n gap s h.1

no_words : (n : ℕ) (comment : Option (List ℕ)) → tokens_in n (comment_bytes comment) ≡ []
unfolding tokens_in
no_words zero c = refl
no_words (suc n) None = refl
no_words (suc n) (Some s) = refl

no_more : (n : ℕ) (gap : List ℕ) (comment : Option (List ℕ)) → Each White gap → tokens_in n (gap ++ comment_bytes comment) ≡ []
no_more n gap c h = past_gap n gap (comment_bytes c) h ∙ no_words n c

-- A word ends where a gap or a comment begins.

tail_ends : (gap : List ℕ) (comment : Option (List ℕ)) → Each White gap → Ends (gap ++ comment_bytes comment)
tail_ends [] None h = tt
tail_ends [] (Some s) h = refl
tail_ends (b ∷ gap) c h = white_ends b h.0

gap_ends : (gap s : List ℕ) → Each White gap → gap ≢ [] → Ends (gap ++ s)
gap_ends [] s h n = absurd (n refl)
gap_ends (b ∷ gap) s h n = white_ends b h.0

next_ends : (ps : List Piece) (gap : List ℕ) (comment : Option (List ℕ)) → Each IsPiece ps → Each (λ (p : Piece). p.gap ≢ []) ps → Each White gap
    → Ends (before ps (gap ++ comment_bytes comment))
next_ends [] gap c h a w = tail_ends gap c w
next_ends (p ∷ ps) gap c h a w = gap_ends p.gap (p.word ++ before ps (gap ++ comment_bytes c)) h.0.gap a.0

all_inner : (w : List ℕ) → Each InWord w → list_all is_inner w ≡ true
all_inner [] h = refl
all_inner (b ∷ w) h = from_both (is_inner b) (list_all is_inner w) (inner_is b h.0) (all_inner w h.1)

word_is : (w : List ℕ) → Each InWord w → w ≢ [] → is_word w ≡ true
word_is [] h n = absurd (n refl)
word_is (b ∷ w) h n = all_inner (b ∷ w) h

later_apart : (ps : List Piece) → Each (λ (p : Piece). p.gap ≢ []) ps → Apart ps
later_apart [] a = tt
later_apart (p ∷ ps) a = a.1

said : (n : ℕ) (ps : List Piece) (gap : List ℕ) (comment : Option (List ℕ)) → Each IsPiece ps → Apart ps → Each White gap
    → tokens_in n (before ps (gap ++ comment_bytes comment)) ≡ take n (map (λ (p : Piece). token_of p.word) ps)
unfolding tokens_in
said zero ps gap c h a w = refl
said (suc n) [] gap c h a w = no_more (suc n) gap c w
said (suc n) (p ∷ ps) gap c h a w =
    past_gap (suc n) p.gap (p.word ++ before ps (gap ++ comment_bytes c)) h.0.gap
    ∙ (first_token n p.word (before ps (gap ++ comment_bytes c)) (word_is p.word h.0.word h.0.some) (next_ends ps gap c h.1 a w)
    ∙ ap (λ ts. token_of p.word ∷ ts) (said n ps gap c h.1 (later_apart ps a) w))

first_32 : (l : Line) → IsLine l → line_tokens (spelled l) ≡ take 32 (map (λ (p : Piece). token_of p.word) l.pieces)
first_32 l h = said 32 l.pieces l.gap l.comment h.pieces h.apart h.gap

few : (n : ℕ) (ps : List Piece) → length ps ≤ n → take n (map (λ (p : Piece). token_of p.word) ps) ≡ map (λ (p : Piece). token_of p.word) ps
few zero [] h = refl
few zero (p ∷ ps) h = absurd (omega (arith, h))
few (suc n) [] h = refl
few (suc n) (p ∷ ps) h = ap (λ ts. token_of p.word ∷ ts) (few n ps (omega (arith, h)))

words_read : (l : Line) → IsLine l → length l.pieces ≤ 32 → line_tokens (spelled l) ≡ map (λ (p : Piece). token_of p.word) l.pieces
words_read l h n = first_32 l h ∙ few 32 l.pieces n

-- A comment says nothing: no test that fails at '#' passes it.

one_more : (n : ℕ) → 1 + n ≡ suc n
one_more n = omega arith

module _ (test : ℕ → Bool) (stops : test 35 ≡ false) (rest : List ℕ) where
  taken_by : (b : ℕ) (s : List ℕ) (t : Bool) → test b ≡ t → take (prefix_len test (s ++ 35 ∷ rest)) (s ++ 35 ∷ rest) ≡ take (prefix_len test s) s
      → take (prefix_len test (b ∷ s ++ 35 ∷ rest)) (b ∷ s ++ 35 ∷ rest) ≡ take (prefix_len test (b ∷ s)) (b ∷ s)
  taken_by b s true e more = rw (e, one_more (prefix_len test (s ++ 35 ∷ rest)), one_more (prefix_len test s)) (ap (λ s. b ∷ s) more)
  taken_by b s false e more = rw e refl

  taken : (s : List ℕ) → take (prefix_len test (s ++ 35 ∷ rest)) (s ++ 35 ∷ rest) ≡ take (prefix_len test s) s
  taken [] = rw stops refl
  taken (b ∷ s) = taken_by b s (test b) refl (taken s)

  dropped_by : (b : ℕ) (s : List ℕ) (t : Bool) → test b ≡ t → drop (prefix_len test (s ++ 35 ∷ rest)) (s ++ 35 ∷ rest) ≡ drop (prefix_len test s) s ++ 35 ∷ rest
      → drop (prefix_len test (b ∷ s ++ 35 ∷ rest)) (b ∷ s ++ 35 ∷ rest) ≡ drop (prefix_len test (b ∷ s)) (b ∷ s) ++ 35 ∷ rest
  dropped_by b s true e more = rw (e, one_more (prefix_len test (s ++ 35 ∷ rest)), one_more (prefix_len test s)) more
  dropped_by b s false e more = rw e refl

  dropped : (s : List ℕ) → drop (prefix_len test (s ++ 35 ∷ rest)) (s ++ 35 ∷ rest) ≡ drop (prefix_len test s) s ++ 35 ∷ rest
  dropped [] = rw stops refl
  dropped (b ∷ s) = dropped_by b s (test b) refl (dropped s)

word_cut : (s rest : List ℕ) → word (s ++ 35 ∷ rest) ≡ word s
word_cut s rest = rw (dropped is_ascii_whitespace refl rest s) (taken is_inner refl rest (trimmed s))

after_cut : (s rest : List ℕ) → after_word (s ++ 35 ∷ rest) ≡ after_word s ++ 35 ∷ rest
after_cut s rest = rw (dropped is_ascii_whitespace refl rest s) (dropped is_inner refl rest (trimmed s))

tokens_cut : (n : ℕ) (s rest : List ℕ) → tokens_in n (s ++ 35 ∷ rest) ≡ tokens_in n s
unfolding tokens_in
tokens_cut zero s rest = refl
tokens_cut (suc n) s rest = rw (word_cut s rest, after_cut s rest, tokens_cut n (after_word s) rest) refl

-- Every line is spelled by words, gaps and a comment.

record Made (s : List ℕ) : Type 0 where
  line : Line
  right : IsLine line
  spells : spelled line ≡ s

no_cons : (b : ℕ) (s : List ℕ) → b ∷ s ≢ []
no_cons b s e = cc

either : {P : Type 0} (b n : ℕ) → (b ≡ n → P) → (b ≢ n → P) → P
either b n f g = ⊎_elim (λ h. f h.1) (λ h. g h.1) (eqb_tells b n)

kind_of : (b : ℕ) → White b ⊎ (b ≡ 35) ⊎ InWord b
kind_of b =
    either b 32 (λ e. inl (inl e)) (λ s.
    either b 9 (λ e. inl (inr (inl e))) (λ t.
    either b 13 (λ e. inl (inr (inr (inl e)))) (λ r.
    either b 12 (λ e. inl (inr (inr (inr (inl e))))) (λ f.
    either b 10 (λ e. inl (inr (inr (inr (inr e))))) (λ l.
    either b 35 (λ e. inr (inl e)) (λ c.
    inr (inr (record { no_white = ⊎_elim s (⊎_elim t (⊎_elim r (⊎_elim f l))); no_comment = c }))))))))

abbrev piece : List ℕ → List ℕ → Piece
piece gap word = record { gap = gap; word = word }

white_front : (b : ℕ) (s : List ℕ) → White b → (ps : List Piece) (gap : List ℕ) (c : Option (List ℕ)) → Each IsPiece ps → Apart ps → Each White gap
    → before ps (gap ++ comment_bytes c) ≡ s → Made (b ∷ s)
white_front b s w [] gap c h a g e = record {
  line = record { pieces = []; gap = b ∷ gap; comment = c };
  right = record { pieces = tt; apart = tt; gap = (w, g) };
  spells = ap (λ s. b ∷ s) e;
}
white_front b s w (p ∷ ps) gap c h a g e = record {
  line = record { pieces = piece (b ∷ p.gap) p.word ∷ ps; gap = gap; comment = c };
  right = record { pieces = (record { gap = (w, h.0.gap); word = h.0.word; some = h.0.some }, h.1); apart = a; gap = g };
  spells = ap (λ s. b ∷ s) e;
}

letter : (b : ℕ) → InWord b → IsPiece (piece [] (b ∷ []))
letter b i = record { gap = tt; word = (i, tt); some = no_cons b [] }

inner_piece : (b : ℕ) (s : List ℕ) → InWord b → (front word : List ℕ) (ps : List Piece) (gap : List ℕ) (c : Option (List ℕ))
    → Each IsPiece (piece front word ∷ ps) → Apart (piece front word ∷ ps) → Each White gap
    → before (piece front word ∷ ps) (gap ++ comment_bytes c) ≡ s → Made (b ∷ s)
inner_piece b s i [] word ps gap c h a g e = record {
  line = record { pieces = piece [] (b ∷ word) ∷ ps; gap = gap; comment = c };
  right = record { pieces = (record { gap = tt; word = (i, h.0.word); some = no_cons b word }, h.1); apart = a; gap = g };
  spells = ap (λ s. b ∷ s) e;
}
inner_piece b s i (x ∷ more) word ps gap c h a g e = record {
  line = record { pieces = piece [] (b ∷ []) ∷ piece (x ∷ more) word ∷ ps; gap = gap; comment = c };
  right = record { pieces = (letter b i, h); apart = (no_cons x more, a); gap = g };
  spells = ap (λ s. b ∷ s) e;
}

inner_front : (b : ℕ) (s : List ℕ) → InWord b → (ps : List Piece) (gap : List ℕ) (c : Option (List ℕ)) → Each IsPiece ps → Apart ps → Each White gap
    → before ps (gap ++ comment_bytes c) ≡ s → Made (b ∷ s)
inner_front b s i [] gap c h a g e = record {
  line = record { pieces = piece [] (b ∷ []) ∷ []; gap = gap; comment = c };
  right = record { pieces = (letter b i, tt); apart = tt; gap = g };
  spells = ap (λ s. b ∷ s) e;
}
inner_front b s i (p ∷ ps) gap c h a g e = inner_piece b s i p.gap p.word ps gap c h a g e

comment_front : (b : ℕ) (s : List ℕ) → b ≡ 35 → Made (b ∷ s)
comment_front b s e = record {
  line = record { pieces = []; gap = []; comment = Some s };
  right = record { pieces = tt; apart = tt; gap = tt };
  spells = ap (λ b. b ∷ s) (sym e);
}

made : (s : List ℕ) → Made s
made [] = record {
  line = record { pieces = []; gap = []; comment = None };
  right = record { pieces = tt; apart = tt; gap = tt };
  spells = refl;
}
made (b ∷ s) =
    let m = made s in
    let l = m.line in
    let r = m.right in
    ⊎_elim (λ w. white_front b s w l.pieces l.gap l.comment r.pieces r.apart r.gap m.spells)
    (⊎_elim (comment_front b s) (λ i. inner_front b s i l.pieces l.gap l.comment r.pieces r.apart r.gap m.spells)) (kind_of b)

every_line : (s : List ℕ) → (l : Line) × IsLine l × (spelled l ≡ s)
every_line s = let m = made s in (m.line, m.right, m.spells)

pub word_laws : WordLaws
word_laws = record { words_read = words_read; first_32 = first_32; comment_cut = λ s rest. tokens_cut 32 s rest; every_line = every_line }
