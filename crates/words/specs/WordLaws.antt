-- What the words of a line are, as laws that use nothing of Lexis.antt, by which its words can be believed.
use Rattle.std.specs.Prelude.{ℕ, ◌≤◌, ◌≡◌, ◌≢◌, ◌⊎◌, List, [], ◌∷◌, ◌++◌, map, length, take, Option, Some, None}
use Rattle.std.specs.List.{AllByRecursion as Each}
use Rattle.words.specs.Tokens.{line_tokens, token_of}

-- white space: space, tab, carriage return, form feed or line feed
abbrev pub White : ℕ → Type 0
White b = (b ≡ 32) ⊎ (b ≡ 9) ⊎ (b ≡ 13) ⊎ (b ≡ 12) ⊎ (b ≡ 10)

-- what a word is made of: no white space and no '#'
pub record InWord (b : ℕ) : Type 0 where
  pub no_white : White b → ⊥
  pub no_comment : b ≢ 35

-- a word, and the gap before it
pub record Piece : Type 0 where
  pub gap : List ℕ
  pub word : List ℕ

-- a line put together: its words, the gap behind the last, and what stands behind a '#' if there is one
pub record Line : Type 0 where
  pub pieces : List Piece
  pub gap : List ℕ
  pub comment : Option (List ℕ)

-- the gap may be empty, the word not
pub record IsPiece (p : Piece) : Type 0 where
  pub gap : Each White p.gap
  pub word : Each InWord p.word
  pub some : p.word ≢ []

-- the gap before a word is not empty, but before the first it may be
abbrev pub Apart : List Piece → Type 0
Apart [] = Unit {0}
Apart (p ∷ ps) = Each (λ (p : Piece). p.gap ≢ []) ps

pub record IsLine (l : Line) : Type 0 where
  pub pieces : Each IsPiece l.pieces
  pub apart : Apart l.pieces
  pub gap : Each White l.gap

abbrev pub comment_bytes : Option (List ℕ) → List ℕ
comment_bytes None = []
comment_bytes (Some s) = 35 ∷ s

abbrev pub before : List Piece → List ℕ → List ℕ
before [] s = s
before (p ∷ ps) s = p.gap ++ (p.word ++ before ps s)

-- its bytes
abbrev pub spelled : Line → List ℕ
spelled l = before l.pieces (l.gap ++ comment_bytes l.comment)

pub record WordLaws : Type 0 where
  -- the tokens of a line are those of its words
  pub words_read : (l : Line) → IsLine l → length l.pieces ≤ 32 → line_tokens (spelled l) ≡ map (λ (p : Piece). token_of p.word) l.pieces
  -- where it has more than 32, those of the first 32
  pub first_32 : (l : Line) → IsLine l → line_tokens (spelled l) ≡ take 32 (map (λ (p : Piece). token_of p.word) l.pieces)
  -- a comment says nothing
  pub comment_cut : (s rest : List ℕ) → line_tokens (s ++ 35 ∷ rest) ≡ line_tokens s
  -- every line is one that is put together so
  pub every_line : (s : List ℕ) → (l : Line) × IsLine l × (spelled l ≡ s)
