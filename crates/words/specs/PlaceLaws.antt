-- The column of a fault's word, the mark at the front of a text, and what is written read again, as laws over tokens and bytes that use no other place of a word.
use Rattle.std.specs.Prelude.{ℕ, ◌-◌, ◌≤◌, ◌<◌, ◌≡◌, List, [], ◌∷◌, length, take, drop, Ok}
use Rattle.records.specs.Laws.{AllBytes}
use Rattle.words.specs.Lexis.{column_of}
use Rattle.words.specs.Reading.{play_read, unmarked}
use Rattle.words.specs.Tokens.{line_tokens}
use Rattle.words.specs.Writing.{play_text}

pub record PlaceLaws : Type 0 where
  -- before the place of word n stand the n words before it, and no other
  pub column_before : (line : List ℕ) (n : ℕ) → n ≤ length (line_tokens line) → line_tokens (take (column_of line n - 1) line) ≡ take n (line_tokens line)
  -- from it on stand the others
  pub column_rest : (line : List ℕ) (n : ℕ) → n ≤ length (line_tokens line) → length (line_tokens line) < 32
      → line_tokens (drop (column_of line n - 1) line) ≡ drop n (line_tokens line)
  -- past the last word stands none
  pub column_end : (line : List ℕ) (n : ℕ) → n ≡ length (line_tokens line) → n < 32 → line_tokens (drop (column_of line n - 1) line) ≡ []
  -- a byte order mark at the front of a text is skipped, once, and nothing else
  pub mark_skipped : (s : List ℕ) → unmarked (0xEF ∷ 0xBB ∷ 0xBF ∷ s) ≡ s
  pub no_mark_kept : (s : List ℕ) → (take 3 s ≡ 0xEF ∷ 0xBB ∷ 0xBF ∷ [] → ⊥) → unmarked s ≡ s
  -- the text of records is read, and what is read has the same text again
  pub play_again : (records text : List ℕ) → AllBytes records → play_text records ≡ Ok text → (s : List ℕ) × (play_read text ≡ Ok s) × (play_text s ≡ Ok text)
