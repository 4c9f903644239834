-- The grammar: lines and words.
use Rattle.std.specs.Prelude.{ℕ, zero, suc, ◌+◌, ◌-◌, Bool, not, ◌||◌, List, nat_eq, take, drop, length}
use Rattle.std.specs.List.{prefix_len}
use Rattle.std.specs.Char.{is_ascii_whitespace}

abbrev pub is_other : ℕ → ℕ → Bool
is_other stop b = not (nat_eq b stop)

-- a line ends with a line feed, or with the text
abbrev pub first_line : List ℕ → List ℕ
first_line s = take (prefix_len (is_other 10) s) s

-- from its line feed on
abbrev pub after_line : List ℕ → List ℕ
after_line s = drop (prefix_len (is_other 10) s) s

-- a word has no white space and no '#'
abbrev pub is_inner : ℕ → Bool
is_inner b = not (is_ascii_whitespace b || nat_eq b 35)

-- past the white space at the front
abbrev pub trimmed : List ℕ → List ℕ
trimmed s = drop (prefix_len is_ascii_whitespace s) s

-- the next word; it is empty where the line ends or a comment begins
abbrev pub word : List ℕ → List ℕ
word s = take (prefix_len is_inner (trimmed s)) (trimmed s)

abbrev pub after_word : List ℕ → List ℕ
after_word s = drop (prefix_len is_inner (trimmed s)) (trimmed s)

-- from word n on, the first being word 0
unfoldable pub from_word : ℕ → List ℕ → List ℕ
from_word zero s = trimmed s
from_word (suc n) s = from_word n (after_word s)

-- the column of word n, from 1
abbrev pub column_of : List ℕ → ℕ → ℕ
column_of s n = length s - length (from_word n s) + 1
