-- Sheet: what a writer leaves in a slice, and the decimal digits of a number.
use Rattle.std.specs.Prelude.{ℕ, zero, suc, ◌+◌, ◌/◌, ◌%◌, ◌≤◌, min, ◌≡◌, cond, List, [], ◌∷◌, ◌++◌, leb, ltb, length}
use Prim.Native.Char.{code}
use Prim.Native.String.{String}
use Prim.Native.String as str
use Rattle.std.proofs.lemmas.List.Edits.{sets}

-- the bytes of an ASCII text
abbrev pub ascii : String → List ℕ
ascii str.[] = []
ascii (str.◌∷◌ c s) = code c ∷ ascii s

-- the largest position, usize::MAX
abbrev pub most : ℕ
most = 18446744073709551615

-- text stands in the slice from a place on, as far as the slice reaches, all else is as it was, and r is the position past the text
pub record Wrote (old : List ℕ) (at : ℕ) (text new : List ℕ) (r : ℕ) : Type 0 where
  pub bytes : new ≡ sets old at text
  pub next : r ≡ min (at + length text) most

-- all of a text has room from a place on
pub record Room (old : List ℕ) (at : ℕ) (text : List ℕ) : Type 0 where
  pub fits : at + length text ≤ length old

-- a text is written where all of it has room, else nothing is; in both cases the position past it is given
unfoldable pub put_whole : List ℕ → ℕ → List ℕ → ℕ × List ℕ
put_whole old at text = (min (at + length text) most, cond (leb (at + length text) (length old)) (sets old at text) old)

-- the digits of x, the most significant first; k is enough for them
unfoldable pub digits_within : ℕ → ℕ → List ℕ
digits_within zero x = []
digits_within (suc k) x = cond (ltb x 10) ((code "0" + x) ∷ []) (digits_within k (x / 10) ++ ((code "0" + x % 10) ∷ []))

-- the digits of a number of 64 bits: none has more than 20
unfoldable pub digits : ℕ → List ℕ
digits x = digits_within 20 x
