-- Sheet: what its text is to be, as laws for every value, by which the definitions of this folder can be believed.
use Rattle.std.specs.Prelude.{ℕ, suc, ◌+◌, ◌-◌, ◌*◌, ◌^◌, ◌≤◌, ◌<◌, min, cond, ◌≡◌, ◌↔◌, List, [], ◌∷◌, ◌++◌, eqb, length, take, drop, get_or, Option, Some, None}
use Prim.Native.Char.{code}
use Rattle.std.specs.Fmt.{decimal}
use Rattle.units.specs.Units.{tenths}
use Rattle.units.specs.declared.Tenths.{Tenths}
use Rattle.transitions.specs.Actions.{act}
use Rattle.transitions.specs.declared.actions.Action.{Action}
use Rattle.transitions.specs.declared.actions.ActionKind.TheVariants.{P, S, C, D, L, R, W, E, K, X}
use Rattle.text.specs.Text.{ascii, most, Wrote, digits, put_whole}
use Rattle.text.specs.Line.{letter_of, shows_value, level_text, line_of, refusal_line}

-- what digits read as, after a number that was read before them: each counts ten of the next
abbrev pub read_after : ℕ → List ℕ → ℕ
read_after n [] = n
read_after n (d ∷ ds) = read_after (10 * n + (d - code "0")) ds

abbrev pub read_digits : List ℕ → ℕ
read_digits ds = read_after 0 ds

-- every element is such
abbrev pub All : (ℕ → Type 0) → List ℕ → Type 0
All Such [] = Unit {0}
All Such (b ∷ s) = Such b × All Such s

abbrev pub Digit : ℕ → Type 0
Digit b = (code "0" ≤ b) × (b ≤ code "9")

-- a space, or a sign that shows
abbrev pub Printable : ℕ → Type 0
Printable b = (code " " ≤ b) × (b ≤ code "~")

-- a text cut at every space
abbrev pub put_before : ℕ → List (List ℕ) → List (List ℕ)
put_before b [] = (b ∷ []) ∷ []
put_before b (w ∷ ws) = (b ∷ w) ∷ ws

abbrev pub split : List ℕ → List (List ℕ)
split [] = [] ∷ []
split (b ∷ s) = cond (eqb b (code " ")) ([] ∷ split s) (put_before b (split s))

-- the letter, and the value where one is shown
abbrev pub action_word : Action → List ℕ
action_word a = letter_of a.kind ∷ cond (shows_value a.kind) (digits a.value) []

abbrev pub action_words : List Action → List (List ℕ)
action_words [] = []
action_words (a ∷ more) = action_word a ∷ action_words more

-- a level of 8 bits, or missing
abbrev pub LevelByte : Option ℕ → Type 0
LevelByte (Some l) = l < 256
LevelByte None = Unit {0}

-- a line shows these words: single spaces between, a line feed after and nowhere else, and no sign that does not show
pub record Shows (line : List ℕ) (words : List (List ℕ)) : Type 0 where
  pub shown : List ℕ
  pub ends : line ≡ shown ++ ascii "\n"
  pub printable : All Printable shown
  pub cut : split shown ≡ words

pub record Laws : Type 0 where
  -- digits are the library's decimal
  pub digits_decimal : (x : ℕ) → x < 2 ^ 64 → digits x ≡ decimal x
  -- digits read back give the number; they are digits, and the first is 0 of a number of one digit alone
  pub digits_read : (x : ℕ) → x < 2 ^ 64 → read_digits (digits x) ≡ x
  pub digits_only : (x : ℕ) → All Digit (digits x)
  pub no_leading_zero : (x : ℕ) → x < 2 ^ 64 → 10 ≤ x → get_or (digits x) 0 (code "0") ≡ code "0" → ⊥
  -- a number below 10^(k+1) has at most k+1 digits
  pub digits_length : (k x : ℕ) → x < 10 ^ suc k → length (digits x) ≤ suc k
  -- a line shows its index, number, level or `-`, remaining tenths and actions, single spaces between, a line feed after
  pub line_shows : (index number : ℕ) (level : Option ℕ) (remaining : Tenths) (actions : List Action)
      → Shows (line_of index number level remaining actions)
      (digits index ∷ digits number ∷ level_text level ∷ digits remaining.0 ∷ action_words actions)
  -- a line of at most seven actions has at most 169 bytes beside its index
  pub line_length : (index number : ℕ) (level : Option ℕ) (remaining : Tenths) (actions : List Action)
      → number < 256 → LevelByte level → remaining.0 < 65536 → length actions ≤ 7
      → length (line_of index number level remaining actions) ≤ 169 + length (digits index)
  -- these lines of a short play, byte for byte
  pub sheet : line_of 1 0 (Some 10) (tenths 0) (act D 11)
      ++ line_of 2 0 (Some 11) (tenths 2) (act P 0 ++ act S 0 ++ act L 0 ++ act W 2100000)
      ++ line_of 3 0 (Some 11) (tenths 2) (act D 12)
      ++ line_of 4 0 (Some 12) (tenths 1) (act P 0 ++ act S 0 ++ act W 2200000)
      ++ line_of 5 8 (Some 12) (tenths 1) []
      ++ line_of 6 0 (Some 12) (tenths 1) (act D 13)
      ++ line_of 7 0 (Some 13) (tenths 0) (act P 0 ++ act S 0 ++ act L 0 ++ act R 0)
      ≡ ascii "1 0 10 0 D11\n2 0 11 2 P S L W2100000\n3 0 11 2 D12\n4 0 12 1 P S W2200000\n5 8 12 1\n6 0 12 1 D13\n7 0 13 0 P S L R\n"
  -- and the letters that they lack
  pub other_letters : line_of 1 0 None (tenths 0) (act C 0 ++ act C 1 ++ act E 15 ++ act K 0 ++ act X 0) ≡ ascii "1 0 - 0 C0 C1 E15 K X\n"
  -- the line of a refused play shows 0 and its number
  pub refusal_shows : (number : ℕ) → Shows (refusal_line number) (ascii "0" ∷ digits number ∷ [])
  -- byte for byte, for each of its numbers
  pub refusals : (refusal_line 1 ≡ ascii "0 1\n")
      × (refusal_line 2 ≡ ascii "0 2\n")
      × (refusal_line 3 ≡ ascii "0 3\n")
      × (refusal_line 4 ≡ ascii "0 4\n")
      × (refusal_line 16 ≡ ascii "0 16\n")
  -- a text that fits stands where it was put, and the bytes before and past it stay
  pub stands : (old : List ℕ) (at : ℕ) (text new : List ℕ) (r : ℕ) → length old ≤ most → Wrote old at text new r → at + length text ≤ length old
      → (new ≡ take at old ++ text ++ drop (at + length text) old) × (r ≡ at + length text)
  -- a position past the slice's end says that the text did not fit
  pub too_long : (old : List ℕ) (at : ℕ) (text new : List ℕ) (r : ℕ) → length old < most → Wrote old at text new r
      → (length old < r) ↔ (length old < at + length text)
  -- what is written whole or not at all stands where it has room, and the bytes before and past it stay
  pub whole_stands : (old : List ℕ) (at : ℕ) (text : List ℕ) → length old ≤ most → at + length text ≤ length old
      → ((put_whole old at text).0 ≡ at + length text) × ((put_whole old at text).1 ≡ take at old ++ text ++ drop (at + length text) old)
  -- where it has not, all stay, and the position counts on
  pub whole_keeps : (old : List ℕ) (at : ℕ) (text : List ℕ) → length old < at + length text
      → ((put_whole old at text).0 ≡ min (at + length text) most) × ((put_whole old at text).1 ≡ old)
