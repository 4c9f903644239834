-- Plays in words: which words are times, and of what value, as laws for every word.
use Rattle.std.specs.Prelude.{ℕ, ◌-◌, ◌*◌, ◌^◌, ◌≤◌, ◌<◌, ◌≡◌, List, [], ◌∷◌, ◌++◌}
use Rattle.text.specs.Text.{digits}
use Rattle.units.specs.Units.{micros}
use Rattle.units.specs.declared.Micros.{Micros}
use Rattle.words.specs.Spelling.{seconds_text}
use Rattle.words.specs.Tokens.{token_of}
use Rattle.words.specs.declared.tokens.Token.TheVariants as token

-- a word that is a time, and its value
pub data Spells (w : List ℕ) (t : Micros) : Type 0 where
  -- n seconds
  Whole : (n : ℕ) → w ≡ digits n ++ (115 ∷ []) → t.0 ≡ n * 10 ^ 6 → Spells w t
  -- n units of which 10^k are a second: one to six digits stand behind the point
  Pointed : (k n : ℕ) → 1 ≤ k → k ≤ 6 → w ≡ seconds_text k n → t.0 ≡ n * 10 ^ (6 - k) → Spells w t

pub record TimeLaws : Type 0 where
  -- these words are times, as far as 64 bits hold their value
  pub whole_seconds : (n : ℕ) → n * 10 ^ 6 < 2 ^ 64 → token_of (digits n ++ (115 ∷ [])) ≡ token.Time (micros (n * 10 ^ 6))
  pub fractions : (k n : ℕ) → 1 ≤ k → k ≤ 6 → n * 10 ^ (6 - k) < 2 ^ 64 → token_of (seconds_text k n) ≡ token.Time (micros (n * 10 ^ (6 - k)))
  -- and no others
  pub time_word : (w : List ℕ) (t : Micros) → token_of w ≡ token.Time t → Spells w t
