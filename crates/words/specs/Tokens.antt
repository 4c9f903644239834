-- A line as tokens. The token of a time is its value, that of a verb or a name which it is.
use Rattle.std.specs.Prelude.{ℕ, zero, suc, if◌then◌else◌, List, [], ◌∷◌, nat_eq, length, Option, Some, None}
use Rattle.units.specs.declared.Micros.{Micros}
use Rattle.words.specs.Lexis.{word, after_word}
use Rattle.words.specs.Names.{name_of, verb_of}
use Rattle.words.specs.Numbers.{number_of, micros_of}
use Rattle.words.specs.declared.names.Name.{Name}
use Rattle.words.specs.declared.names.Verb.{Verb}
use Rattle.words.specs.declared.tokens.Token.{Token}
use Rattle.words.specs.declared.tokens.Token.TheVariants as token

abbrev pub named_token : Option Name → Token
named_token (Some n) = token.Name n
named_token None = token.Other

abbrev pub verb_token : Option Verb → Option Name → Token
verb_token (Some v) n = token.Verb v
verb_token None n = named_token n

abbrev pub time_token : Option Micros → Option Verb → Option Name → Token
time_token (Some t) v n = token.Time t
time_token None v n = verb_token v n

abbrev pub number_token : Option ℕ → Option Micros → Option Verb → Option Name → Token
number_token (Some x) t v n = token.Number x
number_token None t v n = time_token t v n

unfoldable pub token_of : List ℕ → Token
token_of w = number_token (number_of w) (micros_of w) (verb_of w) (name_of w)

-- the tokens of the first n words
unfoldable pub tokens_in : ℕ → List ℕ → List Token
tokens_in zero s = []
tokens_in (suc n) s = if nat_eq (length (word s)) 0 then [] else token_of (word s) ∷ tokens_in n (after_word s)

-- no right line has more than 32
abbrev pub line_tokens : List ℕ → List Token
line_tokens s = tokens_in 32 s
