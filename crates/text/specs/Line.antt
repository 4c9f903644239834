-- Sheet: a line has the index from 1, the number, the level or `-`, the remaining tenths and the actions,
-- single spaces between, a line feed after.
use Rattle.std.specs.Prelude.{ℕ, Bool, true, false, cond, List, [], ◌∷◌, ◌++◌, Option, Some, None}
use Prim.Native.Char.{code}
use Rattle.units.specs.declared.Tenths.{Tenths}
use Rattle.transitions.specs.declared.actions.Action.{Action}
use Rattle.transitions.specs.declared.actions.ActionKind.{ActionKind}
use Rattle.transitions.specs.declared.actions.ActionKind.TheVariants.{D, P, S, C, L, R, W, E, K, X}
use Rattle.text.specs.Text.{ascii, digits}

abbrev pub letter_of : ActionKind → ℕ
letter_of D = code "D"
letter_of P = code "P"
letter_of S = code "S"
letter_of C = code "C"
letter_of L = code "L"
letter_of R = code "R"
letter_of W = code "W"
letter_of E = code "E"
letter_of K = code "K"
letter_of X = code "X"

-- D is followed by its level, C by 0 or 1, W by a time in µs and E by its number; the others stand alone
abbrev pub shows_value : ActionKind → Bool
shows_value D = true
shows_value P = false
shows_value S = false
shows_value C = true
shows_value L = false
shows_value R = false
shows_value W = true
shows_value E = true
shows_value K = false
shows_value X = false

-- the level, or `-`
unfoldable pub level_text : Option ℕ → List ℕ
level_text (Some level) = digits level
level_text None = ascii "-"

unfoldable pub action_text : Action → List ℕ
action_text a = ascii " " ++ (letter_of a.kind ∷ []) ++ cond (shows_value a.kind) (digits a.value) []

unfoldable pub actions_text : List Action → List ℕ
actions_text [] = []
actions_text (a ∷ more) = action_text a ++ actions_text more

-- a line up to its actions
abbrev pub numbers_text : ℕ → ℕ → Option ℕ → Tenths → List ℕ
numbers_text index number level remaining =
    digits index ++ ascii " " ++ digits number ++ ascii " " ++ level_text level ++ ascii " " ++ digits remaining.0

unfoldable pub line_of : ℕ → ℕ → Option ℕ → Tenths → List Action → List ℕ
line_of index number level remaining actions =
    numbers_text index number level remaining
    ++ actions_text actions
    ++ ascii "\n"

-- the line of a refused play: 0, the number of the refusal, a line feed
abbrev pub refusal_line : ℕ → List ℕ
refusal_line number = ascii "0 " ++ digits number ++ ascii "\n"
