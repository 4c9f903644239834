-- Laws of a line: one action more, and the most bytes that a line has. Assumes nothing.
use Prim.Native.Nat.{ℕ, ◌+◌, ◌*◌, ◌<◌, ◌≤◌, zero-le}
use mathlib.Core.Path.{◌≡◌, refl}
use mathlib.Core.Bool.{Bool, true, false, cond}
use mathlib.Core.List.{List, [], ◌∷◌, ◌++◌, append_assoc, append-nil}
use native.Mathlib.Omega.{arith}
use lib.Dec.{lit≤, lit<}
use lib.ListN.{length, length-append}
use Rattle.std.specs.Prelude.{Option, Some, None}
use Rattle.std.proofs.lemmas.Grind.{common_steps}
use Rattle.units.specs.declared.Tenths.{Tenths}
use Rattle.transitions.specs.declared.actions.Action.{Action}
use Rattle.text.specs.Text.{ascii, digits}
use Rattle.text.specs.Line.{shows_value, level_text, action_text, actions_text, line_of}
use Rattle.text.specs.Laws.{LevelByte}
use Rattle.text.proofs.DigitLaws.{digits_one, digits_below, digits_at_most}

actions_append : (xs ys : List Action) → actions_text (xs ++ ys) ≡ actions_text xs ++ actions_text ys
unfolding actions_text
actions_append [] ys = refl
actions_append (a ∷ xs) ys = rw (actions_append xs ys, append_assoc)

actions_one : (a : Action) → actions_text (a ∷ []) ≡ action_text a
unfolding actions_text
actions_one a = append-nil (action_text a)

pub actions_more : (xs : List Action) (a : Action) → actions_text (xs ++ (a ∷ [])) ≡ actions_text xs ++ action_text a
actions_more xs a = rw (actions_append xs (a ∷ []), actions_one a)

pub actions_none : actions_text [] ≡ []
unfolding actions_text
actions_none = refl

shown_length : (shown : Bool) (x : ℕ) → length (cond shown (digits x) []) ≤ 20
shown_length true x = digits_at_most x
shown_length false x = zero-le

pub action_length : (a : Action) → length (action_text a) ≤ 22
unfolding action_text
action_length a = omega (arith, shown_length (shows_value a.kind) a.value)

pub actions_length : (xs : List Action) → length (actions_text xs) ≤ 22 * length xs
unfolding actions_text
actions_length [] = zero-le
actions_length (a ∷ xs) = simp length-append (omega (arith, action_length a, actions_length xs))

level_length : (l : Option ℕ) → LevelByte l → length (level_text l) ≤ 3
unfolding level_text
level_length (Some l) h = digits_below 2 l (omega arith)
level_length None h = lit≤ tt

-- three digits of the number, three bytes of the level, five digits of the tenths, 22 bytes for each action, three spaces and a line feed
pub line_length : (index number : ℕ) (level : Option ℕ) (remaining : Tenths) (actions : List Action)
    → number < 256 → LevelByte level → remaining.0 < 65536 → length actions ≤ 7
    → length (line_of index number level remaining actions) ≤ 169 + length (digits index)
unfolding line_of
line_length index number level remaining actions n l t a = simp length-append (omega (
  arith,
  digits_below 2 number (omega arith),
  level_length level l,
  digits_below 4 remaining.0 (omega arith),
  actions_length actions,
))

-- the digits of 0, of a byte, and of the remaining tenths

pub digits_zero : digits 0 ≡ ascii "0"
digits_zero = digits_one 0 (lit< tt)

pub byte_digits : (x : ℕ) → x < 256 → length (digits x) ≤ 3
byte_digits x h = digits_below 2 x (omega arith)

pub tenths_digits : (x : ℕ) → x < 65536 → length (digits x) ≤ 5
tenths_digits x h = digits_below 4 x (omega arith)

pub ruleset numbers = (digits_zero, byte_digits, tenths_digits, digits_at_most, append_assoc, length-append, common_steps)

pub ruleset lines = (numbers, actions_length)

pub ruleset actions = (actions_more, actions_none, action_length, actions_length, append_assoc, length-append, common_steps)
