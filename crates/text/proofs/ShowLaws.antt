-- What a line shows: its words, with single spaces between. Assumes nothing.
use Prim.Native.Nat.{ℕ, ◌≤◌}
use Prim.Native.Char.{code}
use mathlib.Core.Path.{◌≡◌, refl, ap, ◌∙◌}
use mathlib.Core.Bool.{Bool, true, false, cond}
use mathlib.Core.List.{List, [], ◌∷◌, ◌++◌, append_assoc, append-nil}
use native.Mathlib.Omega.{arith}
use borrow.Author.Tests.{ne_eqb}
use lib.Dec.{lit≤}
use Rattle.std.specs.Prelude.{Option, Some, None}
use Rattle.units.specs.declared.Tenths.{Tenths}
use Rattle.transitions.specs.declared.actions.Action.{Action}
use Rattle.transitions.specs.declared.actions.ActionKind.{ActionKind}
use Rattle.transitions.specs.declared.actions.ActionKind.TheVariants.{D, P, S, C, L, R, W, E, K, X}
use Rattle.text.specs.Text.{ascii, digits}
use Rattle.text.specs.Line.{letter_of, shows_value, level_text, action_text, actions_text, line_of, refusal_line}
use Rattle.text.specs.Laws.{All, Digit, Printable, split, action_word, action_words, Shows}
use Rattle.text.proofs.DigitLaws.{all_append, digits_only}

-- a sign that shows and is no space
abbrev Mark : ℕ → Type 0
Mark b = (33 ≤ b) × (b ≤ code "~")

weaker : (s : List ℕ) → All Mark s → All Printable s
weaker [] a = tt
weaker (b ∷ s) a = ((omega (arith, a.0.0), a.0.1), weaker s a.1)

digits_marks : (s : List ℕ) → All Digit s → All Mark s
digits_marks [] a = tt
digits_marks (b ∷ s) a = ((omega (arith, a.0.0), omega (arith, a.0.1)), digits_marks s a.1)

number_marks : (x : ℕ) → All Mark (digits x)
number_marks x = digits_marks (digits x) (digits_only x)

letter_mark : (k : ActionKind) → Mark (letter_of k)
letter_mark D = (lit≤ tt, lit≤ tt)
letter_mark P = (lit≤ tt, lit≤ tt)
letter_mark S = (lit≤ tt, lit≤ tt)
letter_mark C = (lit≤ tt, lit≤ tt)
letter_mark L = (lit≤ tt, lit≤ tt)
letter_mark R = (lit≤ tt, lit≤ tt)
letter_mark W = (lit≤ tt, lit≤ tt)
letter_mark E = (lit≤ tt, lit≤ tt)
letter_mark K = (lit≤ tt, lit≤ tt)
letter_mark X = (lit≤ tt, lit≤ tt)

shown_marks : (shown : Bool) (x : ℕ) → All Mark (cond shown (digits x) [])
shown_marks true x = number_marks x
shown_marks false x = tt

word_marks : (a : Action) → All Mark (action_word a)
word_marks a = (letter_mark a.kind, shown_marks (shows_value a.kind) a.value)

level_marks : (l : Option ℕ) → All Mark (level_text l)
unfolding level_text
level_marks (Some l) = number_marks l
level_marks None = ((lit≤ tt, lit≤ tt), tt)

-- a word, a space and the rest are cut into the word and the rest's words
cut_word : (w s : List ℕ) → All Mark w → split (w ++ (code " " ∷ s)) ≡ w ∷ split s
cut_word [] s a = refl
cut_word (b ∷ w) s a = rw (ne_eqb b 32 (λ e. omega (arith, a.0.0)), cut_word w s a.1)

-- a word alone is cut into itself
cut_last : (w : List ℕ) → All Mark w → split w ≡ w ∷ []
cut_last [] a = refl
cut_last (b ∷ w) a = rw (ne_eqb b 32 (λ e. omega (arith, a.0.0)), cut_last w a.1)

-- a word and the actions after it
cut_actions : (w : List ℕ) (xs : List Action) → All Mark w → split (w ++ actions_text xs) ≡ w ∷ action_words xs
unfolding actions_text action_text
cut_actions w [] a = rw (append-nil w) (cut_last w a)
cut_actions w (x ∷ xs) a = cut_word w (action_word x ++ actions_text xs) a ∙ ap (λ (ws : List (List ℕ)). w ∷ ws) (cut_actions (action_word x) xs (word_marks x))

actions_printable : (xs : List Action) → All Printable (actions_text xs)
unfolding actions_text action_text
actions_printable [] = tt
actions_printable (x ∷ xs) = ((lit≤ tt, lit≤ tt), all_append Printable (action_word x) (actions_text xs) (weaker (action_word x) (word_marks x)) (actions_printable xs))

module _ (index number : ℕ) (level : Option ℕ) (remaining : Tenths) (actions : List Action) where
  abbrev shown : List ℕ
  shown = digits index ++ (code " " ∷ (digits number ++ (code " " ∷ (level_text level ++ (code " " ∷ (digits remaining.0 ++ actions_text actions))))))

  spaced : (w s : List ℕ) → All Mark w → All Printable s → All Printable (w ++ (code " " ∷ s))
  spaced w s a p = all_append Printable w (code " " ∷ s) (weaker w a) ((lit≤ tt, lit≤ tt), p)

  pub line_shows : Shows (line_of index number level remaining actions)
      (digits index ∷ digits number ∷ level_text level ∷ digits remaining.0 ∷ action_words actions)
  unfolding line_of
  line_shows = record {
    shown = shown;
    ends = simp append_assoc;
    printable = spaced (digits index) _ (number_marks index) (spaced (digits number) _ (number_marks number) (spaced (level_text level) _ (level_marks level)
        (all_append Printable (digits remaining.0) (actions_text actions) (weaker (digits remaining.0) (number_marks remaining.0)) (actions_printable actions))));
    cut = rw (
      cut_word (digits index) _ (number_marks index),
      cut_word (digits number) _ (number_marks number),
      cut_word (level_text level) _ (level_marks level),
      cut_actions (digits remaining.0) actions (number_marks remaining.0),
    );
  }

pub refusal_shows : (number : ℕ) → Shows (refusal_line number) (ascii "0" ∷ digits number ∷ [])
refusal_shows number = record {
  shown = ascii "0 " ++ digits number;
  ends = refl;
  printable = ((lit≤ tt, lit≤ tt), ((lit≤ tt, lit≤ tt), weaker (digits number) (number_marks number)));
  cut = ap (λ (ws : List (List ℕ)). ascii "0" ∷ ws) (cut_last (digits number) (number_marks number));
}
