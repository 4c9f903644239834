-- A list of actions: what is added past the seventh is dropped, and a slot that is filled leaves those behind it free.
-- Assumes nothing.
use Rattle.std.proofs.Common.{arith, ℕ, ◌+◌, ◌-◌, ◌≤◌, ◌≡◌, List, ◌++◌, length, take, drop, slice_set}
use mathlib.Core.Path.{sym, ap, ◌∙◌}
use Rattle.std.proofs.lemmas.List.{drop-set-lt, drop-drop, drop-replicate}
use Rattle.std.proofs.Math.Seq.{take-append_seam}
use Rattle.transitions.specs.Actions.{action, free_slots}
use Rattle.transitions.specs.declared.actions.Action.{Action}
use Rattle.transitions.specs.declared.actions.ActionKind.TheVariants.{X}

pub full : (l x : List Action) → length l ≡ 7 → take 7 (l ++ x) ≡ l
full l x h = ap (λ n. take n (l ++ x)) (sym h) ∙ take-append_seam l x

pub still_free : (l : List Action) (n i : ℕ) (a : Action) → i ≤ n → drop n l ≡ free_slots (7 - n) → drop (n + 1) (slice_set l i a) ≡ free_slots (7 - (n + 1))
still_free l n i a h e =
    drop-set-lt (n + 1) l i a (omega (arith, h))
    ∙ sym (drop-drop 1 n l)
    ∙ ap (λ d. drop 1 d) e
    ∙ drop-replicate 1 (7 - n) (action X 0)
    ∙ ap free_slots (omega arith)
