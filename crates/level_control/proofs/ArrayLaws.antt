-- What an array holds of a list. Assumes nothing.
use Prim.Native.Nat.{◌≤◌, min}
use mathlib.Core.Path.{◌≡◌, ◌∙◌}
use mathlib.Core.List.{◌++◌}
use native.Mathlib.Omega.{arith}
use lib.ListN.{length, take, replicate}
use lib.Seq.{take-append_seam, take-take}
use Rattle.transitions.specs.Actions.{action}
use Rattle.transitions.specs.declared.actions.ActionKind.TheVariants.{X}
use Rattle.level_control.specs.Answer.{Outcome, answer_of, packed}

-- the first `count` slots are the list, where it has at most seven actions
pub unpacked : (o : Outcome) → length o.actions ≤ 7 → take (packed o).count (packed o).actions ≡ o.actions
unfolding packed answer_of
unpacked o h =
    let count : min 7 (length o.actions) ≡ length o.actions = omega arith in
    rw count (take-take (length o.actions) 7 (o.actions ++ replicate 7 (action X 0)) h ∙ take-append_seam o.actions (replicate 7 (action X 0)))
