use Rattle.std.proofs.Common.{◌-◌, ◌+◌, ◌≤◌, ◌≡◌, length, drop}
use Rattle.std.specs.List.{prefix_len}
use Rattle.words.specs.Lexis.{is_other}
use Rattle.words.proofs.lexis.length_before.Given as goal

abbrev pub invariant-loop-at : goal.invariant-loop-at
invariant-loop-at l = (l.at ≤ length l.text) × (l.at + prefix_len (is_other l.stop) (drop l.at l.text) ≡ prefix_len (is_other l.stop) l.text)

abbrev pub decreases-loop-at : goal.decreases-loop-at
decreases-loop-at l = length l.text - l.at
