-- What the loop of `all` keeps.
use Rattle.std.proofs.Common.{◌+◌, ◌≤◌}
use Rattle.replay.proofs.all.Given as goal

-- each play that has been shown is counted once
abbrev pub invariant-loop-index : goal.invariant-loop-index
invariant-loop-index g l = l.count.agree + l.count.differ ≤ l.index
