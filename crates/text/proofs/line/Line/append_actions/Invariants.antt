-- What the loop of `append_actions` keeps.
use Rattle.std.proofs.Common.{◌≡◌, ◌++◌, take}
use Rattle.text.specs.Line.{actions_text}
use Rattle.text.proofs.line.Line.append_actions.Given as goal

abbrev pub invariant-loop-action : goal.invariant-loop-action
invariant-loop-action l = l.self ≡ l.initial.self ++ actions_text (take l.action-index l.actions)
