-- What the check of `push` does not find by itself.
use Rattle.std.proofs.Common.{rules}
use Rattle.transitions.proofs.ActionLaws.{still_free}
use Rattle.transitions.proofs.actions.Actions.push.Goals as goal

pub invariant_of-self : goal.invariant_of-self
invariant_of-self c = (search rules, search rules, search (rules, still_free))
