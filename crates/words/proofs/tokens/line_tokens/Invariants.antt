use Rattle.std.proofs.Common.{◌-◌, ◌≡◌, ◌++◌, length}
use Rattle.words.specs.Tokens.{line_tokens, tokens_in}
use Rattle.words.proofs.tokens.line_tokens.Given as goal

abbrev pub invariant-loop-rest : goal.invariant-loop-rest
invariant-loop-rest l = l.tokens.items ++ tokens_in (32 - length l.tokens.items) l.rest ≡ line_tokens l.fn.line

abbrev pub decreases-loop-rest : goal.decreases-loop-rest
decreases-loop-rest l = 32 - length l.tokens.items
