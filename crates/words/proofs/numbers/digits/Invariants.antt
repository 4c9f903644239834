use Rattle.std.proofs.Common.{◌≡◌, drop}
use Rattle.words.specs.Numbers.{number_after}
use Rattle.words.proofs.numbers.digits.Given as goal

abbrev pub invariant-loop-byte : goal.invariant-loop-byte
invariant-loop-byte l = number_after l.number (drop l.byte-index l.word) ≡ number_after l.fn.before l.word
