use Rattle.std.proofs.Common.{◌-◌, ◌≤◌, ◌≡◌, length}
use Rattle.words.specs.Lexis.{from_word}
use Rattle.words.proofs.lexis.from_word.Given as goal

abbrev pub invariant-loop : goal.invariant-loop
invariant-loop l = (length l.rest ≤ length l.line) × (from_word (l.word - l.counter) l.rest ≡ from_word l.word l.line)
