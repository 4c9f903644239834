use Rattle.std.proofs.Common.{◌≡◌, drop}
use Rattle.words.specs.Names.{first_name}
use Rattle.words.proofs.names.first_name.Given as goal

abbrev pub invariant-loop-name : goal.invariant-loop-name
invariant-loop-name l = first_name l.word (drop l.name-index l.names) ≡ first_name l.word l.names
