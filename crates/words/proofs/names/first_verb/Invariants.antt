use Rattle.std.proofs.Common.{◌≡◌, drop}
use Rattle.words.specs.Names.{first_verb}
use Rattle.words.proofs.names.first_verb.Given as goal

abbrev pub invariant-loop-verb : goal.invariant-loop-verb
invariant-loop-verb l = first_verb l.word (drop l.verb-index l.verbs) ≡ first_verb l.word l.verbs
