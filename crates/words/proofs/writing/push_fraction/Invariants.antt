use Rattle.std.proofs.Common.{◌≡◌, ◌+◌, ◌≤◌, ◌++◌}
use Rattle.arrayvec.specs.ArrayVec.{array_vec_len}
use Rattle.words.specs.Spelling.{fraction}
use Rattle.words.proofs.writing.push_fraction.Given as goal

abbrev pub invariant-loop-place : goal.invariant-loop-place
invariant-loop-place l = record {
  left : l.place ≤ l.places;
  text : l.line.items ++ fraction l.place l.number ≡ l.initial.line.items ++ fraction l.places l.number;
  room : array_vec_len l.line + l.place ≡ array_vec_len l.initial.line + l.places;
}
