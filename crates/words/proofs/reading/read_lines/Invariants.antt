use Rattle.std.proofs.Common.{◌≡◌, ◌≤◌, ◌+◌, length}
use Rattle.words.specs.Reading.{lines_of, lines_read}
use Rattle.words.proofs.reading.read_lines.Given as goal

abbrev pub invariant-loop-records : goal.invariant-loop-records
invariant-loop-records l =
    (lines_read l.records.items l.number (lines_of l.rest) ≡ lines_read l.fn.records.items 1 (lines_of l.fn.text)) × (l.number + length l.rest ≤ 1 + length l.fn.text)

abbrev pub decreases-loop-records : goal.decreases-loop-records
decreases-loop-records l = length l.rest
