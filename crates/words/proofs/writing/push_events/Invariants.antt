use Rattle.std.proofs.Common.{◌≡◌, ◌+◌, ◌*◌, ◌/◌, ◌≤◌, length}
use Rattle.arrayvec.specs.ArrayVec.{array_vec_len}
use Rattle.words.specs.Writing.{event_records, with_events}
use Rattle.words.proofs.writing.push_events.Given as goal

abbrev pub invariant-loop-record : goal.invariant-loop-record
invariant-loop-record l = record {
  text : with_events l.lines.items l.index (event_records l.rest) ≡ with_events l.fn.lines.items 1 (event_records l.events);
  room : array_vec_len l.lines + 128 * (length l.rest / 20) ≤ array_vec_len l.fn.lines + 128 * (length l.events / 20);
  counted : l.index + length l.rest ≤ 1 + length l.events;
}

abbrev pub decreases-loop-record : goal.decreases-loop-record
decreases-loop-record l = length l.rest
