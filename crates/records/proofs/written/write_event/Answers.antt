-- What the check of `write_event` does not find by itself.
use Rattle.std.proofs.Common.{ap, ◌∙◌, rules}
use Rattle.records.specs.EventRecord.{event_read}
use Rattle.records.proofs.WrittenLaws.{event_written}
use Rattle.records.proofs.written.write_event.Goals as goal

pub returns-clause-read : goal.returns-clause-read
returns-clause-read c = ap event_read (search rules) ∙ event_written c.args.event (search rules)
