-- What the check of `read_event` does not find by itself.
use Rattle.std.proofs.Common.{◌≡◌, Some, refl, sym, ap, rules}
use Rattle.transitions.specs.Events.{event}
use Rattle.records.specs.EventRecord.{event_read, event_read_number}
use Rattle.records.proofs.LayoutLaws.{event_right}
use Rattle.records.proofs.ReadLaws.{event_values}
use Rattle.records.proofs.event_record.read_event.Goals as goal

pub returns-in_err-kind-clause-number : goal.returns-in_err-kind-clause-number
unfolding event_read
returns-in_err-kind-clause-number c =
    let same : c.from_residual-in_err-kind.result ≡ event_read c.args.bytes.now = search rules in
    rw same (event_right c.args.bytes.now)

pub returns-clause-number : goal.returns-clause-number
unfolding event_read
returns-clause-number c =
    let same : Some (event c.clock_time.result c.in_ok-on_off.on_off c.in_ok-kind.kind) ≡ event_read c.args.bytes.now = search rules in
    let zero : event_read_number (event_read c.args.bytes.now) ≡ 0 = ap event_read_number (sym same) in
    (λ e. (event_right c.args.bytes.now).0 zero, λ k. refl)

pub returns-clause-values : goal.returns-clause-values
unfolding event_read
returns-clause-values c =
    let same : Some (event c.clock_time.result c.in_ok-on_off.on_off c.in_ok-kind.kind) ≡ event_read c.args.bytes.now = search rules in
    event_values c.args.bytes.now _ (sym same)
