use Rattle.std.proofs.Common.{◌≡◌, rules}
use Rattle.words.specs.Writing.{write_into}
use Rattle.words.proofs.NumberLaws.{number_given, number_ok, values_given, values_ok}
use Rattle.words.proofs.writing.write_play.Goals as goal

pub returns-in_err-push_play-clause-number : goal.returns-in_err-push_play-clause-number
returns-in_err-push_play-clause-number c =
    let same : (c.from_residual.result, c.args.text.now) ≡ write_into c.args.records.now c.args.text.now = search rules in
    number_given c.args.records.now c.args.text.now same

pub returns-in_err-push_play-clause-values : goal.returns-in_err-push_play-clause-values
returns-in_err-push_play-clause-values c =
    let same : (c.from_residual.result, c.args.text.now) ≡ write_into c.args.records.now c.args.text.now = search rules in
    values_given c.args.records.now c.args.text.now same

pub returns-clause-number : goal.returns-clause-number
returns-clause-number c = number_ok c.args.records.now _ c.in_ok-push_play.ensures.ok

pub returns-clause-values : goal.returns-clause-values
returns-clause-values c = rw c.len-2.ensures.value (values_ok c.args.records.now _ c.in_ok-push_play.ensures.ok)
