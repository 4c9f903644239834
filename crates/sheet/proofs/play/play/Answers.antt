-- What the check of `play` does not find by itself.
use Rattle.std.proofs.Common.{◌≡◌, Err, arith, rules}
use Rattle.std.proofs.lemmas.List.{take_rest}
use Rattle.sheet.specs.Play.{play_of, play_with}
use Rattle.sheet.proofs.NumberLaws.{number_given, values_given}
use Rattle.sheet.proofs.SheetLaws.{at_least, at_most}
use Rattle.sheet.proofs.play.play.Goals as goal

pub returns-then-not-length_ok-clause-number : goal.returns-then-not-length_ok-clause-number
unfolding play_of
returns-then-not-length_ok-clause-number c =
    let same : (Err c.into.result, c.args.out.now) ≡ play_of c.args.records.now c.args.out.now = search rules in
    number_given c.args.records.now c.args.out.now same

pub returns-clause-number : goal.returns-clause-number
unfolding play_of play_with
returns-clause-number c =
    let same : (c.fit_new.result, c.fit_new.new.out) ≡ play_of c.args.records.now c.args.out.now = grind (arith, at_least, at_most, take_rest) in
    number_given c.args.records.now c.args.out.now same

pub returns-clause-values : goal.returns-clause-values
unfolding play_of play_with
returns-clause-values c =
    let same : (c.fit_new.result, c.fit_new.new.out) ≡ play_of c.args.records.now c.args.out.now = grind (arith, at_least, at_most, take_rest) in
    values_given c.args.records.now c.args.out.now same
