-- What the check of `fit` does not find by itself.
use Rattle.std.proofs.Common.{◌≤◌, length, arith}
use Rattle.sheet.proofs.SheetLaws.{fit_yes, sure}
use Rattle.sheet.proofs.lines.fit.Goals as goal

-- its lines are too few to exceed the room
pub returns-then-surely_fits-clause-out_after : goal.returns-then-surely_fits-clause-out_after
returns-then-surely_fits-clause-out_after c =
    let put = c.put_each in
    let fits : put.result ≤ length c.args.out.now = omega (arith, sure _ _ c.surely_fits.ensures c.if-surely_fits.true) in
    fit_yes _ c.args.out.now put.new.out (omega arith) put.ensures.value fits put.ensures.wrote

-- the text was measured, and fits
pub returns-clause-out_after : goal.returns-clause-out_after
returns-clause-out_after c =
    let put = c.put_each-2 in
    let fits : put.result ≤ length c.args.out.now = omega (arith, c.put_each-need.ensures.value) in
    fit_yes _ c.args.out.now put.new.out (omega arith) put.ensures.value fits put.ensures.wrote
