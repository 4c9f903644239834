use Rattle.std.proofs.Common.{◌≡◌, ◌+◌, ◌-◌, ◌∙◌, sym, arith}
use Rattle.words.proofs.LexisLaws.{next_from}
use Rattle.words.proofs.lexis.from_word.Goals as goal

pub loop-preserved : goal.loop-preserved
loop-preserved c =
    let m : c.args.word - (c.loop.counter + 1) ≡ c.args.word - c.loop.counter - 1 = omega arith in (
      omega (arith, c.next_word.ensures.within, c.loop.invariant.0),
      rw (m, c.next_word.ensures.rest) (sym (next_from (c.args.word - c.loop.counter) _ (omega (arith, c.loop-test.true))) ∙ c.loop.invariant.1),
    )
