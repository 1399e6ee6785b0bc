use Rattle.std.proofs.Common.{refl}
use Rattle.loop_bounds.proofs.LayoutLemmas.{numbers_more}
use Rattle.loop_bounds.proofs.layout.numbers.Goals as goal

pub loop-number-preserved : goal.loop-number-preserved
loop-number-preserved c = numbers_more c.args.order.now c.loop-number.numbers.items c.loop-number.number _ c.loop-number.invariant c.loop-number-test.true refl (c.requires.inside c.loop-number.number c.loop-number-test.true) (λ i j lt inside e. c.requires.once i j lt inside e)
