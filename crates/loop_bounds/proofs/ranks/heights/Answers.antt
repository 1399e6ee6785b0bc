use Rattle.std.proofs.Common.{refl}
use Rattle.loop_bounds.proofs.PlainLemmas.{heights_more}
use Rattle.loop_bounds.proofs.ranks.heights.Goals as goal

pub loop-k-preserved : goal.loop-k-preserved
loop-k-preserved c = heights_more c.args.order.now c.loop-k.heights.items c.args.nodes c.loop-k.k _ c.loop-k.invariant c.loop-k-test.true refl (c.requires.inside c.loop-k.k c.loop-k-test.true) (λ j i lt inside e. c.requires.once j i lt inside e)
