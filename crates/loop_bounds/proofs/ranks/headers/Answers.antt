use Rattle.std.proofs.Common.{refl}
use Rattle.loop_bounds.proofs.PlainLemmas.{headers_more}
use Rattle.loop_bounds.proofs.ranks.headers.Goals as goal

pub loop-k-preserved : goal.loop-k-preserved
loop-k-preserved c = headers_more c.args.extents.now c.loop-k.headers.items c.args.nodes c.loop-k.k _ c.loop-k.invariant refl (c.requires c.loop-k.k (record { first = 0; end = 0; header = 0; instance = 0 }) c.loop-k-test.true)
