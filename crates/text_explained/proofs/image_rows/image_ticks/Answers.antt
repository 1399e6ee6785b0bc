use Rattle.std.specs.BTreeMap.{get}
use Rattle.std.specs.Ordering.{nat_cmp}
use Rattle.text_explained.proofs.ImageLaws.{image_more}
use Rattle.text_explained.proofs.image_rows.image_ticks.Goals as goal

pub loop-at-preserved : goal.loop-at-preserved
loop-at-preserved c =
    image_more (get nat_cmp c.args.tally.now.by_address) c.args.words.now c.loop-at.at-index _ c.loop-at.ticks c.ticks_of.result c.capped_sum-ticks.result
    c.loop-at-test.true c.loop-at.invariant c.ticks_of.ensures c.capped_sum-ticks.ensures
