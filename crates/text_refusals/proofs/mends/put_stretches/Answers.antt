use Rattle.text_refusals.specs.Mends.{stretch_text}
use Rattle.text_rows.proofs.ColumnLaws.{item_more}
use Rattle.text_refusals.proofs.mends.put_stretches.Goals as goal

pub loop-stretch-preserved : goal.loop-stretch-preserved
loop-stretch-preserved c =
    item_more (stretch_text c.args.words.now.lines) c.args.stretches.now c.loop-stretch.stretch-index _ c.loop-stretch.out.items
    c.put_stretch.new.out.items _ c.loop-stretch.invariant c.loop-stretch-test.true c.in_ok-put_stretch.ensures
