use Rattle.text_explained.specs.Idle.{IsStretchRow}
use Rattle.text_rows.proofs.RowLaws.{so_far_all, so_far_one}
use Rattle.text_explained.proofs.idle_stretches.put_stretches.Goals as goal

pub loop-stretch-preserved : goal.loop-stretch-preserved
loop-stretch-preserved c =
    so_far_one (IsStretchRow c.args.loops.now) c.args.stretches.now c.loop-stretch.stretch-index _ c.args.out.now.items c.loop-stretch.out.items
    c.put_stretch.new.out.items c.loop-stretch.invariant c.loop-stretch-test.true c.in_ok-put_stretch.ensures

pub returns : goal.returns
returns c =
    so_far_all (IsStretchRow c.args.loops.now) c.args.stretches.now c.loop-stretch.stretch-index c.args.out.now.items c.loop-stretch.out.items
    c.loop-stretch.invariant c.loop-stretch-test.false
