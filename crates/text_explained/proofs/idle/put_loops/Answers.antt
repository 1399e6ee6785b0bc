use Rattle.std.specs.BTreeSet.{contains}
use Rattle.std.specs.Ordering.{nat_cmp}
use Rattle.text_explained.specs.Idle.{IsLoopRow, is_with_others}
use Rattle.text_rows.proofs.RowLaws.{so_far_all, so_far_one}
use Rattle.text_explained.proofs.idle.put_loops.Goals as goal

pub loop-stated-preserved : goal.loop-stated-preserved
loop-stated-preserved c =
    so_far_one (IsLoopRow c.args.apart.now c.args.graph.now (is_with_others c.args.seen.together (contains nat_cmp c.args.seen.reached.now))) c.args.loops.now c.loop-stated.stated-index _ c.args.out.now.items c.loop-stated.out.items
    c.put_loop.new.out.items c.loop-stated.invariant c.loop-stated-test.true c.in_ok-put_loop.ensures

pub returns : goal.returns
returns c =
    so_far_all (IsLoopRow c.args.apart.now c.args.graph.now (is_with_others c.args.seen.together (contains nat_cmp c.args.seen.reached.now))) c.args.loops.now c.loop-stated.stated-index c.args.out.now.items c.loop-stated.out.items
    c.loop-stated.invariant c.loop-stated-test.false
