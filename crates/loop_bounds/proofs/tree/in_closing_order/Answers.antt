use Rattle.std.proofs.Common.{◌≡◌, length, subst, arith}
use Rattle.loop_bounds.specs.Layout.{AreParted}
use Rattle.loop_bounds.proofs.LayoutLemmas.{parted_more, parted_none}
use Rattle.loop_bounds.proofs.tree.in_closing_order.Goals as goal

pub loop-span-init : goal.loop-span-init
loop-span-init c = parted_none c.args.found.now c.args.closing.now c.in_ok-instances.instances.items c.in_ok-spans.spans.items c.in_ok-instances.ensures.items c.in_ok-spans.ensures.items

pub loop-span-preserved : goal.loop-span-preserved
loop-span-preserved c =
    rw (c.in_ok-push.ensures.items, c.in_ok-push-2.ensures.items)
    (parted_more c.args.found.now c.args.closing.now c.loop-span.instances.items c.loop-span.spans.items c.loop-span.span-index c.index-found-instance.result c.loop-span.invariant c.loop-span-test.true (c.requires c.loop-span.span-index _ c.loop-span-test.true) c.index-found-instance.is)

pub returns : goal.returns
returns c =
    let ended : c.loop-span.span-index ≡ length c.args.closing.now = omega arith in
    subst (AreParted c.args.found.now c.args.closing.now c.loop-span.instances.items c.loop-span.spans.items) ended c.loop-span.invariant
