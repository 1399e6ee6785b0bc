use Rattle.std.proofs.Common.{◌≡◌, ap, arith, length, subst}
use Rattle.std.specs.BTreeMap.{get}
use Rattle.std.specs.Ordering.{nat_cmp}
use Rattle.justify_reports.specs.Outside.{AreFoundOutside}
use Rattle.justify_reports.proofs.outside.ranges_outside.Goals as goal

pub loop-number-preserved : goal.loop-number-preserved
loop-number-preserved c = c.in_ok-put_place.ensures c.loop-number.invariant

pub returns : goal.returns
returns c =
    let h = c.args.handler.now in
    let there = ap length c.places-number-end.ensures.value in
    let at_end : c.loop-number.number ≡ length h.graph.places =
    omega (arith, c.loop-number-test.false, c.loop-number.auto.number-end, there) in
    subst (λ n. AreFoundOutside h.graph h.tree c.args.outside.now n (get nat_cmp c.loop-number.found)) at_end
    c.loop-number.invariant
