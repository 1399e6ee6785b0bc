use Rattle.std.proofs.Common.{◌≡◌, ap, arith, length, subst}
use Rattle.std.specs.BTreeMap.{get}
use Rattle.std.specs.Ordering.{nat_cmp}
use Rattle.justify_reports.specs.Returns.{AreFound}
use Rattle.justify_reports.proofs.returns.goings.Goals as goal

pub loop-number-preserved : goal.loop-number-preserved
loop-number-preserved c = c.in_ok-put_going.ensures c.loop-number.invariant

pub returns : goal.returns
returns c =
    let h = c.args.handler.now in
    let there = ap length c.places-number-end.ensures.value in
    let at_end : c.loop-number.number ≡ length h.graph.places =
    omega (arith, c.loop-number-test.false, c.loop-number.auto.number-end, there) in
    subst
    (λ n. AreFound h.image.now h.statement h.graph h.tree c.args.destinations.now n (get nat_cmp c.loop-number.found))
    at_end c.loop-number.invariant
