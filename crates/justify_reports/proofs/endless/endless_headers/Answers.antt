use Rattle.std.proofs.Common.{◌≡◌, ap, arith, length, subst}
use Rattle.std.proofs.lemmas.List.{length-map}
use Rattle.std.specs.BTreeMap.{get}
use Rattle.std.specs.Ordering.{nat_cmp}
use Rattle.loop_bounds.specs.Extents.{found_instance}
use Rattle.justify_reports.specs.Endless.{AreFoundEndless}
use Rattle.justify_reports.proofs.endless.endless_headers.Goals as goal

pub loop-number-preserved : goal.loop-number-preserved
loop-number-preserved c = c.in_ok-put_instance.ensures c.loop-number.invariant

pub returns : goal.returns
returns c =
    let tree = c.args.handler.now.tree in
    let whole = ap length c.instances-number-end.ensures in
    let same = length-map c.instances-number-end.result.now (found_instance tree.apart) in
    let at_end : c.loop-number.number ≡ length tree.instances =
    omega (arith, c.loop-number-test.false, c.loop-number.auto.number-end, whole, same) in
    subst (λ n. AreFoundEndless tree c.args.endless.now n (get nat_cmp c.loop-number.found)) at_end c.loop-number.invariant
