use Rattle.std.proofs.Common.{◌≡◌, ℕ, length, subst, arith}
use Rattle.numbered_walks.specs.Index.{AreGrouped}
use Rattle.numbered_walks.proofs.groups.grouped.Goals as goal

pub loop-number-init : goal.loop-number-init
loop-number-init c = (c.in_ok-groups.ensures.0, c.in_ok-groups.ensures.1 c.args.edges.now c.args.up)

pub loop-number-preserved : goal.loop-number-preserved
loop-number-preserved c = (omega (arith, c.loop-number.invariant.0, c.add_seen.ensures.length), c.in_ok-add_seen.ensures.added c.loop-number.invariant.1)

pub returns : goal.returns
returns c =
    let end : c.loop-number.number ≡ length c.args.edges.now = omega (arith, c.loop-number-test.false, c.loop-number.auto.number-end) in
    (c.loop-number.invariant.0, subst (λ (n : ℕ). AreGrouped c.args.edges.now n c.args.up c.loop-number.groups.items) end c.loop-number.invariant.1)
