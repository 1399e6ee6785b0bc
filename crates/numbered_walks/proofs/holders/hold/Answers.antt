use Rattle.std.proofs.Common.{◌≡◌, ℕ, ◌+◌, refl, subst, arith}
use Rattle.numbered_walks.specs.Index.{AreHeldTo}
use Rattle.numbered_walks.proofs.Holding.{hold_none, hold_all}
use Rattle.numbered_walks.proofs.holders.hold.Goals as goal

pub loop-number-init : goal.loop-number-init
loop-number-init c = (refl, λ seen all. hold_none seen c.args.span c.args.held.now.items all)

pub loop-number-preserved : goal.loop-number-preserved
loop-number-preserved c = (omega (arith, c.loop-number.invariant.0, c.hold_at.ensures.length), λ seen all. c.in_ok-hold_at.ensures.added seen c.loop-number.auto.number (c.loop-number.invariant.1 seen all))

pub returns-clause-added : goal.returns-clause-added
returns-clause-added c = λ seen all.
    let end : c.loop-number.number ≡ c.args.span.last + 1 = omega (arith, c.loop-number-test.false, c.loop-number.auto.number-end (omega arith)) in
    hold_all seen c.args.span c.loop-number.held.items (subst (λ (n : ℕ). AreHeldTo seen c.args.span n c.loop-number.held.items) end (c.loop-number.invariant.1 seen all))
