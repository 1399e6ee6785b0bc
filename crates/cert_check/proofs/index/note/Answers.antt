use Rattle.std.proofs.Common.{◌≡◌, ℕ, ◌+◌, refl, subst, arith}
use Rattle.numbered_walks.specs.Index.{AreHeldTo}
use Rattle.numbered_walks.proofs.Holding.{hold_none, hold_all}
use Rattle.cert_check.proofs.index.note.Goals as goal

pub loop-number-init : goal.loop-number-init
loop-number-init c = (refl, λ seen all. hold_none seen c.args.span.now c.args.held.now.items all)

pub loop-number-preserved : goal.loop-number-preserved
loop-number-preserved c = (omega (arith, c.loop-number.invariant.0, c.note_at.ensures.length), λ seen all. c.in_ok-note_at.ensures.noted seen c.loop-number.auto.number (c.loop-number.invariant.1 seen all))

pub returns-clause-noted : goal.returns-clause-noted
returns-clause-noted c = λ seen all.
    let end : c.loop-number.number ≡ c.args.span.now.last + 1 = omega (arith, c.loop-number-test.false, c.loop-number.auto.number-end (omega arith)) in
    hold_all seen c.args.span.now c.loop-number.held.items (subst (λ (n : ℕ). AreHeldTo seen c.args.span.now n c.loop-number.held.items) end (c.loop-number.invariant.1 seen all))
