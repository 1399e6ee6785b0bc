use Rattle.std.proofs.Common.{ap, arith, below_more, length, subst, sym}
use Rattle.known_places.specs.Around.{BoundFollows}
use Rattle.known_places.proofs.loops.loops_on_trust.Goals as goal
use Rattle.known_places.proofs.AroundLemmas.{bound_after, bound_before}

pub loop-number-preserved : goal.loop-number-preserved
loop-number-preserved c =
    let h = c.args.handler.now in
    let around = c.args.table.now.around.now in
    let known = c.args.table.now.known.now in
    let put = c.in_ok-put_on_trust.ensures in
    let old = c.loop-number.trusted.items in
    below_more _ _
    (λ k less.
    subst (λ t. BoundFollows h.graph h.tree around known t k) (sym put.1)
    (bound_before h.graph h.tree around known old put.0 k (c.loop-number.invariant k less)))
    (subst (λ t. BoundFollows h.graph h.tree around known t c.loop-number.number) (sym put.1)
    (bound_after h.graph h.tree around known old put.0 c.loop-number.number put.2))

pub returns : goal.returns
returns c = λ number h. c.loop-number.invariant number (omega (arith, h, c.loop-number-test.false, ap length c.spans-number-end.ensures))
