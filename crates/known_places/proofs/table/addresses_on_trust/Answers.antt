use Rattle.std.proofs.Common.{ap, arith, below_more, length, subst, sym}
use Rattle.known_places.specs.Table.{StaysAt}
use Rattle.known_places.proofs.table.addresses_on_trust.Goals as goal
use Rattle.known_places.proofs.TableLemmas.{stays_after, stays_before}

pub loop-number-preserved : goal.loop-number-preserved
loop-number-preserved c =
    let h = c.args.handler.now in
    let around = c.args.table.now.around.now in
    let table = c.args.table.now.known.now in
    let put = c.in_ok-put_on_trust.ensures in
    let old = c.loop-number.trusted.items in
    below_more _ _
    (λ k less.
    subst (λ t. StaysAt h.image.now h.statement h.graph h.tree around table t k) (sym put.1)
    (stays_before h.image.now h.graph h.tree around table h.statement old put.0 k (c.loop-number.invariant k less)))
    (subst (λ t. StaysAt h.image.now h.statement h.graph h.tree around table t c.loop-number.number) (sym put.1)
    (stays_after h.image.now h.graph h.tree around table h.statement old put.0 c.loop-number.number put.2))

pub returns : goal.returns
returns c = λ number h. c.loop-number.invariant number (omega (arith, h, c.loop-number-test.false))
