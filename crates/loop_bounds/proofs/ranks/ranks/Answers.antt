use Rattle.std.proofs.Common.{◌≡◌, ◌<◌, ◌≤◌, ◌+◌, length, subst, List, All, sym, refl}
use Rattle.std.proofs.lemmas.Result.{err_from_is_err_and}
use Rattle.numbered_walks.specs.declared.span.NumberedEdge.{NumberedEdge}
use Rattle.loop_bounds.specs.Order.{IsOrder, IsOrderFault}
use Rattle.loop_bounds.specs.Layout.{AreHeights}
use Rattle.loop_bounds.proofs.PlainLemmas.{are_ranks, rank_fault, plain_in}
use Rattle.loop_bounds.proofs.ranks.ranks.Goals as goal

pub firsts_of-requires-clause-inside : goal.firsts_of-requires-clause-inside
firsts_of-requires-clause-inside c =
    subst (λ (xs : List NumberedEdge). All (λ (e : NumberedEdge). (e.from < c.args.exit) × (e.to ≤ c.args.exit)) xs) (sym c.deref.ensures.value)
    (plain_in c.args.extents.now c.args.edges.now c.in_ok-plain.plain.items c.args.exit c.in_ok-plain.ensures.plain c.requires.inside)

pub returns-in_err-order-clause-fault : goal.returns-in_err-order-clause-fault
returns-in_err-order-clause-fault c =
    let fault = subst (λ (xs : List NumberedEdge). IsOrderFault xs c.in_err-order.field-0.0) c.deref-3.ensures.value c.in_err-order.ensures.fault in
    let p = err_from_is_err_and c.from_residual-in_err-order.result c.from_residual-in_err-order.ensures.1 in
    rw (p.1, p.2) (rank_fault c.args.extents.now c.args.edges.now c.in_ok-plain.plain.items c.in_ok-plain.ensures.plain c.in_err-order.field-0.0 fault)

pub returns-clause-ranks : goal.returns-clause-ranks
returns-clause-ranks c =
    let firsts : c.deref-2.result.now ≡ c.in_ok-firsts.firsts.items = c.deref-2.ensures.value in
    let plain : c.deref-3.result.now ≡ c.in_ok-plain.plain.items = c.deref-3.ensures.value in
    let nodes : length c.deref-2.result.now ≡ c.args.exit + 1 = rw firsts c.in_ok-firsts.ensures.nodes in
    let ordered : IsOrder (c.args.exit + 1) c.in_ok-plain.plain.items c.in_ok-order.order.items = rw (nodes, plain) at c.in_ok-order.ensures.order in
    let high : AreHeights c.in_ok-order.order.items c.in_ok-heights.field-0.items (c.args.exit + 1) (length c.in_ok-order.order.items) = rw c.deref-4.ensures.value at c.in_ok-heights.ensures in
    are_ranks c.args.extents.now c.args.edges.now c.in_ok-plain.plain.items c.in_ok-order.order.items c.in_ok-heights.field-0.items c.args.exit (c.args.exit + 1) refl c.in_ok-plain.ensures.plain c.requires.inside ordered high
