use Rattle.std.proofs.Common.{inl, inr, ⊎_elim}
use Rattle.std.proofs.lemmas.Result.{err_from_is_err_and}
use Rattle.control_flow.proofs.GrowLemmas.{crowded_by, grows_more, take_item, has_item}
use Rattle.control_flow.proofs.search.add_ends.Goals as goal

pub returns-in_err-add-clause-fault : goal.returns-in_err-add-clause-fault
returns-in_err-add-clause-fault c =
    let p = err_from_is_err_and c.from_residual.result c.from_residual.ensures.1 in
    let has = has_item c.args.edges.now c.loop-edge.edge-index c.edge-item.result c.loop-edge-test.true c.edge-item.is in
    rw (p.1, p.2)
    (⊎_elim (λ e. inl e) (λ e. inr (e.0, crowded_by c.loop-edge.seen c.args.order.now.items c.loop-edge.order.items c.args.edges.now c.loop-edge.edge-index c.edge-item.result c.loop-edge.invariant.0 c.loop-edge.invariant.1 has e.1)) c.in_err-add.ensures.fault)

pub loop-edge-preserved : goal.loop-edge-preserved
loop-edge-preserved c = (
  c.in_ok-add.ensures.found,
  rw (take_item c.args.edges.now c.loop-edge.edge-index c.edge-item.result c.loop-edge-test.true c.edge-item.is)
      (grows_more c.args.order.now.items c.loop-edge.order.items c.add.new.order.items _ c.edge-item.result c.loop-edge.invariant.1 c.in_ok-add.ensures.adds),
)
