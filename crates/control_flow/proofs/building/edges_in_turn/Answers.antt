use Rattle.std.proofs.Common.{◌≡◌, length, inl, inr, ⊎_elim, arith}
use Rattle.std.proofs.lemmas.Result.{err_from_is_err_and}
use Rattle.control_flow.proofs.TurnLemmas.{turn_more}
use Rattle.control_flow.proofs.building.edges_in_turn.Goals as goal
use Rattle.control_flow.proofs.SortedLemmas.{read_in}

pub returns-in_err-push_edges-clause-fault : goal.returns-in_err-push_edges-clause-fault
returns-in_err-push_edges-clause-fault c =
    let p = err_from_is_err_and c.from_residual-in_err-push_edges.result c.from_residual-in_err-push_edges.ensures.1 in
    let has = read_in c.args.places.now c.loop-place.place-index c.place-item.result c.loop-place-test.true c.place-item.is in
    rw (p.1, p.2) (⊎_elim (λ e. inl e) (λ why. inr (c.place-item.result, has, why)) c.in_err-push_edges.ensures.fault)

pub loop-place-preserved : goal.loop-place-preserved
loop-place-preserved c =
    let same : c.loop-place.edges.len ≡ length c.loop-place.edges.items = omega (arith, c.loop-place.edges.ok.0) in
    rw (c.in_ok-push.ensures.items, c.len.ensures, same)
    (turn_more c.args.inputs.now.image.now c.args.inputs.now.statement.now c.args.inputs.now.profile.now c.args.places.now c.loop-place.place-index c.place-item.result c.loop-place.edges.items c.push_edges.new.out.items _ c.loop-place-test.true c.place-item.is c.loop-place.invariant c.in_ok-push_edges.ensures.adds)
