use Rattle.std.proofs.Common.{◌<◌, length, inl, arith}
use Rattle.std.proofs.lemmas.Result.{err_from_is_err_and}
use Rattle.control_flow.proofs.BuildLemmas.{add_fault, search_fault, search_more, search_all, search_allowed, visit_fault, visited}
use Rattle.control_flow.proofs.building.explore.Goals as goal

pub returns-in_err-add-clause-fault : goal.returns-in_err-add-clause-fault
returns-in_err-add-clause-fault c =
    let p = err_from_is_err_and c.from_residual.result c.from_residual.ensures.1 in
    rw (p.1, p.2) (add_fault c.args.inputs.now.image.now c.args.inputs.now.statement.now c.args.inputs.now.profile.now c.new-order.result.items c.start_of.result _ c.new-order.ensures.items c.start_of.ensures.value c.in_err-add.ensures.fault)

pub returns-in_err-push_edges-clause-fault : goal.returns-in_err-push_edges-clause-fault
returns-in_err-push_edges-clause-fault c =
    let lt : c.loop-next.next < length c.loop-next.order.items = omega (arith, c.loop-next.order.ok.0, c.len.ensures) in
    let p = err_from_is_err_and c.from_residual-in_err-push_edges.result c.from_residual-in_err-push_edges.ensures.1 in
    rw (p.1, p.2)
    (search_fault c.args.inputs.now.image.now c.args.inputs.now.statement.now c.args.inputs.now.profile.now c.loop-next.order.items c.loop-next.next c.index.result.now _ c.loop-next.invariant.1 lt c.index.ensures (inl c.in_err-push_edges.ensures.fault))

pub returns-in_err-add_ends-clause-fault : goal.returns-in_err-add_ends-clause-fault
returns-in_err-add_ends-clause-fault c =
    let lt : c.loop-next.next < length c.loop-next.order.items = omega (arith, c.loop-next.order.ok.0, c.len.ensures) in
    let p = err_from_is_err_and c.from_residual-in_err-add_ends.result c.from_residual-in_err-add_ends.ensures.1 in
    let why = visit_fault c.args.inputs.now.image.now c.args.inputs.now.statement.now c.args.inputs.now.profile.now c.loop-next.order.items c.clear.new.self.items c.push_edges.new.out.items c.deref.result.now c.index.result.now _ c.clear.ensures.items c.deref.ensures.value c.in_ok-push_edges.ensures.adds c.in_err-add_ends.ensures.fault in
    rw (p.1, p.2)
    (search_fault c.args.inputs.now.image.now c.args.inputs.now.statement.now c.args.inputs.now.profile.now c.loop-next.order.items c.loop-next.next c.index.result.now _ c.loop-next.invariant.1 lt c.index.ensures why)

pub loop-next-preserved : goal.loop-next-preserved
loop-next-preserved c =
    let lt : c.loop-next.next < length c.loop-next.order.items = omega (arith, c.loop-next.order.ok.0, c.len.ensures) in
    let new = c.add_ends.new.order.items in
    let visits = visited c.args.inputs.now.image.now c.args.inputs.now.statement.now c.args.inputs.now.profile.now c.loop-next.order.items new c.clear.new.self.items c.push_edges.new.out.items c.deref.result.now c.index.result.now c.clear.ensures.items c.deref.ensures.value c.in_ok-push_edges.ensures.adds c.in_ok-push_edges.ensures.sound c.in_ok-add_ends.ensures.grows in (
      c.in_ok-add_ends.ensures.found,
      search_more c.args.inputs.now.image.now c.args.inputs.now.statement.now c.args.inputs.now.profile.now c.loop-next.order.items new c.loop-next.next c.index.result.now c.loop-next.invariant.1 lt c.index.ensures visits,
    )

pub returns-clause-places : goal.returns-clause-places
returns-clause-places c = search_all c.args.inputs.now.image.now c.args.inputs.now.statement.now c.args.inputs.now.profile.now c.loop-next.seen c.loop-next.order.items c.loop-next.next c.loop-next.invariant.0 c.loop-next.invariant.1 (omega (arith, c.loop-next.order.ok.0, c.len.ensures))

pub returns-clause-allowed : goal.returns-clause-allowed
returns-clause-allowed c = search_allowed c.args.inputs.now.image.now c.args.inputs.now.statement.now c.args.inputs.now.profile.now c.loop-next.seen c.loop-next.order.items c.loop-next.next c.loop-next.invariant.0 c.loop-next.invariant.1 (omega (arith, c.loop-next.order.ok.0, c.len.ensures))
