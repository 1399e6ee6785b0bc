use Rattle.std.proofs.Common.{[], ◌<◌, ◌∙◌, ◌++◌, List, length, inl, inr, ⊎_elim, refl, sym, ap, subst, arith}
use Rattle.std.proofs.lemmas.Result.{err_from_is_err_and}
use Rattle.control_flow.specs.Edges.{AreEdgesOf}
use Rattle.control_flow.specs.Faulty.{IsWalked}
use Rattle.control_flow.specs.Search.{Grows}
use Rattle.control_flow.specs.declared.edges.Edge.{Edge}
use Rattle.control_flow.specs.declared.faults.BuildFault.TheVariants.{TooManyPlaces}
use Rattle.control_flow.proofs.BuildLemmas.{add_fault, search_fault, search_more, visit_fault, visited}
use Rattle.control_flow.proofs.FaultyLemmas.{all_sound, found_by, reached_next, walked_more}
use Rattle.control_flow.proofs.faulty.faulty_place.Goals as goal

pub returns-in_err-add-clause-fault : goal.returns-in_err-add-clause-fault
returns-in_err-add-clause-fault c =
    let p = err_from_is_err_and c.from_residual.result c.from_residual.ensures.1 in
    rw (p.1, p.2)
    (⊎_elim
    (λ e. inl e)
    (λ e. inr (e.0, add_fault c.args.image.now c.args.statement.now c.args.profile.now c.new-order.result.items c.start_of.result TooManyPlaces c.new-order.ensures.items c.start_of.ensures.value (inr (refl, e.1))))
    c.in_err-add.ensures.fault)

pub returns-in_err-add_ends-clause-fault : goal.returns-in_err-add_ends-clause-fault
returns-in_err-add_ends-clause-fault c =
    let lt : c.loop-next.next < length c.loop-next.order.items = omega (arith, c.loop-next.order.ok.0, c.len.ensures) in
    let p = err_from_is_err_and c.from_residual-in_err-add_ends.result c.from_residual-in_err-add_ends.ensures.1 in
    rw (p.1, p.2)
    (⊎_elim
    (λ e. inl e)
    (λ e.
    let why = visit_fault c.args.image.now c.args.statement.now c.args.profile.now c.loop-next.order.items [] c.in-Ok.edges.items c.deref-in-loop-next.result.now c.index.result.now TooManyPlaces refl c.deref-in-loop-next.ensures.value c.in-Ok.ensures.adds (inr (refl, e.1)) in
    inr (e.0, search_fault c.args.image.now c.args.statement.now c.args.profile.now c.loop-next.order.items c.loop-next.next c.index.result.now TooManyPlaces c.loop-next.invariant.search lt c.index.ensures why))
    c.in_err-add_ends.ensures.fault)

pub returns-in-Err-clause-found : goal.returns-in-Err-clause-found
returns-in-Err-clause-found c =
    let lt : c.loop-next.next < length c.loop-next.order.items = omega (arith, c.loop-next.order.ok.0, c.len.ensures) in
    let walked = subst (IsWalked c.args.image.now c.args.statement.now c.args.profile.now c.loop-next.order.items) (sym c.deref.ensures.value) c.loop-next.invariant.walked in
    record {
      reached = reached_next c.args.image.now c.args.statement.now c.args.profile.now c.loop-next.order.items c.loop-next.next c.index.result.now c.loop-next.invariant.search lt c.index.ensures;
      by = found_by c.args.image.now c.args.statement.now c.args.profile.now c.loop-next.order.items c.deref.result.now c.index.result.now c.edge_to-edge.result walked (c.loop-next.next, lt, sym c.index.ensures) c.edge_to-edge.ensures.edge c.edge_to-edge.ensures.none;
      faulty = ⊎_elim (λ e. absurd (c.if-is_memory.ensures e)) (λ why. why) c.in-Err.ensures.fault;
    }

pub loop-next-preserved : goal.loop-next-preserved
loop-next-preserved c =
    let lt : c.loop-next.next < length c.loop-next.order.items = omega (arith, c.loop-next.order.ok.0, c.len.ensures) in
    let order = c.loop-next.order.items in
    let new = c.add_ends.new.order.items in
    let edges = c.in-Ok.edges.items in
    let r = reached_next c.args.image.now c.args.statement.now c.args.profile.now order c.loop-next.next c.index.result.now c.loop-next.invariant.search lt c.index.ensures in
    let are = subst (AreEdgesOf c.args.image.now c.args.statement.now c.args.profile.now c.index.result.now) (sym c.in-Ok.ensures.adds.is) c.in-Ok.ensures.adds.are in
    let grows = subst (λ es. Grows order es new) c.deref-in-loop-next.ensures.value c.in_ok-add_ends.ensures.grows in
    let visits = visited c.args.image.now c.args.statement.now c.args.profile.now order new [] edges c.deref-in-loop-next.result.now c.index.result.now refl c.deref-in-loop-next.ensures.value c.in-Ok.ensures.adds c.in-Ok.ensures.sound c.in_ok-add_ends.ensures.grows in
    record {
      found = c.in_ok-add_ends.ensures.found;
      search = search_more c.args.image.now c.args.statement.now c.args.profile.now order new c.loop-next.next c.index.result.now c.loop-next.invariant.search lt c.index.ensures visits;
      walked = subst
          (IsWalked c.args.image.now c.args.statement.now c.args.profile.now new)
          (sym (c.in_ok-extend_from_slice.ensures.items ∙ ap (λ (es : List Edge). c.loop-next.walked.items ++ es) c.deref-in-loop-next-2.ensures.value))
          (walked_more c.args.image.now c.args.statement.now c.args.profile.now order new c.loop-next.walked.items edges c.index.result.now c.loop-next.invariant.walked r are grows);
    }

pub returns-clause-none : goal.returns-clause-none
returns-clause-none c = all_sound c.args.image.now c.args.statement.now c.args.profile.now c.loop-next.seen c.loop-next.order.items c.loop-next.next c.loop-next.invariant.found c.loop-next.invariant.search (omega (arith, c.loop-next.order.ok.0, c.len.ensures))
