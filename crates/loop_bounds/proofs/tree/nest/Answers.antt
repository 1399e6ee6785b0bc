use Rattle.std.proofs.Common.{List, length, subst, sym}
use Rattle.std.proofs.lemmas.Result.{err_from_is_err_and}
use Rattle.statement.specs.Stated.{StatedLoops}
use Rattle.statement.specs.declared.stated.Loop.{Loop}
use Rattle.loop_bounds.specs.InPositions.{IsNesting, IsNestingFault}
use Rattle.loop_bounds.specs.Instance.{IsInstance}
use Rattle.loop_bounds.specs.Nest.{Applies, HasSharedHeader, IsNestFault}
use Rattle.loop_bounds.proofs.NestLemmas.{allowed, of_nesting}
use Rattle.loop_bounds.proofs.PlaceFacts.{sound}
use Rattle.loop_bounds.proofs.tree.nest.Goals as goal

pub nest_extents-requires : goal.nest_extents-requires
nest_extents-requires c = rw (c.places-places.ensures.value, c.deref-4.ensures.value, c.deref-3.ensures.value) (sound c.args.graph.now c.loops-loops.result.now c.in_ok-positions.positions c.places-places.ensures.well_formed c.in_ok-positions.ensures)

pub returns-in_err-nesting-clause-fault : goal.returns-in_err-nesting-clause-fault
returns-in_err-nesting-clause-fault c =
    let positions = c.in_ok-positions.positions in
    let fault : IsNestingFault (length c.args.graph.now.places) positions.edges.items positions.entry positions.extents.items c.in_err-nesting.field-0.0 = rw (c.places-places.ensures.value, c.deref-4.ensures.value, c.deref-3.ensures.value) at c.in_err-nesting.ensures.fault in
    let p = err_from_is_err_and c.from_residual-in_err-nesting.result c.from_residual-in_err-nesting.ensures.1 in
    rw (p.1, p.2)
    (subst (λ (loops : StatedLoops). IsNestFault c.args.graph.now loops c.in_err-nesting.field-0.0) c.loops-loops.ensures
    (of_nesting c.args.graph.now c.loops-loops.result.now positions c.places-places.ensures.well_formed c.in_ok-positions.ensures (subst (λ (xs : List Loop). HasSharedHeader xs → ⊥) c.list-list.ensures.value (c.in_ok-shares_header.ensures.apart c.if-branch.false)) c.in_err-nesting.field-0.0 fault))

pub returns-clause-instances : goal.returns-clause-instances
returns-clause-instances c = λ i.
    let found = c.in_ok-positions.ensures.found_are i in
    let made = c.in_ok-laid_out.ensures.instances i in (
      (λ has. subst (λ (loops : StatedLoops). IsInstance c.args.graph.now loops i) c.loops-loops.ensures (found.0 (made.0 has))),
      (λ is. made.1 (found.1 (subst (λ (loops : StatedLoops). IsInstance c.args.graph.now loops i) (sym c.loops-loops.ensures) is))),
    )

pub returns-clause-allowed : goal.returns-clause-allowed
returns-clause-allowed c = λ fault other applies.
    let positions = c.in_ok-positions.positions in
    let nesting : IsNesting (length c.args.graph.now.places) positions.edges.items positions.entry positions.extents.items c.in_ok-nesting.nesting = rw (c.places-places.ensures.value, c.deref-4.ensures.value, c.deref-3.ensures.value) at c.in_ok-nesting.ensures.nesting in
    allowed c.args.graph.now c.loops-loops.result.now positions c.places-places.ensures.well_formed c.in_ok-positions.ensures (subst (λ (xs : List Loop). HasSharedHeader xs → ⊥) c.list-list.ensures.value (c.in_ok-shares_header.ensures.apart c.if-branch.false)) c.in_ok-nesting.nesting nesting fault other
    (subst (λ (loops : StatedLoops). Applies c.args.graph.now loops fault) (sym c.loops-loops.ensures) applies)

pub shared_fault-requires-clause-listed : goal.shared_fault-requires-clause-listed
shared_fault-requires-clause-listed c = rw (c.deref.ensures.value, ← c.places-places.ensures.value, ← c.apart.ensures) c.in_ok-listed.ensures

pub shared_fault-requires-clause-stated : goal.shared_fault-requires-clause-stated
shared_fault-requires-clause-stated c = rw (← c.list-list.ensures.value) c.list-list.ensures.within

pub shared_fault-requires-clause-shared : goal.shared_fault-requires-clause-shared
shared_fault-requires-clause-shared c = rw (← c.list-list.ensures.value) (c.in_ok-shares_header.ensures.shared c.if-branch.true)

pub find_positions-requires-clause-listed : goal.find_positions-requires-clause-listed
find_positions-requires-clause-listed c = rw (← c.places-places.ensures.value, ← c.apart.ensures) c.in_ok-listed.ensures

pub find_positions-requires-clause-stated : goal.find_positions-requires-clause-stated
find_positions-requires-clause-stated c = rw (← c.list-list.ensures.value) c.list-list.ensures.within

pub find_positions-requires-clause-moved : goal.find_positions-requires-clause-moved
find_positions-requires-clause-moved c = rw (c.deref-2.ensures.value, ← c.list-list.ensures.value) c.in_ok-sorted.ensures.moved

pub find_positions-requires-clause-ascending : goal.find_positions-requires-clause-ascending
find_positions-requires-clause-ascending c = rw c.deref-2.ensures.value c.in_ok-sorted.ensures.ascending

pub find_positions-requires-clause-apart : goal.find_positions-requires-clause-apart
find_positions-requires-clause-apart c = subst (λ (xs : List Loop). HasSharedHeader xs → ⊥) c.list-list.ensures.value (c.in_ok-shares_header.ensures.apart c.if-branch.false)

pub laid_out-requires-clause-positions : goal.laid_out-requires-clause-positions
laid_out-requires-clause-positions c = c.in_ok-positions.ensures

pub laid_out-requires-clause-nesting : goal.laid_out-requires-clause-nesting
laid_out-requires-clause-nesting c =
    rw (← c.places-places.ensures.value, ← c.deref-4.ensures.value, ← c.deref-3.ensures.value) c.in_ok-nesting.ensures.nesting
