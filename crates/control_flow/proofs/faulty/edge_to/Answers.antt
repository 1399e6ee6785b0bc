use Rattle.std.proofs.Common.{◌≡◌, ℕ, ◌<◌, length, get_or, ap, ◌∙◌, arith}
use Rattle.std.proofs.lemmas.List.{get_or_read}
use Rattle.control_flow.specs.declared.edges.Edge.{Edge}
use Rattle.control_flow.proofs.GrowLemmas.{has_item}
use Rattle.control_flow.proofs.PlaceLemmas.{equal_places, unequal_places}
use Rattle.control_flow.proofs.faulty.edge_to.Goals as goal
use borrow.Author.Count.{below_more}

pub loop-edge-preserved : goal.loop-edge-preserved
loop-edge-preserved c = λ k d lt.
    below_more
    (λ (j : ℕ). (x : Edge) → (get_or c.args.edges.now j x).to ≡ c.args.place.now → ⊥)
    c.loop-edge.edge-index
    (λ j l x. c.loop-edge.invariant j x l)
    (λ x e. unequal_places c.edge-item.result.to c.args.place.now c.if-eq.ensures (ap (λ (y : Edge). y.to) (get_or_read c.args.edges.now c.loop-edge.edge-index c.edge-item.result c.loop-edge-test.true c.edge-item.is x) ∙ e))
    k lt d

pub returns-then-eq-clause-edge : goal.returns-then-eq-clause-edge
returns-then-eq-clause-edge c =
    (has_item c.args.edges.now c.loop-edge.edge-index c.edge-item.result c.loop-edge-test.true c.edge-item.is, equal_places c.edge-item.result.to c.args.place.now c.if-eq.ensures)

pub returns-clause-none : goal.returns-clause-none
returns-clause-none c = λ one.
    let lt : (one.1).0 < length c.args.edges.now = (one.1).1 in
    c.loop-edge.invariant (one.1).0 one.0 (omega arith) (ap (λ (y : Edge). y.to) (one.1).2 ∙ one.2)
