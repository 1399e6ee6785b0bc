use Rattle.std.proofs.Common.{◌≡◌, ◌<◌, ℕ, List, length, get_or, sym, ap, subst, inl, inr, ⊎_elim, arith}
use Rattle.std.specs.Prelude.{Contains}
use Rattle.control_flow.specs.declared.edges.Edge.{Edge}
use Rattle.control_flow.specs.declared.places.Place.TheVariants.{Exit}
use Rattle.control_flow.specs.Places.{place_at}
use Rattle.loop_bounds.specs.Tree.{NumbersEdge}
use Rattle.loop_bounds.specs.TreeParts.{AreNumberedUpto}
use Rattle.loop_bounds.proofs.Numbers.{numbering_more}
use Rattle.loop_bounds.proofs.Positions.{listed_has, listed_from, listed_length}
use Rattle.loop_bounds.proofs.numbering.number_edges.Goals as goal

pub loop-edge-init : goal.loop-edge-init
loop-edge-init c = record {
  numbered = record { same = ap length c.in_ok-numbered.ensures.items; each = λ k e n lt. absurd (omega arith) };
  near = omega arith;
}

pub number_edge-next-requires-clause-no_exit : goal.number_edge-next-requires-clause-no_exit
number_edge-next-requires-clause-no_exit c = λ has. c.edges-edge-items.ensures.well_formed.no_exit (listed_from c.args.graph.now.places c.args.listed.now c.requires.moved Exit has)

pub number_edge-next-requires-clause-starts : goal.number_edge-next-requires-clause-starts
number_edge-next-requires-clause-starts c =
    listed_has c.args.graph.now.places c.args.listed.now c.requires.moved c.edge-item.result.from
    (c.edges-edge-items.ensures.well_formed.starts c.edge-item.result (subst (λ xs. Contains xs c.edge-item.result) c.edges-edge-items.ensures.value (c.loop-edge.edge-index, c.loop-edge-test.true, sym c.edge-item.is)))

pub number_edge-next-requires-clause-ends : goal.number_edge-next-requires-clause-ends
number_edge-next-requires-clause-ends c =
    ⊎_elim (λ out. inl out) (λ has. inr (listed_has c.args.graph.now.places c.args.listed.now c.requires.moved c.edge-item.result.to has))
    (c.edges-edge-items.ensures.well_formed.ends c.edge-item.result (subst (λ xs. Contains xs c.edge-item.result) c.edges-edge-items.ensures.value (c.loop-edge.edge-index, c.loop-edge-test.true, sym c.edge-item.is)))

pub loop-edge-preserved : goal.loop-edge-preserved
loop-edge-preserved c =
    let edges = c.args.graph.now.edges in
    let same : c.edges-edge-items.result.now ≡ edges = c.edges-edge-items.ensures.value in
    let lt : c.loop-edge.edge-index < length edges = subst (λ (xs : List Edge). c.loop-edge.edge-index < length xs) same c.loop-edge-test.true in
    let is = subst (λ (xs : List Edge). c.edge-item.result ≡ get_or xs c.loop-edge.edge-index c.edge-item.result) same c.edge-item.is in
    let here = subst (λ (n : ℕ). NumbersEdge (place_at c.args.listed.now) n c.edge-item.result c.number_edge-next.result) (listed_length c.args.graph.now.places c.args.listed.now c.requires.moved) c.number_edge-next.ensures.edge in
    record {
      numbered = rw c.in_ok-push.ensures.items
          (numbering_more c.args.graph.now (place_at c.args.listed.now) (length c.args.graph.now.places) c.loop-edge.numbered.items c.loop-edge.edge-index c.edge-item.result c.number_edge-next.result c.loop-edge.invariant.numbered lt is here);
      near = c.number_edge-next.ensures.from;
    }

pub returns : goal.returns
returns c =
    let edges = c.args.graph.now.edges in
    let same : length c.edges-edge-items.result.now ≡ length edges = ap length c.edges-edge-items.ensures.value in
    let ended : c.loop-edge.edge-index ≡ length edges = omega arith in
    let all = subst (AreNumberedUpto c.args.graph.now (place_at c.args.listed.now) (length c.args.graph.now.places) c.loop-edge.numbered.items) ended c.loop-edge.invariant.numbered in
    record { same = all.same; each = all.each }
