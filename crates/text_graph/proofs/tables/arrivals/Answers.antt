use Rattle.std.proofs.Common.{◌∙◌, ◌+◌, ◌<◌, List, ap, arith, eqb, length, refl, sym, take}
use Rattle.std.specs.Prelude.{count_by}
use Rattle.std.proofs.Math.ListN.{length-set}
use Rattle.std.proofs.lemmas.List.{get_or_default, take_all}
use Rattle.numbered_walks.specs.Index.{edge_at}
use Rattle.numbered_walks.specs.declared.span.NumberedEdge.{NumberedEdge}
use Rattle.text_graph.proofs.ArrivalLaws.{leads_inside, tally_more, tally_small}
use Rattle.text_graph.proofs.tables.arrivals.Goals as goal

pub index_mut-requires : goal.index_mut-requires
index_mut-requires c = omega (arith, leads_inside c.args.graph.now c.args.tree.now c.requires c.edges-edge-items.result.now c.loop-edge.edge-index c.edges-edge-items.ensures c.loop-edge-test.true, c.loop-edge.invariant.whole)

pub overflow_add-index_mut : goal.overflow_add-index_mut
overflow_add-index_mut c =
    let edges = c.edges-edge-items.result.now in
    let i = c.loop-edge.edge-index in
    let to = (edge_at edges i).to in
    let le = leads_inside c.args.graph.now c.args.tree.now c.requires edges i c.edges-edge-items.ensures c.loop-edge-test.true in
    let small : c.index_mut.result.now < length edges =
    tally_small (λ (e : NumberedEdge). e.to) edges i (edge_at edges i) c.loop-edge-test.true to c.index_mut.result.now
    (c.index_mut.ensures.value ∙ get_or_default c.loop-edge.counted.items to c.index_mut.result.now 0 (omega (arith, le, c.loop-edge.invariant.whole)) ∙ c.loop-edge.invariant.each to le ∙ ap (λ (es : List NumberedEdge). count_by (λ e. eqb e.to to) (take i es)) (sym c.edges-edge-items.ensures)) in
    omega (arith, small, c.edges-edge-items.type_inv.0)

pub loop-edge-preserved : goal.loop-edge-preserved
loop-edge-preserved c =
    let edges = c.edges-edge-items.result.now in
    let i = c.loop-edge.edge-index in
    let old = c.loop-edge.counted.items in
    let to = (edge_at edges i).to in
    let le = leads_inside c.args.graph.now c.args.tree.now c.requires edges i c.edges-edge-items.ensures c.loop-edge-test.true in
    let new = c.index_mut.result.now + 1 in
    record {
      whole = length-set old to new ∙ c.loop-edge.invariant.whole;
      each = λ n few.
          tally_more (λ (e : NumberedEdge). e.to) edges i (record { from = 0; to = 0; cost = 0 }) c.loop-edge-test.true (length c.args.graph.now.places + 1) to new old c.loop-edge.invariant.whole (omega (arith, le)) refl
          (ap (λ k. k + 1) (c.index_mut.ensures.value ∙ get_or_default old to c.index_mut.result.now 0 (omega (arith, le, c.loop-edge.invariant.whole))))
          (λ m lt. c.loop-edge.invariant.each m (omega (arith, lt)) ∙ ap (λ (es : List NumberedEdge). count_by (λ e. eqb e.to m) (take i es)) (sym c.edges-edge-items.ensures)) n (omega (arith, few))
          ∙ ap (λ (es : List NumberedEdge). count_by (λ e. eqb e.to n) (take (i + 1) es)) c.edges-edge-items.ensures;
    }

pub returns : goal.returns
returns c = (
  c.loop-edge.invariant.whole,
  λ n few.
      c.loop-edge.invariant.each n few
      ∙ ap (λ (es : List NumberedEdge). count_by (λ e. eqb e.to n) es)
      (ap (λ (es : List NumberedEdge). take c.loop-edge.edge-index es) (sym c.edges-edge-items.ensures) ∙ take_all c.loop-edge.edge-index c.edges-edge-items.result.now c.loop-edge-test.false ∙ c.edges-edge-items.ensures),
)
