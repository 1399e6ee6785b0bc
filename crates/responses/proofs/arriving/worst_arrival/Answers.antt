use Rattle.std.proofs.Common.{◌≡◌, ◌∙◌, ℕ, List, length, sym, ap, subst}
use Rattle.std.proofs.lemmas.Bool.{both_ways}
use Rattle.control_flow.specs.declared.places.Place.{Place}
use Rattle.numbered_walks.specs.declared.span.NumberedEdge.{NumberedEdge}
use Rattle.numbered_walks.specs.declared.span.Span.{Span}
use Rattle.numbered_walks.specs.Ordered.{IsOrdered}
use Rattle.responses.specs.declared.ways.Way.{Way}
use Rattle.responses.specs.Arriving.{cut_edges}
use Rattle.responses.proofs.ArrivalLemmas.{arrival_found, arrival_refused, cut_ordered, leads_out}
use Rattle.responses.proofs.ArrivalLemmas.{none_leaves, searched}
use Rattle.responses.proofs.arriving.worst_arrival.Goals as goal

pub returns-then-not-is_exit_reached-clause-fault : goal.returns-then-not-is_exit_reached-clause-fault
returns-then-not-is_exit_reached-clause-fault c =
    let flow = c.args.handler.now.graph in
    let tree = c.args.handler.now.tree in
    let exit_is : length c.places-exit.result.now ≡ length flow.places =
    ap (λ (ps : List Place). length ps) c.places-exit.ensures.value in
    none_leaves flow tree c.places-exit.ensures.well_formed c.requires.tree_is
    (λ out. both_ways c.is_exit_reached.result c.if-not-is_exit_reached.true
    (c.is_exit_reached.ensures.1 (leads_out tree.edges c.edges.result.now (length flow.places)
    (length c.places-exit.result.now) (sym c.edges.ensures) (sym exit_is) out)))

pub greatest_along-requires-clause-ordered : goal.greatest_along-requires-clause-ordered
greatest_along-requires-clause-ordered c =
    let h = c.args.handler.now in
    let exit = length h.graph.places in
    let ways = c.in_ok-ways.ways.items in
    let cut = cut_edges exit ways h.tree.edges in
    let exit_is : length c.places-exit.result.now ≡ exit =
    ap (λ (ps : List Place). length ps) c.places-exit.ensures.value in
    let edges_are : c.in_ok-edges.edges.items ≡ cut = c.in_ok-edges.ensures
    ∙ (λ j. cut_edges (exit_is j) (c.deref.ensures.value j) (c.edges-2.ensures j)) in
    let cut_is : c.deref-2.result.now ≡ cut = c.deref-2.ensures.value ∙ edges_are in
    let number : length c.deref-3.result.now ≡ exit = ap (λ (v : List Way). length v) c.deref-3.ensures.value
    ∙ c.in_ok-ways.ensures.whole in
    let in_order : IsOrdered exit cut h.tree.spans =
    cut_ordered h.graph h.statement.loops h.tree c.requires c.places-exit.ensures.well_formed
    c.args.address ways c.in_ok-ways.ensures in
    subst (λ (n : ℕ). IsOrdered n c.deref-2.result.now c.spans.result.now) (sym number)
    (subst (λ (es : List NumberedEdge). IsOrdered exit es c.spans.result.now) (sym cut_is)
    (subst (λ (ss : List Span). IsOrdered exit cut ss) (sym c.spans.ensures) in_order))

pub returns-clause-arrival : goal.returns-clause-arrival
returns-clause-arrival c =
    let h = c.args.handler.now in
    let exit = length h.graph.places in
    let ways = c.in_ok-ways.ways.items in
    let cut = cut_edges exit ways h.tree.edges in
    let exit_is : length c.places-exit.result.now ≡ exit =
    ap (λ (ps : List Place). length ps) c.places-exit.ensures.value in
    let edges_are : c.in_ok-edges.edges.items ≡ cut = c.in_ok-edges.ensures
    ∙ (λ j. cut_edges (exit_is j) (c.deref.ensures.value j) (c.edges-2.ensures j)) in
    arrival_found h.graph h.statement.loops h.tree c.requires c.places-exit.ensures.well_formed c.args.address
    ways c.in_ok-ways.ensures c.greatest_along.result
    (searched c.deref-2.result.now cut c.spans.result.now h.tree.spans c.deref-3.result.now ways
    c.greatest_along.result (c.deref-2.ensures.value ∙ edges_are) c.spans.ensures c.deref-3.ensures.value
    c.greatest_along.ensures)

pub returns-clause-fault : goal.returns-clause-fault
returns-clause-fault c =
    let h = c.args.handler.now in
    let exit = length h.graph.places in
    let ways = c.in_ok-ways.ways.items in
    let cut = cut_edges exit ways h.tree.edges in
    let exit_is : length c.places-exit.result.now ≡ exit =
    ap (λ (ps : List Place). length ps) c.places-exit.ensures.value in
    let edges_are : c.in_ok-edges.edges.items ≡ cut = c.in_ok-edges.ensures
    ∙ (λ j. cut_edges (exit_is j) (c.deref.ensures.value j) (c.edges-2.ensures j)) in
    arrival_refused h.graph h.statement.loops h.tree c.requires c.places-exit.ensures.well_formed
    c.args.address ways c.in_ok-ways.ensures
    (leads_out c.edges.result.now h.tree.edges (length c.places-exit.result.now) exit c.edges.ensures exit_is
    (c.is_exit_reached.ensures.0 c.if-not-is_exit_reached.false)) c.greatest_along.result
    (searched c.deref-2.result.now cut c.spans.result.now h.tree.spans c.deref-3.result.now ways
    c.greatest_along.result (c.deref-2.ensures.value ∙ edges_are) c.spans.ensures c.deref-3.ensures.value
    c.greatest_along.ensures)
