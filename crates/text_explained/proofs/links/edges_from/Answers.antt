use Rattle.control_flow.specs.Flow.{IsEdgeRange}
use Rattle.control_flow.specs.declared.places.Place.{Place}
use Rattle.std.proofs.Common.{subst}
use Rattle.text_explained.proofs.LinkLaws.{index_is, leaving_found, none_leave}
use Rattle.text_explained.proofs.links.edges_from.Goals as goal

pub returns-in-Ok : goal.returns-in-Ok
returns-in-Ok c =
    let flow = c.args.graph.now in
    let well = c.places.ensures.well_formed in
    let here = index_is flow well c.places.result.now c.args.place.now c.in-Ok.at c.places.ensures.value c.in-Ok.ensures.position in
    leaving_found flow well c.edges.result.now c.edge_range-first.result.0 c.edge_range-first.result.1 c.args.place.now c.edges.ensures.value
    (subst (λ (p : Place). IsEdgeRange flow p c.edge_range-first.result.0 c.edge_range-first.result.1) here c.edge_range-first.ensures.range)

pub returns-in-Err : goal.returns-in-Err
returns-in-Err c =
    none_leave c.args.graph.now c.places.ensures.well_formed c.places.result.now c.args.place.now c.in-Err.field-0 c.places.ensures.value c.in-Err.ensures.bound
    c.in-Err.ensures.position
