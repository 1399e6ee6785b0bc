use Rattle.std.proofs.Common.{List, Ok, Err, length, subst}
use Rattle.std.specs.List.Sorted.{IsBinarySearchResult, IsSearchInRange}
use Rattle.control_flow.specs.declared.places.Place.{Place}
use Rattle.control_flow.specs.Search.{by_order}
use Rattle.walk_counts.proofs.NumberLemmas.{place_found, place_missed}
use Rattle.walk_counts.proofs.numbers.edge_number.Goals as goal

pub number_at-requires-clause-leaves : goal.number_at-requires-clause-leaves
number_at-requires-clause-leaves c =
    let p = c.args.edge.now.from in
    place_found c.args.graph.now c.places.ensures.well_formed c.in-Ok.place p
    (subst (λ (ps : List Place). IsBinarySearchResult (λ q. by_order q p) ps (Ok c.in-Ok.place)) c.places.ensures.value c.in-Ok.ensures.position)

pub returns-in-Err : goal.returns-in-Err
returns-in-Err c =
    let p = c.args.edge.now.from in
    place_missed c.args.graph.now c.places.ensures.well_formed c.in-Err.field-0 c.args.edge.now
    (subst (λ (ps : List Place). IsSearchInRange (Err c.in-Err.field-0) (length ps)) c.places.ensures.value c.in-Err.ensures.bound)
    (subst (λ (ps : List Place). IsBinarySearchResult (λ q. by_order q p) ps (Err c.in-Err.field-0)) c.places.ensures.value c.in-Err.ensures.position)
