use Rattle.loop_bounds.proofs.Positions.{place_known}
use Rattle.loop_bounds.proofs.numbering.has_place.Goals as goal

pub returns : goal.returns
returns c =
    place_known c.args.graph.now c.places.result.now c.args.place.now c.binary_search.result c.is_ok.result c.places.ensures.well_formed c.places.ensures.value
    c.binary_search.ensures.bound c.binary_search.ensures.position c.is_ok.ensures.value
