use Rattle.text_refusals.proofs.SearchLemmas.{index_in, index_number}
use Rattle.text_refusals.proofs.search.index_of.Goals as goal

pub returns-clause-number : goal.returns-clause-number
returns-clause-number c = index_number c.args.graph.now c.places-places.ensures.well_formed c.places-places.result.now c.places-places.ensures.value c.args.place.now c.binary_search.result c.unwrap_or.result c.unwrap_or.ensures c.requires c.binary_search.ensures.position

pub returns-clause-inside : goal.returns-clause-inside
returns-clause-inside c = λ has. index_in c.args.graph.now c.places-places.ensures.well_formed c.places-places.result.now c.places-places.ensures.value c.args.place.now c.binary_search.result c.unwrap_or.result c.unwrap_or.ensures has c.binary_search.ensures.bound c.binary_search.ensures.position
