use Rattle.std.proofs.Common.{inr}
use Rattle.loop_bounds.proofs.Positions.{index_found, index_inside}
use Rattle.loop_bounds.proofs.numbering.index_of.Goals as goal

pub returns-clause-number : goal.returns-clause-number
returns-clause-number c = rw c.unwrap_or.ensures (index_found c.args.places.now c.args.place.now c.binary_search.result c.requires.ordered (inr c.requires.known) c.binary_search.ensures.position)

pub returns-clause-inside : goal.returns-clause-inside
returns-clause-inside c = rw c.unwrap_or.ensures (index_inside c.args.places.now c.args.place.now c.binary_search.result c.requires.ordered c.requires.known c.binary_search.ensures.bound c.binary_search.ensures.position)
