use Rattle.std.proofs.Common.{rules}
use Rattle.std.proofs.lemmas.Fn.{always_returns_same}
use Rattle.control_flow.specs.declared.places.Place.{Place}
use Rattle.loop_bounds.specs.Keys.{by_key}
use Rattle.loop_bounds.proofs.Positions.{position_found}
use Rattle.loop_bounds.proofs.numbering.position_of.Goals as goal

pub returns-clause-number : goal.returns-clause-number
returns-clause-number c =
    rw c.unwrap_or.ensures
    (position_found c.args.apart.now c.args.listed.now c.args.place.now c.binary_search_by.result c.requires.ordered c.requires.known
    (c.binary_search_by.ensures.position (λ (p : Place). by_key c.args.apart.now p c.args.place.now) (always_returns_same _ _ _ (λ a r g called. search rules))))
