use Rattle.std.proofs.Common.{◌∙◌, sym}
use Rattle.known_places.proofs.around.turn_at_header.Goals as goal
use Rattle.known_places.proofs.AroundLemmas.{again_there, begins_there}

pub returns-then-not-is_in : goal.returns-then-not-is_in
returns-then-not-is_in c =
    begins_there c.args.span.now c.args.counted c.args.edge (sym c.is_in.ensures ∙ c.if-not-is_in.true)

pub returns : goal.returns
returns c =
    again_there c.args.span.now c.args.counted c.args.edge c.requires (sym c.is_in.ensures ∙ c.if-not-is_in.false)
    c.if-not-counted.false
