use Rattle.std.proofs.Common.{◌∙◌, sym}
use Rattle.known_places.proofs.around.turn_elsewhere.Goals as goal
use Rattle.known_places.proofs.AroundLemmas.{stays_there}

pub returns : goal.returns
returns c =
    stays_there c.args.span.now c.args.counted c.args.edge c.requires (sym c.is_in.ensures ∙ c.if-not-is_in.false)
    c.if-not-counted.false
