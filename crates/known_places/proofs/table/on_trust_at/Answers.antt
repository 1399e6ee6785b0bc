use Rattle.std.proofs.Common.{◌∙◌, sym}
use Rattle.std.specs.Prelude.{[]}
use Rattle.known_places.proofs.table.on_trust_at.Goals as goal
use Rattle.known_places.proofs.TableLemmas.{stays_known}

pub returns-then-follows_within : goal.returns-then-follows_within
returns-then-follows_within c =
    let h = c.args.handler.now in
    stays_known h.image.now h.graph h.tree c.args.table.now.around.now c.args.table.now.known.now h.statement [] c.args.number c.in-At.field-0 c.in-At.address
    c.in-Some.word (sym c.place_in.ensures ∙ c.in-At.is) (sym c.in-Some.ensures.value) (c.follows_within.ensures c.if-follows_within.true)
