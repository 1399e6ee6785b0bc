use Rattle.std.proofs.Common.{◌∙◌, sym}
use Rattle.known_places.proofs.TableLemmas.{goes_there}
use Rattle.known_places.proofs.destination.destination_in.Goals as goal

pub returns : goal.returns
returns c =
    let h = c.args.handler.now in
    goes_there h.image.now h.graph h.tree c.args.table.now c.args.number c.in-At.field-0 c.in-At.address c.in-Some.word
    (sym c.place_in.ensures ∙ c.in-At.is) (sym c.in-Some.ensures.value) c.goes_to.result c.goes_to.ensures
