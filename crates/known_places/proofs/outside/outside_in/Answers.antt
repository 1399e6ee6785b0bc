use Rattle.std.proofs.Common.{◌∙◌, sym}
use Rattle.known_places.proofs.AroundLemmas.{some_as}
use Rattle.known_places.proofs.TableLemmas.{outside_known}
use Rattle.known_places.proofs.outside.outside_in.Goals as goal

pub returns : goal.returns
returns c =
    let h = c.args.handler.now in
    let table = c.args.table.now in
    some_as _ _ c.outside_within.result
    (λ range goes.
    outside_known h.image.now h.graph h.tree table.around.now table.known.now h.statement c.args.number c.in-At.field-0 c.in-At.address
    c.in-Some.word range (sym c.place_in.ensures ∙ c.in-At.is) (sym c.in-Some.ensures.value) goes)
    c.outside_within.ensures
