use Rattle.std.proofs.Common.{sym}
use Rattle.known_places.proofs.EndlessLemmas.{edge_closed}
use Rattle.known_places.proofs.endless.edge_never_taken.Goals as goal

pub returns : goal.returns
returns c = λ seen.
    let h = c.args.handler.now in
    let table = c.args.table.now in
    edge_closed h.image.now h.tree.spans table.around.now table.known.now c.args.edge.now c.args.numbered c.in-At.field-0 c.in-At.address
    c.in-Some.word c.in-At.is (sym c.in-Some.ensures.value) (c.never_goes_within.ensures seen)
