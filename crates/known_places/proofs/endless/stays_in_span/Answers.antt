use Rattle.std.proofs.Common.{◌<◌, ◌∙◌, ap, arith, length, sym}
use Rattle.std.proofs.lemmas.Bool.{false≢true}
use Rattle.std.proofs.lemmas.List.{get_or_default}
use Rattle.control_flow.proofs.Firsts.{no_edge}
use Rattle.longest_walk.specs.Built.{step_at}
use Rattle.numbered_walks.specs.Index.{edge_at}
use Rattle.numbered_walks.specs.Ordered.{is_in}
use Rattle.known_places.proofs.EndlessLemmas.{stays_by}
use Rattle.known_places.proofs.endless.stays_in_span.Goals as goal

pub returns-then-is_in : goal.returns-then-is_in
returns-then-is_in c = λ seen out.
    let there = ap (λ es. is_in c.args.span.now (edge_at es c.args.number).to) c.edges.ensures in
    absurd (false≢true (sym out ∙ sym there ∙ sym c.is_in.ensures ∙ c.if-is_in.true))

pub returns : goal.returns
returns c = λ seen.
    let h = c.args.handler.now in
    let table = c.args.table.now in
    let k = c.args.number in
    let edges = c.edges-2.result.now in
    let edge = c.index-edges-number.result in
    let inside : k < length edges = omega (arith, c.requires.known, ap length c.edges-2.ensures.value) in
    stays_by h.image.now h.graph h.tree table.around.now table.known.now c.args.span.now k edge c.edges.result.now
    (c.index-edges-number.is ∙ get_or_default edges k edge no_edge inside ∙ ap (λ es. step_at es k) c.edges-2.ensures.value)
    c.edges.ensures (c.edge_never_taken.ensures seen)
