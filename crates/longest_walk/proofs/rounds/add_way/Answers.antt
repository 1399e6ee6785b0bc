use Rattle.std.proofs.Common.{◌∙◌, List, get_or, map, ap}
use Rattle.control_flow.specs.declared.edges.Edge.{Edge}
use Rattle.numbered_walks.specs.declared.span.NumberedEdge.{NumberedEdge}
use Rattle.numbered_walks.specs.Index.{edge_at}
use Rattle.longest_walk.specs.Folded.{open_item}
use Rattle.longest_walk.proofs.Opening.{way_next}
use Rattle.longest_walk.proofs.rounds.add_way.Goals as goal

pub loop-number-preserved : goal.loop-number-preserved
loop-number-preserved c =
    let way = c.args.way.now in
    let k = get_or way c.loop-number.number-index 0 in
    let known = c.requires.known c.loop-number.number-index 0 c.loop-number-test.true in
    way_next c.args.graph.now c.args.tree.now c.args.rounds.now (map open_item c.args.walk.now.items) way c.loop-number.number-index c.loop-number.walk.items c.push.new.self.items c.add_rounds.new.walk.items c.index-edges-number.result _
    c.loop-number-test.true known.0 c.loop-number.invariant c.in_ok-push.ensures.items
    (c.index-edges-number.is ∙ ap (λ (es : List Edge). get_or es k c.index-edges-number.result) c.edges.ensures.value)
    (ap (λ (es : List NumberedEdge). (edge_at es k).to) c.edges-in-loop-number.ensures)
    c.in_ok-add_rounds.ensures
