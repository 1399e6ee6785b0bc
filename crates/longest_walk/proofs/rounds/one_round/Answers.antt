use Rattle.std.proofs.Common.{◌≡◌, ◌∙◌, ◌++◌, List, length, get_or, map, Some, subst, ap}
use Rattle.control_flow.specs.declared.edges.Edge.{Edge}
use Rattle.numbered_walks.specs.declared.span.NumberedEdge.{NumberedEdge}
use Rattle.numbered_walks.specs.Index.{edge_at}
use Rattle.longest_walk.specs.Folded.{open_item}
use Rattle.longest_walk.specs.Ways.{IsWay, opened_way}
use Rattle.longest_walk.specs.declared.folded.Item.{Item}
use Rattle.longest_walk.proofs.RoundLemmas.{round_made}
use Rattle.longest_walk.proofs.WayLemmas.{from_low, way_known}
use Rattle.longest_walk.proofs.rounds.one_round.Goals as goal

pub trace-requires-clause-known : goal.trace-requires-clause-known
trace-requires-clause-known c =
    rw c.edges.ensures (from_low c.args.search.graph.now c.args.search.tree.now c.args.search.index.now c.args.search.tables.now c.requires.searched c.args.last c.requires.turns.inside)

pub add_way-requires : goal.add_way-requires
add_way-requires c =
    rw c.deref.ensures.value (record { known = way_known c.args.search.graph.now c.args.search.tree.now c.args.search.index.now c.args.search.tables.now c.requires.searched (length c.args.rounds.now) c.requires.rounds.whole (Some c.args.span.now) _ _ c.in_ok-way.way.items c.in_ok-way.ensures })

pub returns : goal.returns
returns c =
    let flow = c.args.search.graph.now in
    let tree = c.args.search.tree.now in
    let s = c.args.span.now in
    let way = c.in_ok-way.way.items in
    let items = c.add_way.new.walk.items in
    let is_way : IsWay tree.edges tree.spans c.args.search.tables.now (Some s) s.header way (edge_at tree.edges c.args.last).from = subst (λ (es : List NumberedEdge). IsWay tree.edges tree.spans c.args.search.tables.now (Some s) s.header way (edge_at es c.args.last).from) c.edges.ensures c.in_ok-way.ensures in
    let made : map open_item items ≡ opened_way flow tree c.args.rounds.now way =
    c.in_ok-add_way.ensures ∙ ap (λ (xs : List Item). map open_item xs ++ opened_way flow tree c.args.rounds.now c.deref.result.now) c.new-body.ensures.items ∙ ap (opened_way flow tree c.args.rounds.now) c.deref.ensures.value in
    round_made flow tree c.args.search.index.now c.args.search.tables.now c.requires.searched s c.requires.known c.args.last c.requires.turns c.args.rounds.now c.requires.rounds way items c.push.new.self.items c.index-edges-last.result is_way made c.in_ok-push.ensures.items
    (c.index-edges-last.is ∙ ap (λ (es : List Edge). get_or es c.args.last c.index-edges-last.result) c.edges-2.ensures.value)
