use Rattle.std.proofs.Common.{◌≢◌, ◌∙◌, sym}
use Rattle.numbered_walks.specs.Reach.{start_of}
use Rattle.longest_walk.proofs.WayLemmas.{way_back}
use Rattle.longest_walk.proofs.trace.trace.Goals as goal

pub loop-here-preserved : goal.loop-here-preserved
loop-here-preserved c =
    let tree = c.args.search.tree.now in
    let s = c.requires.searched in
    let l = c.loop-here in
    let differ : l.here ≢ start_of c.args.context = λ is. c.loop-here-test.true (is ∙ sym c.start_of-first.ensures) in
    let more = way_back _ tree.edges tree.spans c.args.search.tables.now s.tree_is.ordered c.args.context c.requires.context l.here c.args.number c.last_edge-edge.result l.way.items differ l.invariant.inside c.last_edge-edge.ensures l.invariant.way in
    rw (c.edges.ensures, c.in_ok-push.ensures.items) (record { inside = more.0; known = more.1; way = more.2 })
