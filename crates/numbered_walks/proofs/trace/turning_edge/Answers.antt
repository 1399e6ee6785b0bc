use Rattle.std.proofs.Common.{false, ◌≡◌, get_or, ap, ◌∙◌, arith}
use Rattle.numbered_walks.specs.Tables.{round_of}
use Rattle.numbered_walks.proofs.Grouping.{group_known}
use Rattle.numbered_walks.proofs.Tracing.{turning_found}
use Rattle.numbered_walks.proofs.trace.turning_edge.Goals as goal

pub attaining-requires-clause-known : goal.attaining-requires-clause-known
attaining-requires-clause-known c =
    let s = c.args.span.now in
    let shape = c.requires.graph.ordered.shape s c.requires.stated in
    group_known c.args.graph.edges.now false c.args.graph.index.now.turning.items s.header c.index-group.result.now (omega (arith, c.requires.graph.indexed.all_turning, shape.0, shape.1)) c.requires.graph.indexed.turning
    c.deref.result.now (c.deref.ensures.value ∙ ap (λ v. v.items) c.index-group.ensures)

pub returns : goal.returns
returns c =
    let s = c.args.span.now in
    let shape = c.requires.graph.ordered.shape s c.requires.stated in
    let group = c.deref.result.now in
    let is_list : group ≡ (get_or c.args.graph.index.now.turning.items s.header c.index-group.result.now).items = c.deref.ensures.value ∙ ap (λ v. v.items) c.index-group.ensures in
    let ticks : c.round_of-ticks.result ≡ round_of c.args.tables.now s = c.round_of-ticks.ensures in
    turning_found c.args.graph.exit c.args.graph.edges.now c.args.graph.spans.now c.args.tables.now c.requires.graph.ordered c.requires.found c.args.graph.index.now.turning.items s c.requires.stated c.index-group.result.now
    (omega (arith, c.requires.graph.indexed.all_turning, shape.0, shape.1)) c.requires.graph.indexed.turning (λ zero_is. c.if-ticks-eq0.false (ticks ∙ zero_is)) group is_list c.attaining.result
    (rw (← ticks) c.attaining.ensures)
