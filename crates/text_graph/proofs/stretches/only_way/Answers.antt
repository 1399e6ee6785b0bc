use Rattle.std.proofs.Common.{◌≡◌, ◌∙◌, ◌<◌, List, ap, arith, length}
use Rattle.numbered_walks.specs.declared.span.NumberedEdge.{NumberedEdge}
use Rattle.text_graph.proofs.ArrivalLaws.{leads_inside}
use Rattle.text_graph.proofs.stretches.only_way.Goals as goal

pub bounds-drawn-to : goal.bounds-drawn-to
bounds-drawn-to c =
    let d = c.args.drawn in
    let edges = c.edges.result.now in
    let first = c.edge_range_in-first.result.0 in
    let t = c.requires.drawn.tree in
    let many : length edges ≡ length d.graph.now.edges = ap (λ (es : List NumberedEdge). length es) c.edges.ensures ∙ t.numbered.same in
    let lt : first < length edges = omega (arith, many, c.edge_range_in-first.ensures.range.fits, c.if-end-first-ne1.false) in
    omega (arith, leads_inside d.graph.now d.tree.now t edges first c.edges.ensures lt, c.requires.drawn.tables.all_counted)

pub offset_bounds-drawn-to : goal.offset_bounds-drawn-to
offset_bounds-drawn-to c =
    let d = c.args.drawn in
    let edges = c.edges.result.now in
    let first = c.edge_range_in-first.result.0 in
    let t = c.requires.drawn.tree in
    let many : length edges ≡ length d.graph.now.edges = ap (λ (es : List NumberedEdge). length es) c.edges.ensures ∙ t.numbered.same in
    let lt : first < length edges = omega (arith, many, c.edge_range_in-first.ensures.range.fits, c.if-end-first-ne1.false) in
    omega (arith, leads_inside d.graph.now d.tree.now t edges first c.edges.ensures lt, c.requires.drawn.tables.all_counted)
