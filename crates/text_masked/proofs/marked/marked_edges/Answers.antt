use Rattle.std.proofs.Common.{◌≡◌, ◌∙◌, ◌+◌, ◌<◌, List, length, sym, ap, subst, refl, arith}
use Rattle.std.proofs.lemmas.List.{get_or_default}
use Rattle.control_flow.proofs.Firsts.{no_edge}
use Rattle.numbered_walks.specs.declared.span.NumberedEdge.{NumberedEdge}
use Rattle.control_flow.specs.declared.edges.Edge.{Edge}
use Rattle.longest_walk.specs.Built.{step_at}
use Rattle.numbered_walks.specs.Index.{edge_at}
use Rattle.text_masked.specs.declared.marked.MarkedEdge.{MarkedEdge}
use Rattle.text_masked.specs.Shown.{IsShownOn}
use Rattle.text_masked.proofs.MarkLemmas.{AreFirst, all_marked, one_marked}
use Rattle.text_masked.proofs.marked.marked_edges.Goals as goal

pub loop-number-preserved : goal.loop-number-preserved
loop-number-preserved c =
    let edges = c.edges-edges.result.now in
    let steps = c.edges-steps.result.now in
    let n = c.loop-number.number in
    let m : MarkedEdge = record { edge = edge_at edges n; shown = c.shown_on.result } in
    let step = c.index-steps-number.result in
    let many : length edges ≡ length c.args.tree.now.edges = ap (λ (es : List NumberedEdge). length es) c.edges-edges.ensures in
    let steps_many : length steps ≡ length c.args.graph.now.edges = ap (λ (es : List Edge). length es) c.edges-steps.ensures.value in
    let lt : n < length steps = omega (arith, c.loop-number-test.true, many, steps_many, c.requires.numbered.same) in
    let step_is : step ≡ step_at steps n = c.index-steps-number.is ∙ get_or_default steps n step no_edge lt in
    let shows : IsShownOn c.args.image.now c.args.mask (step_at steps n) m.shown = subst (λ (e : Edge). IsShownOn c.args.image.now c.args.mask e m.shown) step_is c.shown_on.ensures in
    subst (λ (v : List MarkedEdge). AreFirst c.args.image.now c.args.mask steps edges v (n + 1)) (sym c.in_ok-push.ensures.items)
    (one_marked c.args.image.now c.args.mask steps edges c.loop-number.marked.items n m c.loop-number.invariant c.loop-number-test.true refl shows)

pub returns : goal.returns
returns c =
    all_marked c.args.image.now c.args.mask c.edges-steps.result.now c.edges-edges.result.now c.args.graph.now c.args.tree.now c.loop-number.marked.items c.loop-number.number c.edges-steps.ensures.value c.edges-edges.ensures
    c.loop-number-test.false c.loop-number.invariant
