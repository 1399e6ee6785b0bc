use Rattle.std.proofs.Common.{◌∙◌, ap, sym, take}
use Rattle.std.specs.Prelude.{◌||◌}
use Rattle.std.specs.List.{list_any}
use Rattle.std.proofs.lemmas.List.{take_all}
use Rattle.std.proofs.lemmas.List.Folds.{list_any_more}
use Rattle.control_flow.specs.declared.edges.Edge.{Edge}
use Rattle.text_explained.specs.Sums.{calls_from}
use Rattle.text_explained.proofs.routines.Routines.of_graph.Goals as goal

pub loop-edge-preserved : goal.loop-edge-preserved
loop-edge-preserved c = λ site n.
    let edges = c.edges-edge-items.result.now in
    let i = c.loop-edge.edge-index in
    c.in_ok-note.ensures site n ∙ ap (λ b. b || calls_from n site c.edge-item.result) (c.loop-edge.invariant site n)
    ∙ ap (λ (e : Edge). list_any (calls_from n site) (take i edges) || calls_from n site e) c.edge-item.is
    ∙ sym (list_any_more (calls_from n site) edges i c.edge-item.result c.loop-edge-test.true)

pub returns : goal.returns
returns c = λ site n.
    c.loop-edge.invariant site n ∙ ap (list_any (calls_from n site)) (take_all c.loop-edge.edge-index c.edges-edge-items.result.now c.loop-edge-test.false ∙ c.edges-edge-items.ensures.value)
