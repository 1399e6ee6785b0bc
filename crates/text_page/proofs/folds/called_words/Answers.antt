use Rattle.std.proofs.Common.{◌∙◌, ap, sym, take}
use Rattle.std.specs.Prelude.{◌||◌}
use Rattle.std.specs.List.{list_any}
use Rattle.std.proofs.lemmas.List.{take_all}
use Rattle.std.proofs.lemmas.List.Folds.{list_any_more}
use Rattle.control_flow.specs.declared.edges.Edge.{Edge}
use Rattle.text_explained.specs.Sums.{is_call_to}
use Rattle.text_page.proofs.folds.called_words.Goals as goal

pub loop-edge-preserved : goal.loop-edge-preserved
loop-edge-preserved c = λ at.
    let edges = c.edges-edge-items.result.now in
    let i = c.loop-edge.edge-index in
    c.in_ok-note_called.ensures at ∙ ap (λ b. b || is_call_to at c.edge-item.result) (c.loop-edge.invariant at)
    ∙ ap (λ (e : Edge). list_any (is_call_to at) (take i edges) || is_call_to at e) c.edge-item.is
    ∙ sym (list_any_more (is_call_to at) edges i c.edge-item.result c.loop-edge-test.true)

pub returns : goal.returns
returns c = λ at.
    c.loop-edge.invariant at ∙ ap (list_any (is_call_to at)) (take_all c.loop-edge.edge-index c.edges-edge-items.result.now c.loop-edge-test.false ∙ c.edges-edge-items.ensures.value)
