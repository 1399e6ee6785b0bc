use Rattle.std.proofs.Common.{◌≡◌, ◌∙◌, ◌++◌, ℕ, Option, Some, ap, sym}
use Rattle.std.proofs.lemmas.Result.{on_ok_weaker}
use Rattle.text_graph.specs.Clusters.{call_label_if}
use Rattle.text_graph.specs.Parts.{scene_of}
use Rattle.text_graph.specs.Stretches.{caller_of}
use Rattle.text_graph.proofs.CallerLaws.{caller_inside}
use Rattle.text_graph.proofs.clusters.put_call_label_if.Goals as goal

pub put_call_label-requires-clause-known : goal.put_call_label-requires-clause-known
put_call_label-requires-clause-known c =
    let d = c.args.drawn in
    caller_inside d.graph.now d.tree.now c.requires.drawn.tree c.args.first c.in-Some.caller (sym (c.requires.drawn.callers c.args.first) ∙ sym c.caller_at.ensures ∙ c.in-Some.is)

pub returns-in-Some : goal.returns-in-Some
returns-in-Some c =
    let d = c.args.drawn in
    let is : caller_of d.graph.now d.tree.now c.args.first ≡ Some c.in-Some.caller = sym (c.requires.drawn.callers c.args.first) ∙ sym c.caller_at.ensures ∙ c.in-Some.is in
    on_ok_weaker c.put_call_label.result
    (λ put. put ∙ ap (λ (o : Option ℕ). c.args.out.now.items ++ call_label_if (scene_of d) o c.args.at) (sym is))
    c.put_call_label.ensures
