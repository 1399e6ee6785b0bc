use Rattle.std.proofs.Common.{◌∙◌, List, ap}
use Rattle.std.specs.Prelude.{reverse}
use Rattle.numbered_walks.specs.declared.span.Span.{Span}
use Rattle.text_graph.proofs.StretchLaws.{loops_inside}
use Rattle.text_graph.proofs.clusters.put_opened.Goals as goal

pub put_clusters-requires-clause-inside : goal.put_clusters-requires-clause-inside
put_clusters-requires-clause-inside c =
    let d = c.args.drawn in
    loops_inside d.graph.now d.tree.now c.args.number c.deref.result.now c.requires.drawn.tree
    (c.deref.ensures.value ∙ c.reverse.ensures.items ∙ ap (λ (ss : List Span). reverse ss) (c.in_ok-loops.ensures.items ∙ c.loops_of.ensures))
