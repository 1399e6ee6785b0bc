use Rattle.std.proofs.Common.{◌∙◌}
use Rattle.text_graph.proofs.NodeLaws.{are_numbers}
use Rattle.text_graph.proofs.document.put_first.Goals as goal

pub put_stretch-requires-clause-known : goal.put_stretch-requires-clause-known
put_stretch-requires-clause-known c =
    are_numbers c.args.drawn.graph.now c.args.drawn.tree.now c.args.number c.deref.result.now c.requires.known (c.deref.ensures.value ∙ c.in_ok-numbers.ensures)
