use Rattle.text_graph.proofs.TotalLaws.{ticks_in_all}
use Rattle.text_graph.proofs.law.node_ticks_are_the_bound.Goals as goal

pub returns : goal.returns
returns c = ticks_in_all
