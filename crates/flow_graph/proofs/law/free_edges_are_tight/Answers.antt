use Rattle.flow_graph.proofs.TightFree as lemmas
use Rattle.flow_graph.proofs.law.free_edges_are_tight.Goals as goal

pub returns : goal.returns
returns c = lemmas.law
