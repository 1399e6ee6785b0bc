use Rattle.flow_graph.proofs.law.tight_law.Goals as goal
use Rattle.flow_graph.proofs.TightStep as lemmas

pub returns : goal.returns
returns c = lemmas.law
