use Rattle.flow_graph.proofs.law.run_law.Goals as goal
use Rattle.flow_graph.proofs.StepLemmas as lemmas

-- src/law.rt:12:1
pub returns : goal.returns
returns c = lemmas.run_law
