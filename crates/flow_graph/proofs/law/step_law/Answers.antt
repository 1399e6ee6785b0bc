use Rattle.flow_graph.proofs.law.step_law.Goals as goal
use Rattle.flow_graph.proofs.StepLemmas as lemmas

-- src/law.rt:5:1
pub returns-clause-edge : goal.returns-clause-edge
returns-clause-edge c = lemmas.law

-- src/law.rt:5:1
pub returns-clause-cost : goal.returns-clause-cost
returns-clause-cost c = lemmas.cost
