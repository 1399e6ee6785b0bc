use Rattle.responses.proofs.ResponseLemmas.{law, none_longer}
use Rattle.responses.proofs.law.response_law.Goals as goal

pub returns-clause-sum : goal.returns-clause-sum
returns-clause-sum c = law

pub returns-clause-longest : goal.returns-clause-longest
returns-clause-longest c = none_longer
