use Rattle.responses.proofs.Served.{served_visited}
use Rattle.responses.proofs.VisitedLemmas.{visited_law}
use Rattle.responses.proofs.law.visited_response_law.Goals as goal

pub returns-clause-sum : goal.returns-clause-sum
returns-clause-sum c = visited_law

pub returns-clause-some : goal.returns-clause-some
returns-clause-some c = served_visited
