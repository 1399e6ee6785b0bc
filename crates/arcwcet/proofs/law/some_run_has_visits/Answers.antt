use Rattle.arcwcet.proofs.law.some_run_has_visits.Goals as goal
use Rattle.arcwcet.proofs.VisitedRun.{visited}

pub returns : goal.returns
returns c = visited
