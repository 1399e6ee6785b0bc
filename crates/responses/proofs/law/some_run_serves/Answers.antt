use Rattle.responses.proofs.Served.{served}
use Rattle.responses.proofs.law.some_run_serves.Goals as goal

pub returns : goal.returns
returns c = served
