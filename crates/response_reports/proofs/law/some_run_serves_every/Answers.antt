use Rattle.response_reports.proofs.ServedEveryLemmas.{served_every}
use Rattle.response_reports.proofs.law.some_run_serves_every.Goals as goal

pub returns : goal.returns
returns c = served_every
