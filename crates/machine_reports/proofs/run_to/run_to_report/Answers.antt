use Rattle.handlers.proofs.PricedLemmas.{by_profile}
use Rattle.machine_reports.proofs.run_to.run_to_report.Goals as goal

pub returns : goal.returns
returns g c = by_profile c.in_ok-profile.profile c.in_ok-profile.ensures.is c.priced.ensures
