use Rattle.justify_reports.proofs.TrustLemmas.{bounded_on_trust}
use Rattle.justify_reports.proofs.law.on_trust_is_bounded.Goals as goal

pub returns : goal.returns
returns c = bounded_on_trust
