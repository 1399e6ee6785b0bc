use Rattle.justify_reports.proofs.TrustLemmas.{kept_on_trust}
use Rattle.justify_reports.proofs.law.kept_is_on_trust.Goals as goal

pub returns : goal.returns
returns c = kept_on_trust
