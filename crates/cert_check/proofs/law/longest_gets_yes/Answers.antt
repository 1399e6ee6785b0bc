use Rattle.cert_check.proofs.law.longest_gets_yes.Goals as goal
use Rattle.cert_check.proofs.LongestYes.{longest_is_yes}

pub returns : goal.returns
returns c = longest_is_yes
