use Rattle.cert_check.proofs.ProfileLemmas.{profile_decides}
use Rattle.cert_check.proofs.presence.has_its_prices.Goals as goal

pub returns : goal.returns
returns c = profile_decides c.args.cert.now.profile c.args.graph.now.profile c.profile.result c.eq.result c.eq.ensures c.profile.ensures.value
