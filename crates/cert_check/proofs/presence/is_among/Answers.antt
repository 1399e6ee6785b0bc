use Rattle.cert_check.proofs.PresenceLemmas.{search_decides}
use Rattle.cert_check.proofs.presence.is_among.Goals as goal

pub returns : goal.returns
returns c = rw c.is_ok.ensures.value (search_decides c.args.given.now c.args.place.now c.requires.ascending c.binary_search.result c.binary_search.ensures.bound c.binary_search.ensures.position)
