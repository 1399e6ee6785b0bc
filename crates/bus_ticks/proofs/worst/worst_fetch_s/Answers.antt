use Rattle.bus_ticks.proofs.FetchLemmas.{s_greatest}
use Rattle.bus_ticks.proofs.worst.worst_fetch_s.Goals as goal

pub returns-clause-greatest : goal.returns-clause-greatest
returns-clause-greatest c = s_greatest c.args.profile.now c.args.address c.worst_fetch.result cc
