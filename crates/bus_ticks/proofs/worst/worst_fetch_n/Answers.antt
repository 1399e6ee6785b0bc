use Rattle.bus_ticks.proofs.FetchLemmas.{n_greatest}
use Rattle.bus_ticks.proofs.worst.worst_fetch_n.Goals as goal

pub returns-clause-greatest : goal.returns-clause-greatest
returns-clause-greatest c = n_greatest c.args.profile.now c.args.address c.worst_fetch.result c.worst_fetch.ensures
