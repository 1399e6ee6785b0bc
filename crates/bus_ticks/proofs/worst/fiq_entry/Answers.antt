use Rattle.bus_ticks.proofs.EntryLemmas.{fiq_entry_greatest}
use Rattle.bus_ticks.proofs.worst.fiq_entry.Goals as goal

pub returns-clause-greatest : goal.returns-clause-greatest
returns-clause-greatest c = fiq_entry_greatest c.args.profile.now c.fiq_entry_number.result c.fiq_entry_number.ensures
