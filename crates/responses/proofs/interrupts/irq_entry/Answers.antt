use Rattle.responses.proofs.EntryLemmas.{irq_entry_greatest}
use Rattle.responses.proofs.interrupts.irq_entry.Goals as goal

pub returns-clause-greatest : goal.returns-clause-greatest
returns-clause-greatest c =
    irq_entry_greatest c.args.profile.now c.irq_entry_number.result c.irq_entry_number.ensures
