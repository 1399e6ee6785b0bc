use Rattle.responses.proofs.EntryLemmas.{irq_costs}
use Rattle.responses.proofs.law.irq_costs_its_entry.Goals as goal

pub returns : goal.returns
returns c = irq_costs
