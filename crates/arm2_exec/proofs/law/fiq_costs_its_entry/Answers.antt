use Rattle.arm2_exec.proofs.TakenLemmas.{fiq_costs}
use Rattle.arm2_exec.proofs.law.fiq_costs_its_entry.Goals as goal

pub returns : goal.returns
returns c = fiq_costs
