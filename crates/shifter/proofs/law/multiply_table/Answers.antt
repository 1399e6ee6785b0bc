use Rattle.shifter.proofs.ShiftLemmas.{cycles_below, cycles_reach, some_cycles}
use Rattle.shifter.proofs.law.multiply_table.Goals as goal

pub returns-clause-some : goal.returns-clause-some
returns-clause-some c = some_cycles

pub returns-clause-below : goal.returns-clause-below
returns-clause-below c = cycles_below

pub returns-clause-from : goal.returns-clause-from
returns-clause-from c = cycles_reach
