use Rattle.shifter.proofs.ShiftLemmas.{greatest_cycles, most_cycles}
use Rattle.shifter.proofs.law.multiply_limit.Goals as goal

pub returns-clause-most : goal.returns-clause-most
returns-clause-most c = most_cycles

pub returns-clause-reached : goal.returns-clause-reached
returns-clause-reached c = greatest_cycles
