use Rattle.std.proofs.Common.{arith, rules}
use Rattle.shifter.proofs.ShiftLemmas.{cycles}
use Rattle.shifter.proofs.shifts.multiply_cycles.Goals as goal

pub returns-clause-cycles : goal.returns-clause-cycles
returns-clause-cycles c = cycles c.args.number _ (omega arith) (search rules)
