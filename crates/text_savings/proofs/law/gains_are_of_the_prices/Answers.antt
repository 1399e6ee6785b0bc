use Rattle.text_savings.proofs.GainLaws.{access_gains, cycle_gains, leave_gains}
use Rattle.text_savings.proofs.law.gains_are_of_the_prices.Goals as goal

pub returns-clause-access : goal.returns-clause-access
returns-clause-access c = access_gains

pub returns-clause-cycles : goal.returns-clause-cycles
returns-clause-cycles c = cycle_gains

pub returns-clause-leave : goal.returns-clause-leave
returns-clause-leave c = leave_gains
