use Rattle.text_explained.proofs.BurstLaws.{least_time, no_time}
use Rattle.text_explained.proofs.law.burst_time_is_the_least.Goals as goal

pub returns-clause-some : goal.returns-clause-some
returns-clause-some c = least_time

pub returns-clause-none : goal.returns-clause-none
returns-clause-none c = no_time
