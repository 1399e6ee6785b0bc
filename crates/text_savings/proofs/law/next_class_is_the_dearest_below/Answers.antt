use Rattle.text_savings.proofs.GainLaws.{next_access, next_leave}
use Rattle.text_savings.proofs.law.next_class_is_the_dearest_below.Goals as goal

pub returns-clause-access : goal.returns-clause-access
returns-clause-access c = next_access

pub returns-clause-leave : goal.returns-clause-leave
returns-clause-leave c = next_leave
