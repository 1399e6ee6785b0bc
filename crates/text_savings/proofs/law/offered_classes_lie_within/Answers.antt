use Rattle.text_savings.proofs.GainLaws.{of_known, way_out_within, within}
use Rattle.text_savings.proofs.law.offered_classes_lie_within.Goals as goal

pub returns-clause-access : goal.returns-clause-access
returns-clause-access c = within

pub returns-clause-leave : goal.returns-clause-leave
returns-clause-leave c = way_out_within

pub returns-clause-known : goal.returns-clause-known
returns-clause-known c = of_known
