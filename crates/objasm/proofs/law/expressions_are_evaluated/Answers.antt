use Rattle.objasm.proofs.ExpressionLaws.{spelled}
use Rattle.objasm.proofs.ReadingLaws.{read_so}
use Rattle.objasm.proofs.law.expressions_are_evaluated.Goals as goal

pub returns : goal.returns
returns c = (spelled, read_so)
