use Rattle.objasm.proofs.ValueLaws.{spelled_value, value_spelled}
use Rattle.objasm.proofs.law.values_are_of_expressions.Goals as goal

pub returns : goal.returns
returns c = (value_spelled, spelled_value)
