use Rattle.operation_laws.proofs.law.operation_leaves.Goals as goal
use Rattle.operation_laws.proofs.KeepLaws.{keep_law}
use Rattle.operation_laws.proofs.OperationLaws.{branches_plainly, operation_law, skip_law}

pub returns-clause-operation : goal.returns-clause-operation
returns-clause-operation c = operation_law

pub returns-clause-keeps : goal.returns-clause-keeps
returns-clause-keeps c = keep_law

pub returns-clause-skip : goal.returns-clause-skip
returns-clause-skip c = skip_law

pub returns-clause-plain : goal.returns-clause-plain
returns-clause-plain c = branches_plainly
