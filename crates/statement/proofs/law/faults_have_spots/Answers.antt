use Rattle.statement.proofs.SpotLemmas.{fault_spot, spot_fault}
use Rattle.statement.proofs.law.faults_have_spots.Goals as goal

pub returns : goal.returns
returns c = λ names ms fault. (fault_spot names ms fault, λ h. spot_fault names ms h.0 fault h.1)
