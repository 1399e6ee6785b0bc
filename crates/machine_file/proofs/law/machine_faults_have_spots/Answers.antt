use Rattle.machine_file.proofs.SpotLemmas.{fault_spot, spot_fault}
use Rattle.machine_file.proofs.law.machine_faults_have_spots.Goals as goal

pub returns : goal.returns
returns c = λ ms fault. (fault_spot ms fault, λ h. spot_fault ms fault h.0 h.1)
