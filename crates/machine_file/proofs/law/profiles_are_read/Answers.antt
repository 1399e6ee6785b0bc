use Rattle.machine_file.proofs.PriceTableLemmas.{profile_fault, profile_stated}
use Rattle.machine_file.proofs.law.profiles_are_read.Goals as goal

pub returns-clause-profile : goal.returns-clause-profile
returns-clause-profile c = profile_stated

pub returns-clause-fault : goal.returns-clause-fault
returns-clause-fault c = profile_fault
