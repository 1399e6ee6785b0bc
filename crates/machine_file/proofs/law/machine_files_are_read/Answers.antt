use Rattle.machine_file.proofs.KeyTableLemmas.{machine_fault, machine_stated}
use Rattle.machine_file.proofs.law.machine_files_are_read.Goals as goal

pub returns-clause-machine : goal.returns-clause-machine
returns-clause-machine c = machine_stated

pub returns-clause-fault : goal.returns-clause-fault
returns-clause-fault c = machine_fault
