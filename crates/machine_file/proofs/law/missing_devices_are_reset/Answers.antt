use Rattle.machine_file.proofs.KeyTableLemmas.{missing_ioc, missing_vidc}
use Rattle.machine_file.proofs.law.missing_devices_are_reset.Goals as goal

pub returns-clause-ioc : goal.returns-clause-ioc
returns-clause-ioc c = missing_ioc

pub returns-clause-vidc : goal.returns-clause-vidc
returns-clause-vidc c = missing_vidc
