use Rattle.memc.proofs.Times.{control_same}
use Rattle.memc.proofs.memory.control_of.Goals as goal

pub returns : goal.returns
returns c = control_same c.args.address _ _
