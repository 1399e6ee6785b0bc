use Rattle.bus_ticks.proofs.WorstLemmas.{speed_block}
use Rattle.bus_ticks.proofs.law.devices_cost_their_speed.Goals as goal

pub returns : goal.returns
returns c profile class words store block is at = speed_block profile class words store block is at
