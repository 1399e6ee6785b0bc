use Rattle.ioc.proofs.TimerLemmas as proved
use Rattle.ioc.proofs.law.ticks_add_up.Goals as goal

pub returns : goal.returns
returns c = proved.ticks_add_up
