use Rattle.vidc.proofs.VideoLemmas as proved
use Rattle.vidc.proofs.law.ticks_add_up.Goals as goal

pub returns : goal.returns
returns c = proved.ticks_add_up
