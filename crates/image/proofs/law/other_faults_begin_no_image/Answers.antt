use Rattle.image.proofs.FrontLemmas.{others_begin_none}
use Rattle.image.proofs.law.other_faults_begin_no_image.Goals as goal

pub returns : goal.returns
returns c = others_begin_none
