use Rattle.arcwcet.proofs.law.some_run_keeps.Goals as goal
use Rattle.arcwcet.proofs.KeptRun.{kept}

pub returns : goal.returns
returns c = kept
