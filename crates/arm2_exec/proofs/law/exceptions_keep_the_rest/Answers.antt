use Rattle.arm2_exec.proofs.TakenLemmas.{keeps_the_rest}
use Rattle.arm2_exec.proofs.law.exceptions_keep_the_rest.Goals as goal

pub returns : goal.returns
returns c = keeps_the_rest
