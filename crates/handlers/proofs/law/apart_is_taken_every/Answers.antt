use Rattle.handlers.proofs.TakenLemmas.{apart_law}
use Rattle.handlers.proofs.law.apart_is_taken_every.Goals as goal

pub returns : goal.returns
returns c = apart_law
