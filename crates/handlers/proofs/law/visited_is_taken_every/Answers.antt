use Rattle.handlers.proofs.TakenLemmas.{visited_law}
use Rattle.handlers.proofs.law.visited_is_taken_every.Goals as goal

pub returns : goal.returns
returns c = visited_law
