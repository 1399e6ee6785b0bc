use Rattle.statement.proofs.StandLemmas.{by_address}
use Rattle.statement.proofs.law.words_lie_by_address.Goals as goal

pub returns : goal.returns
returns c = by_address
