use Rattle.responses.proofs.EntryLemmas.{unmasked}
use Rattle.responses.proofs.law.unmasked_is_taken.Goals as goal

pub returns : goal.returns
returns c = unmasked
