use Rattle.walk_contradictions.proofs.RunLemmas as lemmas
use Rattle.walk_contradictions.proofs.law.contradicted_walks_are_not_taken.Goals as goal

pub returns-clause-contradiction : goal.returns-clause-contradiction
returns-clause-contradiction c = lemmas.contradiction_law

pub returns-clause-named : goal.returns-clause-named
returns-clause-named c = lemmas.named_law
