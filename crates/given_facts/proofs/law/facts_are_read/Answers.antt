use Rattle.given_facts.proofs.RuleLemmas.{facts_stated, fault_answered}
use Rattle.given_facts.proofs.law.facts_are_read.Goals as goal

pub returns-clause-facts : goal.returns-clause-facts
returns-clause-facts c = facts_stated

pub returns-clause-fault : goal.returns-clause-fault
returns-clause-fault c = fault_answered
