use Rattle.text_draft.proofs.RuleLaws.{RulesBelow}
use Rattle.text_draft.proofs.rules.find_rules.Given as goal

abbrev pub invariant-loop-number : goal.invariant-loop-number
invariant-loop-number l = RulesBelow l.image l.open_left l.accesses l.begun l.number l.rules.items
