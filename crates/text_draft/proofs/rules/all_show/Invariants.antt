use Rattle.text_draft.proofs.RuleLaws.{ShownBelow}
use Rattle.text_draft.proofs.rules.all_show.Given as goal

abbrev pub invariant-loop-n : goal.invariant-loop-n
invariant-loop-n l = ShownBelow l.image l.class l.n
