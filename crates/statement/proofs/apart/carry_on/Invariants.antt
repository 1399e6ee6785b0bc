use Rattle.statement.proofs.ApartLemmas.{IsCarried}
use Rattle.statement.proofs.apart.carry_on.Given as goal

abbrev pub invariant-loop-reach : goal.invariant-loop-reach
invariant-loop-reach l = IsCarried l.initial.reaches l.reaches l.reach-index l.farthest
