use Rattle.walk_contradictions.proofs.FlagLemmas.{none_excludes}
use Rattle.walk_contradictions.proofs.outcomes.Outcomes.excludes.Goals as goal

pub returns : goal.returns
returns c = none_excludes c.args.self.now c.args.outcome c.loop-number.number c.loop-number-test.false c.loop-number.invariant
