use Rattle.walk_contradictions.proofs.FlagLemmas.{SomeOverflow, late_flag}
use Rattle.walk_contradictions.proofs.outcomes.some_carry.Goals as goal

pub returns : goal.returns
returns c =
    late_flag (SomeOverflow c.args.one c.args.other c.args.negative c.args.zero) c.some_overflow.result c.some_overflow-2.result c.if-some_overflow.false c.some_overflow.ensures
    c.some_overflow-2.ensures
