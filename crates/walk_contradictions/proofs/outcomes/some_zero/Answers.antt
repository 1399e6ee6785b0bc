use Rattle.walk_contradictions.proofs.FlagLemmas.{SomeCarry, late_flag}
use Rattle.walk_contradictions.proofs.outcomes.some_zero.Goals as goal

pub returns : goal.returns
returns c =
    late_flag (SomeCarry c.args.one c.args.other c.args.negative) c.some_carry.result c.some_carry-2.result c.if-some_carry.false c.some_carry.ensures c.some_carry-2.ensures
