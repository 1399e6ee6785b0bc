use Rattle.walk_contradictions.proofs.FlagLemmas.{SomeZero, late_flag, some_flags}
use Rattle.walk_contradictions.proofs.outcomes.some_flags.Goals as goal

pub returns : goal.returns
returns c =
    some_flags c.args.one c.args.other c.some_zero-2.result
    (late_flag (SomeZero c.args.one c.args.other) c.some_zero.result c.some_zero-2.result c.if-some_zero.false c.some_zero.ensures c.some_zero-2.ensures)
