use Rattle.statement.proofs.StretchLemmas.{range_first, range_none, range_other}
use Rattle.statement.proofs.stretches.next_from.Goals as goal

pub returns-then-key-base : goal.returns-then-key-base
returns-then-key-base g c =
    range_first c.args.stretches.now c.args.base c.args.address c.range.result (c.range.ensures.in_range tt) c.in-Some.key.now c.in-Some.value.now c.next.new.self c.in-Some.ensures.steps c.if-key-base.true

pub returns-else-key-base : goal.returns-else-key-base
returns-else-key-base g c =
    range_other c.args.stretches.now c.args.base c.args.address c.range.result (c.range.ensures.in_range tt) c.in-Some.key.now c.in-Some.value.now c.next.new.self c.in-Some.ensures.steps c.if-key-base.false

pub returns-in-None : goal.returns-in-None
returns-in-None g c = range_none c.args.stretches.now c.args.base c.args.address c.range.result (c.range.ensures.in_range tt) c.in-None.ensures.steps.0
