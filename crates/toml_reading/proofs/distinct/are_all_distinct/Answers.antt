use Rattle.toml_reading.proofs.DistinctLemmas.{distinct_at, repeats_at}
use Rattle.toml_reading.proofs.distinct.are_all_distinct.Goals as goal

pub returns-then-not-is_new : goal.returns-then-not-is_new
returns-then-not-is_new c =
    repeats_at c.args.numbers.now c.loop-number.seen.keys c.loop-number.number-index c.in_ok-is_new.is_new c.loop-number-test.true c.loop-number.invariant.0 c.in_ok-is_new.ensures.added c.if-not-is_new.true

pub loop-number-preserved : goal.loop-number-preserved
loop-number-preserved c =
    distinct_at c.args.numbers.now c.loop-number.seen.keys c.insert.new.self.keys c.loop-number.number-index c.in_ok-is_new.is_new c.loop-number-test.true c.loop-number.invariant c.in_ok-is_new.ensures.added c.if-not-is_new.false c.in_ok-is_new.ensures.keys
