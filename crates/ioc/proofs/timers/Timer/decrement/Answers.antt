use Rattle.std.proofs.Common.{sym, arith}
use Rattle.std.proofs.lemmas.Bool.Decides.{nat_tests}
use Rattle.ioc.proofs.TimerLemmas.{stays, falls, rounds}
use Rattle.ioc.proofs.timers.Timer.decrement.Goals as goal

pub returns-then-count-eq0 : goal.returns-then-count-eq0
returns-then-count-eq0 c = sym (stays c.args.times c.args.self.now (grind (arith, nat_tests, c.if-count-eq0.true)))

pub returns-then-latch-eq0 : goal.returns-then-latch-eq0
returns-then-latch-eq0 c = sym (stays c.args.times c.args.self.now (grind (arith, nat_tests, c.if-latch-eq0.true)))

pub returns-then-times-count : goal.returns-then-times-count
returns-then-times-count c = sym (falls c.args.times c.args.self.now (omega arith) (omega arith))

pub returns-else-times-count : goal.returns-else-times-count
returns-else-times-count c = sym (rounds c.args.times c.args.self.now (omega arith) (omega arith) (omega arith))
