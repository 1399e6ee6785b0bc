use Rattle.std.proofs.Common.{ap, arith}
use Rattle.std.proofs.lemmas.Bool.Decides.{nat_tests}
use Rattle.ioc.specs.declared.timers.Timer.{Timer}
use Rattle.ioc.proofs.TimerLemmas.{stays, falls}
use Rattle.ioc.proofs.timers.Timer.counts_left.Goals as goal

pub returns-then-self-eq0-clause-quiet : goal.returns-then-self-eq0-clause-quiet
returns-then-self-eq0-clause-quiet c =
    λ times less. ap (λ (t : Timer). t.request) (stays times c.args.self (grind (arith, nat_tests, c.if-self-eq0.true)))

pub returns-then-self-eq0-2-clause-quiet : goal.returns-then-self-eq0-2-clause-quiet
returns-then-self-eq0-2-clause-quiet c =
    λ times less. ap (λ (t : Timer). t.request) (stays times c.args.self (grind (arith, nat_tests, c.if-self-eq0-2.true)))

pub returns-clause-quiet : goal.returns-clause-quiet
returns-clause-quiet c = λ times less. ap (λ (t : Timer). t.request) (falls times c.args.self (omega arith) less)
