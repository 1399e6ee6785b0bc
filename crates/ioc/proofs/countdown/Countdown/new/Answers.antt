use Rattle.std.proofs.Common.{arith}
use Rattle.ioc.proofs.TimerLemmas.{same_requests}
use Rattle.ioc.proofs.countdown.Countdown.new.Goals as goal

pub invariant_of-result : goal.invariant_of-result
invariant_of-result c = record {
  phase = c.requires;
  some = omega (arith, c.requires);
  within = omega arith;
  same = λ ticks below.
      same_requests c.args.timers c.min-counts.result ticks c.requires below
      (λ d less. c.counts_left.ensures.quiet d (omega arith))
      (λ d less. c.counts_left-2.ensures.quiet d (omega arith));
}
