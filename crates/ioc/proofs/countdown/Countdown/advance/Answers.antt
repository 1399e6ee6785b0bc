use Rattle.std.proofs.Common.{◌≡◌, ℕ, ◌+◌, ◌-◌, ◌∙◌, ap, arith}
use Rattle.ioc.specs.Timers.{ticked}
use Rattle.ioc.proofs.TimerLemmas.{ticked-add}
use Rattle.ioc.proofs.countdown.Countdown.advance.Goals as goal

pub returns-then-ticks-self : goal.returns-then-ticks-self
returns-then-ticks-self c =
    let s = c.self.inside.timers in
    let gone : c.self.inside.quiet - (c.self.inside.left - c.args.ticks) ≡ c.self.inside.quiet - c.self.inside.left + c.args.ticks = omega arith in
    rw (← c.self.view_is) (ap (λ (n : ℕ). ticked n s) gone ∙ ticked-add (c.self.inside.quiet - c.self.inside.left) c.args.ticks s)
