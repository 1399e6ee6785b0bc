use Rattle.std.proofs.Common.{◌≡◌, ◌+◌, ◌%◌, ◌/◌, ◌∙◌, ℕ, ap, arith, sym}
use Rattle.ioc.specs.Timers.{after_decrements}
use Rattle.ioc.specs.declared.timers.Timers.{Timers}
use Rattle.ioc.proofs.TimerLemmas.{by_decrements}
use Rattle.ioc.proofs.timers.Timers.advance.Goals as goal

pub returns-then-times-gt0-clause-ticked : goal.returns-then-times-gt0-clause-ticked
returns-then-times-gt0-clause-ticked c =
    let t : c.args.ticks / 4 + (c.args.self.now.phase + c.args.ticks % 4) / 4 ≡ (c.args.self.now.phase + c.args.ticks) / 4 = omega arith in
    let p : (c.args.self.now.phase + c.args.ticks % 4) % 4 ≡ (c.args.self.now.phase + c.args.ticks) % 4 = omega arith in
    cc (by_decrements c.args.ticks c.args.self.now c.requires)

pub returns-else-times-gt0-clause-ticked : goal.returns-else-times-gt0-clause-ticked
returns-else-times-gt0-clause-ticked c =
    let s = c.args.self.now in
    let after : ℕ → ℕ → Timers = λ k p. record { phase = p; timer_0 = after_decrements k s.timer_0; timer_1 = after_decrements k s.timer_1 } in
    let none : (s.phase + c.args.ticks) / 4 ≡ 0 = omega arith in
    let p : (s.phase + c.args.ticks) % 4 ≡ (s.phase + c.args.ticks % 4) % 4 = omega arith in
    sym (by_decrements c.args.ticks s c.requires ∙ ap (λ (k : ℕ). after k ((s.phase + c.args.ticks) % 4)) none ∙ ap (after 0) p)
