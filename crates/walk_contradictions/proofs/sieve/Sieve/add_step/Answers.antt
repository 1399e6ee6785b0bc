use Rattle.std.proofs.Common.{refl}
use Rattle.walk_contradictions.proofs.SieveLemmas.{idle_sifts, step_sifts}
use Rattle.walk_contradictions.proofs.sieve.Sieve.add_step.Goals as goal

pub returns-then-is_idle : goal.returns-then-is_idle
returns-then-is_idle c =
    idle_sifts c.args.image.now c.args.edge.now c.args.self.now
    (c.is_idle.ensures c.if-is_idle.true c.args.image.now c.args.edge.now c.told_at-telling.ensures)

pub returns : goal.returns
returns c =
    step_sifts c.args.image.now c.args.edge.now c.args.self.now _ c.is_possible.result c.in_ok-push.ensures.items refl
    (λ yes. c.is_possible.ensures yes c.args.image.now c.args.edge.now c.told_at-telling.ensures)
