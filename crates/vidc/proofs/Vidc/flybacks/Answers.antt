use Rattle.std.proofs.Common.{◌≡◌, ◌+◌, ◌*◌, ◌<◌, ◌∙◌, ℕ, ap, subst, sym, arith}
use Rattle.std.proofs.Math.Nat.{mul-lt-mul_of_pos_left}
use Rattle.vidc.specs.Video.{frame}
use Rattle.vidc.specs.contracts.Vidc.{the_view}
use Rattle.vidc.proofs.VideoLemmas.{never}
use Rattle.vidc.proofs.Vidc.flybacks.Goals as goal

pub returns-then-self-clause-flybacks : goal.returns-then-self-clause-flybacks
returns-then-self-clause-flybacks c =
    let t = c.self.inside.timing in
    let size : t.frame ≡ frame (the_view c.self.inside) = t.frame_is ∙ ap (λ (r : ℕ). r * (t.vertical_cycle + 1)) t.raster_is in
    rw (← c.self.view_is) (sym (never c.args.ticks (the_view c.self.inside) (subst (λ (n : ℕ). c.self.inside.position < n) size c.self.invariant) c.if-self.true))

pub arrivals-requires-clause-mark : goal.arrivals-requires-clause-mark
arrivals-requires-clause-mark c =
    let t = c.self.inside.timing in
    let later : t.display_end + 1 < t.vertical_cycle + 1 = omega arith in
    let some : 0 < t.raster = omega (arith, t.some) in
    rw (t.flyback_is, t.frame_is) (mul-lt-mul_of_pos_left later some)
