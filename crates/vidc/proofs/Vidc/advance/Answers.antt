use Rattle.std.proofs.Common.{◌≤◌, ◌*◌, ◌∙◌, arith}
use Rattle.std.proofs.Math.Nat.{mul-le-mul_left}
use Rattle.vidc.proofs.FrameLemmas.{arrivals_none}
use Rattle.vidc.proofs.Vidc.advance.Goals as goal

pub returns-clause-never : goal.returns-clause-never
returns-clause-never c =
    let t = c.self.inside.timing in
    let later : t.vertical_cycle ≤ t.display_end → t.frame ≤ t.flyback =
    λ past. rw (t.frame_is, t.flyback_is) (mul-le-mul_left t.raster (omega (arith, past))) in
    rw (← c.self.view_is) (λ past. c.arrivals_within.ensures ∙ arrivals_none (c.args.ticks * 6) t.frame t.flyback c.self.inside.position c.self.invariant (later past))
