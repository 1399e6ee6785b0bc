use Rattle.std.proofs.Common.{◌≡◌, ◌∙◌, ℕ, ◌+◌, ◌-◌, ◌<◌, Some, arith, refl, subst, sym}
use Rattle.std.specs.Int.{div_ceil}
use Rattle.bus_ticks.specs.Worst.{fiq_entry}
use Rattle.handlers.specs.Visits.{AreFewestVisits}
use Rattle.handlers.proofs.FewestLemmas.{fewest}
use Rattle.handlers.proofs.visited_bound.VisitedBound.fewest_visits.Goals as goal

pub returns : goal.returns
returns c =
    let profile = c.args.profile.now in
    let bound = c.args.self in
    let visit = bound.fiq + fiq_entry profile in
    let left = c.args.every - visit in
    let often : visit < c.args.every =
    omega (arith, c.if-every-visit.false, c.from-every.ensures, c.visit-visit.ensures) in
    let same : div_ceil (c.from.result + c.from-2.result)
    (c.from-every.result - c.visit-visit.result) ≡ div_ceil (bound.irq + c.args.waited) left =
    λ i. div_ceil (c.from.ensures i + c.from-2.ensures i)
    (c.from-every.ensures i - c.visit-visit.ensures i) in
    subst (λ (n : ℕ). AreFewestVisits profile bound.irq bound.fiq c.args.every c.args.waited (Some n))
    (sym (c.div_ceil.ensures ∙ same))
    (fewest profile bound.irq bound.fiq c.args.waited c.args.every left often refl)
