use Rattle.std.proofs.Common.{◌∙◌, ℕ, Some, sym, subst, ap}
use Rattle.std.specs.Int.{div_ceil}
use Rattle.text_explained.specs.Bursts.{AreFewest}
use Rattle.text_explained.proofs.BurstLaws.{fewest}
use Rattle.text_explained.proofs.bursts.PricedBound.fewest.Goals as goal

pub returns : goal.returns
returns c =
    let price = c.args.self.burst in
    let bound = c.args.self.ticks in
    subst (λ (n : ℕ). AreFewest price bound c.args.every (Some n))
    (sym (c.div_ceil.ensures ∙ ap (div_ceil bound) c.from.ensures))
    (fewest price bound c.args.every c.if-every-self.false)
