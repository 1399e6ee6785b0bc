use Rattle.std.proofs.Common.{◌<◌, ◌+◌, ◌*◌, ◌/◌, sym, ap, ◌∙◌, ℕ, arith}
use Rattle.std.proofs.lemmas.Nat.{div_below}
use Rattle.vidc.proofs.FrameLemmas.{arrivals_are, since}
use Rattle.vidc.proofs.frame.arrivals.Goals as goal

pub returns-then-reached-frame : goal.returns-then-reached-frame
returns-then-reached-frame c =
    let low : since c.args.frame c.args.mark c.args.from + c.args.ticks * 6 < 1 * c.args.frame = omega (arith, c.since.ensures.since, c.if-reached-frame.true) in
    omega (arith, div_below (since c.args.frame c.args.mark c.args.from + c.args.ticks * 6) c.args.frame 1 (omega arith) low, arrivals_are (c.args.ticks * 6) c.args.frame c.args.mark c.args.from c.requires.from c.requires.mark)

pub returns : goal.returns
returns c = ap (λ (x : ℕ). (x + c.args.ticks * 6) / c.args.frame) c.since.ensures.since ∙ sym (arrivals_are (c.args.ticks * 6) c.args.frame c.args.mark c.args.from c.requires.from c.requires.mark)
