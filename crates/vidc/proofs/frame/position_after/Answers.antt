use Rattle.std.proofs.Common.{◌*◌, ◌∙◌, sym}
use Rattle.std.proofs.Math.Nat.{mod-eq_of_lt}
use Rattle.vidc.proofs.FrameLemmas.{position_is}
use Rattle.vidc.proofs.frame.position_after.Goals as goal

pub returns-then-after-frame-clause-position : goal.returns-then-after-frame-clause-position
returns-then-after-frame-clause-position c = sym (position_is (c.args.ticks * 6) c.args.frame c.args.from c.requires ∙ mod-eq_of_lt c.if-after-frame.true)

pub returns-clause-position : goal.returns-clause-position
returns-clause-position c = sym (position_is (c.args.ticks * 6) c.args.frame c.args.from c.requires)
