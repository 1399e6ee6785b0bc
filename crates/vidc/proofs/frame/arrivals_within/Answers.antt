use Rattle.std.proofs.Common.{◌*◌, sym}
use Rattle.vidc.proofs.FrameLemmas.{none_before, none_once_passed, one_within}
use Rattle.vidc.proofs.frame.arrivals_within.Goals as goal

pub returns-then-mark-from : goal.returns-then-mark-from
returns-then-mark-from c = sym (none_once_passed (c.args.ticks * 6) c.args.frame c.args.mark c.args.from c.requires c.if-mark-from.true)

pub returns-then-from-ticks : goal.returns-then-from-ticks
returns-then-from-ticks c = sym (none_before (c.args.ticks * 6) c.args.frame c.args.mark c.args.from c.requires c.if-from-ticks.true)

pub returns : goal.returns
returns c = sym (one_within (c.args.ticks * 6) c.args.frame c.args.mark c.args.from c.requires c.if-mark-from.false c.if-from-ticks.false)
