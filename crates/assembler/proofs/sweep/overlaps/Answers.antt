use Rattle.std.proofs.Common.{◌∙◌}
use Rattle.assembler.proofs.SweepLaws.{any_spans}
use Rattle.assembler.proofs.sweep.overlaps.Goals as goal

pub returns : goal.returns
returns c = c.any_overlaps.ensures ∙ any_spans c.args.closed.now c.args.from c.args.to
