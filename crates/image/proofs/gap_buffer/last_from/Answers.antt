use Rattle.std.proofs.Common.{◌∙◌, sym}
use Rattle.image.proofs.GapLemmas.{all_below, last_not_below}
use Rattle.image.proofs.gap_buffer.last_from.Goals as goal

pub returns-then-is_below : goal.returns-then-is_below
returns-then-is_below c = all_below c.args.words.now c.args.address c.last-last.result c.last-last.ensures (sym c.is_below.ensures ∙ c.if-is_below.true) c.requires

pub returns-else-is_below : goal.returns-else-is_below
returns-else-is_below c = last_not_below c.args.words.now c.args.address c.last-last.result c.last-last.ensures (sym c.is_below.ensures ∙ c.if-is_below.false)
