use Rattle.std.proofs.Common.{◌∙◌, sym}
use Rattle.image.proofs.GapLemmas.{all_from}
use Rattle.image.proofs.gap_buffer.first_below.Goals as goal

pub returns-else-entry-address : goal.returns-else-entry-address
returns-else-entry-address c = all_from c.args.words.now.items c.args.address c.in-Some.entry (sym c.first.ensures ∙ c.in-Some.is) c.if-entry-address.false c.requires
