use Rattle.std.proofs.Common.{length}
use Rattle.text_refusals.proofs.nested.Wanted.+add_up_to.Given as goal

abbrev pub decreases-add_up_to : goal.decreases-add_up_to
decreases-add_up_to l = length l.list
