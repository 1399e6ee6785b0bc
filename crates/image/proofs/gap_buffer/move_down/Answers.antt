use Rattle.std.proofs.Common.{sym, subst}
use Rattle.image.specs.Inside.{Ascends}
use Rattle.image.proofs.GapLemmas.{Ascends-back}
use Rattle.image.proofs.gap_buffer.move_down.Goals as goal

pub first_below-requires : goal.first_below-requires
first_below-requires c = Ascends-back c.loop-entry.below.items _ (subst Ascends (sym c.loop-entry.invariant.0) c.requires.ascends)
