use Rattle.std.proofs.Common.{sym, subst}
use Rattle.image.specs.Inside.{Ascends}
use Rattle.image.proofs.GapLemmas.{Ascends-front}
use Rattle.image.proofs.gap_buffer.move_up.Goals as goal

pub last_from-requires : goal.last_from-requires
last_from-requires c = rw c.deref.ensures.value (Ascends-front _ c.loop-entry.above.items (subst Ascends (sym c.loop-entry.invariant) c.requires))
