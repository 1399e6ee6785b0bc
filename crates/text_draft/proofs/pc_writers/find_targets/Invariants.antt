use Rattle.std.specs.Prelude.{All}
use Rattle.text_draft.proofs.Picked.{SoFar}
use Rattle.text_draft.specs.Found.{addresses_of}
use Rattle.text_draft.specs.Targets.{IsTarget, WritesPc}
use Rattle.text_draft.proofs.pc_writers.find_targets.Given as goal

abbrev pub invariant-loop-at : goal.invariant-loop-at
invariant-loop-at l = record {
  so_far : SoFar (WritesPc l.image) l.addresses l.at-index (addresses_of l.found.items);
  shown : All (IsTarget l.image l.addresses) l.found.items;
}
