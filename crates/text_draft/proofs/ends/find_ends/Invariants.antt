use Rattle.std.specs.Map.{keys_of}
use Rattle.std.specs.Prelude.{All}
use Rattle.text_draft.specs.Ends.{Ends, IsEnd}
use Rattle.text_draft.proofs.Picked.{SoFar}
use Rattle.text_draft.proofs.ends.find_ends.Given as goal

abbrev pub invariant-loop-at : goal.invariant-loop-at
invariant-loop-at l = record {
  so_far : SoFar (Ends l.image) l.addresses l.at-index (keys_of l.found.items);
  why : All (λ e. IsEnd l.image e.0 e.1) l.found.items;
}
