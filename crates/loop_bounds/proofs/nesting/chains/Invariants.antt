use Rattle.std.proofs.Common.{◌≡◌, slice_index, length}
use Rattle.loop_bounds.specs.Layout.{AreChains, items_of}
use Rattle.loop_bounds.proofs.ChainLemmas.{IsLow}
use Rattle.loop_bounds.proofs.nesting.chains.Given as goal

abbrev pub invariant-loop-k : goal.invariant-loop-k
invariant-loop-k l = record {
  same : length l.chains.items ≡ l.k;
  chains : AreChains (slice_index l.ranks) l.extents (items_of l.chains.items) l.k;
  low : IsLow l.extents l.k;
}
