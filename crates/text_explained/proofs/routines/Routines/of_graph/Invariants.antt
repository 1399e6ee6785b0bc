use Rattle.std.proofs.Common.{◌≡◌, ℕ, take}
use Rattle.std.specs.List.{list_any}
use Rattle.text_explained.specs.PartSums.{in_group}
use Rattle.text_explained.specs.Sums.{calls_from}
use Rattle.text_explained.proofs.routines.Routines.of_graph.Given as goal

abbrev pub invariant-loop-edge : goal.invariant-loop-edge
invariant-loop-edge l = (site n : ℕ) → in_group l.routines.called_by.by_key site n ≡ list_any (calls_from n site) (take l.edge-index l.edge-items)
