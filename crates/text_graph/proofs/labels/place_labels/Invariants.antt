use Rattle.std.proofs.Common.{take}
use Rattle.text_graph.specs.Labels.{AreLabels}
use Rattle.text_graph.proofs.labels.place_labels.Given as goal

abbrev pub invariant-loop-place : goal.invariant-loop-place
invariant-loop-place l = AreLabels l.source (take l.place-index l.graph.places) l.labels.items
