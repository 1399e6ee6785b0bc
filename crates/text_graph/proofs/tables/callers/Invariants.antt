use Rattle.std.proofs.Common.{◌≡◌, ℕ, take}
use Rattle.std.specs.BTreeMap.{get}
use Rattle.std.specs.Ordering.{nat_cmp}
use Rattle.text_graph.proofs.CallerLaws.{made}
use Rattle.text_graph.proofs.tables.callers.Given as goal

abbrev pub invariant-loop-edge : goal.invariant-loop-edge
invariant-loop-edge l = (n : ℕ) → get nat_cmp l.callers n ≡ made l.graph l.tree (take l.edge-index l.edge-items) n
