use Rattle.std.proofs.Common.{◌≡◌, ℕ, ◌<◌, false}
use Rattle.loop_bounds.specs.Tree.{place_in}
use Rattle.longest_walk.specs.Built.{step_at}
use Rattle.cert_check.specs.Followed.{is_named}
use Rattle.cert_check.proofs.walk_trace.named_edge.Given as goal

abbrev pub invariant-loop-edge : goal.invariant-loop-edge
invariant-loop-edge l = (k : ℕ) → k < l.edge → is_named (place_in l.graph l.tree l.number) l.line (step_at l.graph.edges k) ≡ false
