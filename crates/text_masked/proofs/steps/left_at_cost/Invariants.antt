use Rattle.std.proofs.Common.{◌≡◌, true}
use Rattle.std.specs.BTreeSet.{contains}
use Rattle.std.specs.Ordering.{nat_cmp}
use Rattle.text_masked.specs.Steps.{costs_at}
use Rattle.text_masked.proofs.NoteLemmas.{AreNoted}
use Rattle.text_masked.proofs.steps.left_at_cost.Given as goal

abbrev pub invariant-loop-edge : goal.invariant-loop-edge
invariant-loop-edge l = AreNoted (λ a e. costs_at l.ticks a e ≡ true) l.edges (contains nat_cmp l.left) l.edge-index
