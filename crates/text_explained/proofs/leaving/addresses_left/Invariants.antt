use Rattle.std.specs.BTreeSet.{contains}
use Rattle.std.specs.Ordering.{nat_cmp}
use Rattle.text_explained.specs.Leaving.{leaves_on}
use Rattle.text_explained.proofs.AnyLaws.{AnswerFront}
use Rattle.text_explained.proofs.leaving.addresses_left.Given as goal

abbrev pub invariant-loop-edge : goal.invariant-loop-edge
invariant-loop-edge l = AnswerFront (leaves_on l.kind) l.edge-items (contains nat_cmp l.left) l.edge-index
