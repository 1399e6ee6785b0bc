use Rattle.std.specs.BTreeSet.{contains}
use Rattle.std.specs.Ordering.{nat_cmp}
use Rattle.text_explained.specs.Taken.{is_at}
use Rattle.text_explained.proofs.AnyLaws.{AnswerFront}
use Rattle.text_explained.proofs.leaving.addresses_reached.Given as goal

abbrev pub invariant-loop-place : goal.invariant-loop-place
invariant-loop-place l = AnswerFront is_at l.place-items (contains nat_cmp l.reached) l.place-index
