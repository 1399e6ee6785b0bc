use Rattle.cert_check.specs.Walking.{CanFollow}
use Rattle.cert_check.proofs.FrontLemmas.{Fronts}
use Rattle.cert_check.proofs.failing_walk.first_not_followed.Given as goal

abbrev pub invariant-loop-number : goal.invariant-loop-number
invariant-loop-number l = record {
  can : CanFollow l.indexed.graph.now l.indexed.tree.now l.indexed.index.now l.within l.walker;
  front : Fronts l.indexed.graph.now l.indexed.tree.now l.indexed.index.now l.within 16 l.items l.number l.initial.walker l.walker;
}
