use Rattle.std.proofs.Common.{IfOk, subst}
use Rattle.std.specs.List.Sorted.{IsStrictlySortedBy}
use Rattle.control_flow.proofs.PlaceLemmas.{by_place}
use Rattle.control_flow.proofs.search.sorted.Goals as goal

pub returns-clause-ordered : goal.returns-clause-ordered
returns-clause-ordered c = subst (λ R. IfOk c.ascending.result (λ places. IsStrictlySortedBy R places.items)) by_place c.ascending.ensures.ordered
