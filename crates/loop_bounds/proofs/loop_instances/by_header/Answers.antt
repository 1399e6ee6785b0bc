use Rattle.std.proofs.Common.{rules}
use Rattle.std.proofs.lemmas.List.Sorted.{IsNonDecreasingBy-from_sort_by_key}
use Rattle.statement.specs.declared.stated.Loop.{Loop}
use Rattle.loop_bounds.proofs.loop_instances.by_header.Goals as goal

pub returns-clause-ascending : goal.returns-clause-ascending
returns-clause-ascending c = IsNonDecreasingBy-from_sort_by_key (λ (l : Loop). l.header) _ c.sort_unstable_by_key.ensures.sorted (λ a r q k. search rules)
