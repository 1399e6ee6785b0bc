use Rattle.std.proofs.Common.{rules}
use Rattle.std.proofs.lemmas.List.Sorted.{IsNonDecreasingBy-from_sort_by_key}
use Rattle.loop_bounds.specs.declared.loop_instances.LoopInstance.{LoopInstance}
use Rattle.loop_bounds.specs.Extents.{found_instance}
use Rattle.text_refusals.specs.Nested.{others}
use Rattle.text_refusals.proofs.nested.put_in_order.Goals as goal

pub returns-clause-ordered : goal.returns-clause-ordered
returns-clause-ordered c = IsNonDecreasingBy-from_sort_by_key (λ (f : LoopInstance). others c.args.graph.now (found_instance c.args.apart.now f)) _ c.sort_unstable_by_key.ensures.sorted (λ a r q k. search rules)
