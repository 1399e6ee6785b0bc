use Rattle.std.proofs.Common.{◌≡◌, drop}
use Rattle.std.specs.List.{list_all}
use Rattle.numbered_walks.specs.Ordered.{is_in}
use Rattle.text_graph.proofs.stretches.all_hold.Given as goal

abbrev pub invariant-loop-span : goal.invariant-loop-span
invariant-loop-span l = list_all (λ s. is_in s l.number) (drop l.span-index l.loops) ≡ list_all (λ s. is_in s l.number) l.loops
