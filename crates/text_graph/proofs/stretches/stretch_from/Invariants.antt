use Rattle.std.proofs.Common.{◌≡◌, ◌-◌, ◌<◌, ◌++◌, length}
use Rattle.text_graph.specs.Chains.{chain}
use Rattle.text_graph.specs.Stretches.{end_of, leads_on, stretch_from}
use Rattle.text_graph.proofs.stretches.stretch_from.Given as goal

abbrev pub invariant-loop : goal.invariant-loop
invariant-loop l = record {
  last : l.end ≡ length l.drawn.graph.now.places;
  inside : l.number < length l.drawn.graph.now.places;
  same : l.numbers.items ++ chain (leads_on l.drawn.graph.now l.drawn.tree.now) (end_of l.drawn.graph.now l.drawn.tree.now) (l.end - l.counter) l.number
      ≡ stretch_from l.drawn.graph.now l.drawn.tree.now l.first;
}
