use Rattle.std.proofs.Common.{◌≡◌, ◌<◌, ℕ, false, get_or, length}
use Rattle.text_graph.specs.Chains as chains
use Rattle.text_graph.specs.Stretches.{end_of, leads_on}
use Rattle.text_graph.proofs.stretches.begins.Given as goal

abbrev pub invariant-loop-number : goal.invariant-loop-number
invariant-loop-number l = record {
  whole : length l.begins.items ≡ length l.drawn.graph.now.places;
  each : (n : ℕ) → n < length l.drawn.graph.now.places → get_or l.begins.items n false ≡ chains.begins (leads_on l.drawn.graph.now l.drawn.tree.now) (end_of l.drawn.graph.now l.drawn.tree.now) l.number n;
}
