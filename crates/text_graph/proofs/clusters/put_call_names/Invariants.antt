use Rattle.std.proofs.Common.{◌≡◌, ◌++◌, codes, drop, flat_map}
use Rattle.asm_text.specs.Hex.{hex8}
use Rattle.text_graph.specs.Clusters.{call_names}
use Rattle.text_graph.proofs.clusters.put_call_names.Given as goal

abbrev pub invariant-loop-address : goal.invariant-loop-address
invariant-loop-address l = l.out.items ++ flat_map (λ a. codes "_" ++ hex8 a) (drop l.address-index l.calls) ≡ l.initial.out.items ++ call_names l.calls
