use Rattle.std.proofs.Common.{rules}
use Rattle.std.proofs.lemmas.Fn.{always_returns_same}
use Rattle.text_refusals.specs.declared.source_faults.FaultyLine.{FaultyLine}
use Rattle.text_refusals.proofs.source_faults.faulty_lines.Goals as goal

pub returns : goal.returns
returns c = record {
  found = c.in_ok-lines.lines.items;
  are_faults = c.in_ok-lines.ensures;
  same = c.sort_by_key.ensures.permutation;
  ordered = c.in_ok-sort_by_key.ensures.sorted (λ (line : FaultyLine). line.number) (always_returns_same _ _ _ (λ a r g called. search rules));
  stable = c.sort_by_key.ensures.stable (λ (line : FaultyLine). line.number) (always_returns_same _ _ _ (λ a r g called. search rules));
}
