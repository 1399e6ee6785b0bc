use Rattle.std.proofs.Common.{rules}
use Rattle.std.proofs.lemmas.Fn.{always_returns_same}
use Rattle.text_savings.specs.declared.saving.Saving.{Saving}
use Rattle.text_savings.proofs.saving.savings.Goals as goal

pub returns : goal.returns
returns c = record {
  found = c.in_ok-list.list.items;
  are_found = c.in_ok-list.ensures;
  same = c.sort_by_key.ensures.permutation;
  ordered = c.in_ok-sort_by_key.ensures.sorted (λ (s : Saving). record { 0 = s.ticks }) (always_returns_same _ _ _ (λ a r g called. search rules));
  stable = c.sort_by_key.ensures.stable (λ (s : Saving). record { 0 = s.ticks }) (always_returns_same _ _ _ (λ a r g called. search rules));
}
