use Rattle.std.proofs.Common.{ap, map, rules, ◌∙◌}
use Rattle.std.proofs.lemmas.List.{take_all}
use Rattle.std.proofs.lemmas.List.Sorted.{IsNonDecreasingBy-from_sort_by_key}
use Rattle.statement.proofs.ApartLemmas.{pair_of, sorted_from}
use Rattle.statement.proofs.apart.sorted.Goals as goal

pub returns : goal.returns
returns c =
    sorted_from c.args.stretches.now c.loop-stretch.reaches.items c.sort_unstable_by_key.new.self.items
    (c.loop-stretch.invariant ∙ ap (map pair_of) (take_all c.loop-stretch.stretch-index c.args.stretches.now c.loop-stretch-test.false))
    c.sort_unstable_by_key.ensures.permutation
    (IsNonDecreasingBy-from_sort_by_key (λ r. r.0) _ c.sort_unstable_by_key.ensures.sorted (λ a r q k. search rules))
