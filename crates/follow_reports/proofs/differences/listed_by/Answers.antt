use Rattle.std.proofs.Common.{◌≡◌, ◌∙◌, ap, rules}
use Rattle.std.specs.Prelude.{flat_map}
use Rattle.std.specs.BTreeMap.{get}
use Rattle.std.specs.Ordering.{nat_cmp}
use Rattle.std.proofs.lemmas.Fn.{always_returns_same}
use Rattle.follow_reports.specs.Differences.{compared_in, differences_at, ticks_apart}
use Rattle.follow_reports.specs.declared.differences.Difference.{Difference}
use Rattle.follow_reports.proofs.DifferenceLemmas.{sorted_of}
use Rattle.follow_reports.proofs.differences.listed_by.Goals as goal

pub returns : goal.returns
returns c =
    let compared = compared_in c.args.tallies.run.now c.args.tallies.walk.now in
    let priced = get nat_cmp c.in_ok-prices.prices in
    let found : c.in_ok-list.list.items ≡ flat_map (differences_at compared priced) c.args.handler.now.image.now =
    c.in_ok-list.ensures ∙ ap (flat_map (differences_at compared priced)) (c.deref.ensures.value ∙ c.in_ok-words.ensures.words) in
    record {
      priced = priced;
      are_priced = c.in_ok-prices.ensures;
      are_differences = sorted_of compared priced c.args.handler.now.image.now c.in_ok-list.list.items c.sort_by_key.new.self.items found c.sort_by_key.ensures.permutation
          (c.in_ok-sort_by_key.ensures.sorted (λ (d : Difference). record { 0 = ticks_apart d }) (always_returns_same _ _ _ (λ a r g called. search rules)))
          (c.sort_by_key.ensures.stable (λ (d : Difference). record { 0 = ticks_apart d }) (always_returns_same _ _ _ (λ a r g called. search rules)));
    }
