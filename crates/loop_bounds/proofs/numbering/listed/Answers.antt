use Rattle.std.proofs.Common.{◌≡◌, rules, subst, List, ap}
use Rattle.std.specs.Ordering.{is_lt}
use Rattle.std.specs.List.Sorted.{IsPermutation}
use Rattle.std.proofs.lemmas.Fn.{always_returns_same}
use Rattle.control_flow.specs.declared.places.Place.{Place}
use Rattle.loop_bounds.specs.Keys.{by_key}
use Rattle.loop_bounds.proofs.KeyLemmas.{by_key_ranks}
use Rattle.loop_bounds.proofs.numbering.listed.Goals as goal

pub returns : goal.returns
returns c = record {
  moved = subst (λ (xs : List Place). IsPermutation xs c.sort_unstable_by.new.self.items) c.in_ok-listed.ensures.items c.sort_unstable_by.ensures.permutation;
  ascending = c.sort_unstable_by.ensures.sorted (λ (p q : Place). is_lt (by_key c.args.apart.now p q)) (by_key_ranks c.args.apart.now) (always_returns_same _ _ _ (λ a r g called. (let e : r ≡ by_key c.args.apart.now a.0.now a.1.0.now = search rules in ap is_lt e, search rules)));
}
