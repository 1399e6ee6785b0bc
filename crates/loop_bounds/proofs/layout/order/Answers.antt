use Rattle.std.proofs.Common.{◌≡◌, List, length, slice_index, subst, ap, rules, arith}
use Rattle.std.specs.Ordering.{is_lt}
use Rattle.std.proofs.lemmas.Fn.{always_returns_same}
use Rattle.std.proofs.lemmas.List.{get_or_default}
use Rattle.loop_bounds.specs.declared.layout.Keyed.{Keyed}
use Rattle.loop_bounds.specs.Layout.{ArePositions, by_keys, items_of, key_in}
use Rattle.loop_bounds.proofs.LayoutLemmas.{keys_rank, laid_out, positions_more}
use Rattle.loop_bounds.proofs.layout.order.Goals as goal

pub loop-position-init : goal.loop-position-init
loop-position-init c = record { same = ap length c.in_ok-order.ensures.items; each = λ k d lt. absurd (omega arith) }

pub loop-position-preserved : goal.loop-position-preserved
loop-position-preserved c =
    rw c.in_ok-push.ensures.items
    (positions_more c.deref-position-items.result.now c.loop-position.order.items c.loop-position.position-index _ c.loop-position.invariant
    (λ d. ap (λ (x : Keyed). x.position) (get_or_default c.deref-position-items.result.now c.loop-position.position-index _ d c.loop-position-test.true)))

pub returns : goal.returns
returns c =
    let chains = items_of c.args.nesting.now.chains.items in
    let items : c.deref-position-items.result.now ≡ c.sort_unstable_by.new.self.items = c.deref-position-items.ensures.value in
    let ended : c.loop-position.position-index ≡ length c.deref-position-items.result.now = omega arith in
    let all = subst (ArePositions c.deref-position-items.result.now c.loop-position.order.items) ended c.loop-position.invariant in
    let ascending = c.sort_unstable_by.ensures.sorted (λ (j k : Keyed). is_lt (by_keys chains j k)) (keys_rank chains) (always_returns_same _ _ _ (λ a r g called. (let e : r ≡ by_keys chains a.0.now a.1.0.now = search rules in ap is_lt e, search rules))) in
    rw c.in_ok-push-2.ensures.items
    (laid_out (key_in (slice_index c.args.nesting.now.ranks.items) c.args.extents.now) chains c.args.exit c.in_ok-keyed.keyed.items c.sort_unstable_by.new.self.items c.loop-position.order.items c.in_ok-keyed.ensures c.sort_unstable_by.ensures.permutation ascending
    (subst (λ (xs : List Keyed). ArePositions xs c.loop-position.order.items (length xs)) items all))
