use Rattle.std.proofs.Common.{ℕ, ◌+◌, ◌<◌, ◌≤◌, [], ◌∷◌, length, slice_index, ap, subst, ◌∙◌, length-append, arith, ◌≡◌}
use Rattle.walks.specs.declared.limits.TheConstants.{MOST_INSTANCES}
use Rattle.loop_bounds.specs.Layout.{items_of}
use Rattle.loop_bounds.proofs.ChainLemmas.{IsLow, chains_more, deep_place, is_chain, items_append, items_length, low_more, shallow}
use Rattle.loop_bounds.proofs.nesting.chains.Goals as goal

pub loop-k-preserved : goal.loop-k-preserved
loop-k-preserved c =
    let extents = c.args.extents.now in
    let k : ℕ = c.loop-k.k in
    let rank = slice_index c.args.ranks.now in
    let chains = items_of c.loop-k.chains.items in
    let chain = is_chain rank extents c.args.parents.now chains k c.in_ok-chain.chain.items c.requires.nested.extents_are c.requires.nested.parents_are
    c.loop-k-test.true c.loop-k.invariant.chains (rw c.deref.ensures.value at c.in_ok-chain.ensures) in
    let low : length c.in_ok-chain.chain.items ≤ MOST_INSTANCES = omega arith in
    rw c.in_ok-push.ensures.items (record {
      same = length-append c.loop-k.chains.items (c.in_ok-chain.chain ∷ []) ∙ ap (λ (n : ℕ). n + 1) c.loop-k.invariant.same;
      chains = rw (items_append c.loop-k.chains.items c.in_ok-chain.chain) (chains_more rank extents chains k c.in_ok-chain.chain.items (items_length c.loop-k.chains.items ∙ c.loop-k.invariant.same) c.loop-k.invariant.chains chain.headers_are);
      low = low_more extents k c.loop-k.invariant.low (omega (arith, chain.depth_is));
    })

pub returns-then-len-gt-MOST_INSTANCES-clause-fault : goal.returns-then-len-gt-MOST_INSTANCES-clause-fault
returns-then-len-gt-MOST_INSTANCES-clause-fault c =
    let extents = c.args.extents.now in
    let k : ℕ = c.loop-k.k in
    let chain = is_chain (slice_index c.args.ranks.now) extents c.args.parents.now (items_of c.loop-k.chains.items) k c.in_ok-chain.chain.items
    c.requires.nested.extents_are c.requires.nested.parents_are c.loop-k-test.true c.loop-k.invariant.chains (rw c.deref.ensures.value at c.in_ok-chain.ensures) in
    let high : MOST_INSTANCES < length c.in_ok-chain.chain.items = omega arith in
    (k, c.loop-k-test.true, deep_place extents k (omega (arith, chain.depth_is)))

pub returns-clause-shallow : goal.returns-clause-shallow
returns-clause-shallow c =
    let ended : c.loop-k.k ≡ length c.args.extents.now = omega arith in
    shallow c.args.extents.now c.requires.nested.extents_are (subst (IsLow c.args.extents.now) ended c.loop-k.invariant.low)
