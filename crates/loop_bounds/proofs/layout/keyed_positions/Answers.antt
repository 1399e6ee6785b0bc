use Rattle.std.proofs.Common.{◌≡◌, ◌++◌, [], ◌∷◌, ℕ, slice_index, refl, ◌∙◌, arith}
use Rattle.std.proofs.lemmas.List.{get_or_default}
use Rattle.loop_bounds.specs.Layout.{chain_of, headers_in, items_of, key_in}
use Rattle.loop_bounds.proofs.ChainLemmas.{key_at}
use Rattle.loop_bounds.proofs.LayoutLemmas.{keyed_more}
use Rattle.loop_bounds.proofs.layout.keyed_positions.Goals as goal

pub loop-position-preserved : goal.loop-position-preserved
loop-position-preserved c =
    let extents = c.args.extents.now in
    let nesting = c.args.nesting.now in
    let chains = items_of nesting.chains.items in
    let p : ℕ = c.loop-position.position in
    let rank = slice_index nesting.ranks.items in
    let above : chain_of chains c.innermost.result ≡ headers_in rank extents p =
    key_at rank extents nesting.parents.items chains p c.innermost.result c.requires.nested.extents_are c.requires.nested.parents_are c.requires.chains c.innermost.ensures in
    let read : c.index.result.now ≡ rank p = c.index.ensures ∙ get_or_default nesting.ranks.items p c.index.result.now 0 (omega (arith, c.requires.ranks, c.loop-position-test.true)) in
    let is : chain_of chains c.innermost.result ++ c.index.result.now ∷ [] ≡ key_in rank extents p = rw (above, read) refl in
    rw c.in_ok-push.ensures.items (keyed_more (key_in rank extents) chains p c.loop-position.keyed.items _ c.loop-position.invariant is refl)
