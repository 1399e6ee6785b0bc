use Rattle.std.proofs.Common.{◌≡◌, ◌<◌, ℕ, length, subst, ap, sym, ◌∙◌, arith}
use Rattle.std.proofs.lemmas.List.{length-map}
use Rattle.loop_bounds.specs.Extents.{found_instance}
use Rattle.loop_bounds.specs.Instance.{Instance}
use Rattle.loop_bounds.specs.Nested.{IsNestedView}
use Rattle.numbered_walks.specs.Index.{span_at}
use Rattle.loop_bounds.specs.NestedParts.{AreNestedUpto, Encloses}
use Rattle.loop_bounds.proofs.NestedPlaces.{as_many, members_are, shape}
use Rattle.loop_bounds.proofs.NestedView.{as_many_headers, found_at, nested_more, nested_none, nested_all}
use Rattle.loop_bounds.proofs.tree.LoopTree.nested.Goals as goal

pub loop-k-init : goal.loop-k-init
loop-k-init c = nested_none c.args.graph.now c.args.self.now c.requires _ c.new.ensures.items c.new-2.ensures.items

pub places_of-requires-clause-span : goal.places_of-requires-clause-span
places_of-requires-clause-span c =
    let flow = c.args.graph.now in
    let tree = c.args.self.now in
    let lt : c.loop-k.k < length tree.instances = omega (arith, c.loop-k-test.true, ap length c.spans-span-items.ensures, as_many flow tree c.requires) in
    rw (c.spans-span-items.ensures, c.places.ensures.value) (shape flow tree c.requires c.loop-k.k lt)

pub enclose-requires-clause-same : goal.enclose-requires-clause-same
enclose-requires-clause-same c = as_many_headers c.args.graph.now c.args.self.now c.requires c.loop-k.outermost c.loop-k.k c.loop-k.invariant

pub enclose-requires-clause-ascending : goal.enclose-requires-clause-ascending
enclose-requires-clause-ascending c = ((c.loop-k.invariant).outer).ascending

pub loop-k-preserved : goal.loop-k-preserved
loop-k-preserved c =
    let flow = c.args.graph.now in
    let tree = c.args.self.now in
    let old = c.loop-k.outermost in
    let new = c.enclose.new.self in
    let found = c.instances-instances.result.now in
    let places = c.in_ok-places.places.items in
    let k : ℕ = c.loop-k.k in
    let lt : k < length tree.instances = omega (arith, c.loop-k-test.true, ap length c.spans-span-items.ensures, as_many flow tree c.requires) in
    let found_lt : k < length found = omega (arith, lt, ap length c.instances-instances.ensures, length-map found (found_instance tree.apart)) in
    let is = found_at tree.apart found tree.instances k c.index-instances-k.result c.instances-instances.ensures found_lt c.index-instances-k.is in
    let encloses : Encloses tree.apart old new (span_at tree.spans k).header (found_instance tree.apart c.index-instances-k.result) places = rw c.spans-span-items.ensures at c.in_ok-enclose.ensures tree.apart in
    let those = rw (c.spans-span-items.ensures, c.places.ensures.value, c.order.ensures) at c.in_ok-places.ensures in
    nested_more flow tree c.requires old new k places lt c.loop-k.invariant
    (subst (λ (i : Instance). Encloses tree.apart old new (span_at tree.spans k).header i places) is encloses)
    (those ∙ members_are flow tree c.requires k lt)

pub returns : goal.returns
returns c =
    let flow = c.args.graph.now in
    let tree = c.args.self.now in
    let ended : c.loop-k.k ≡ length tree.instances = omega (arith, ap length c.spans-span-items.ensures, as_many flow tree c.requires) in
    subst (IsNestedView flow tree) (sym c.of.ensures)
    (nested_all flow tree c.requires c.loop-k.outermost (subst (AreNestedUpto flow tree c.loop-k.outermost) ended c.loop-k.invariant))
