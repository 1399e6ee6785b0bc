use Rattle.std.proofs.Common.{◌≡◌, List, length, map, slice_index, subst, sym, ◌∙◌}
use Rattle.std.specs.Prelude.{Contains, ◌↔◌}
use Rattle.statement.specs.declared.apart.ApartStretch.{ApartStretch}
use Rattle.loop_bounds.specs.Extents.{found_instance}
use Rattle.loop_bounds.specs.Instance.{Instance}
use Rattle.loop_bounds.specs.Tree.{IsTree, Tree}
use Rattle.loop_bounds.specs.Layout.{AreMoved, AreNumbers, AreParted, ArePlaced, AreShown, IsLaidOut, key_in}
use Rattle.loop_bounds.proofs.WholeTree.{edges_inside, ends_inside, extents_some, headers_inside, instances_named, pairs_named, tree_instances, whole_tree}
use Rattle.loop_bounds.proofs.tree.laid_out.Goals as goal

pub spans-requires-clause-some : goal.spans-requires-clause-some
spans-requires-clause-some c = rw c.deref-3.ensures.value (extents_some c.args.graph.now c.args.loops.now c.args.positions.now c.requires.positions)

pub spans-requires-clause-inside : goal.spans-requires-clause-inside
spans-requires-clause-inside c =
    let laid : IsLaidOut (key_in (slice_index c.args.nesting.now.ranks.items) c.args.positions.now.extents.items) (length c.args.graph.now.places) c.in_ok-order.order.items = rw (c.deref.ensures.value, c.places-places.ensures.value) at c.in_ok-order.ensures in
    let numbered : AreNumbers c.in_ok-order.order.items c.in_ok-numbers.numbers.items (length c.in_ok-order.order.items) = rw c.deref-2.ensures.value at c.in_ok-numbers.ensures in
    rw (c.deref-3.ensures.value, c.deref-5.ensures.value) (ends_inside c.args.graph.now c.args.loops.now c.args.positions.now c.places-places.ensures.well_formed c.requires.positions c.in_ok-numbers.numbers.items (numbered.whole ∙ laid.whole))

pub spans-requires-clause-headers : goal.spans-requires-clause-headers
spans-requires-clause-headers c =
    let laid : IsLaidOut (key_in (slice_index c.args.nesting.now.ranks.items) c.args.positions.now.extents.items) (length c.args.graph.now.places) c.in_ok-order.order.items = rw (c.deref.ensures.value, c.places-places.ensures.value) at c.in_ok-order.ensures in
    let numbered : AreNumbers c.in_ok-order.order.items c.in_ok-numbers.numbers.items (length c.in_ok-order.order.items) = rw c.deref-2.ensures.value at c.in_ok-numbers.ensures in
    rw (c.deref-3.ensures.value, c.deref-5.ensures.value) (headers_inside c.args.graph.now c.args.loops.now c.args.positions.now c.places-places.ensures.well_formed c.requires.positions c.in_ok-numbers.numbers.items (numbered.whole ∙ laid.whole))

pub spans-requires-clause-named : goal.spans-requires-clause-named
spans-requires-clause-named c =
    let laid : IsLaidOut (key_in (slice_index c.args.nesting.now.ranks.items) c.args.positions.now.extents.items) (length c.args.graph.now.places) c.in_ok-order.order.items = rw (c.deref.ensures.value, c.places-places.ensures.value) at c.in_ok-order.ensures in
    let numbered : AreNumbers c.in_ok-order.order.items c.in_ok-numbers.numbers.items (length c.in_ok-order.order.items) = rw c.deref-2.ensures.value at c.in_ok-numbers.ensures in
    rw (c.deref-3.ensures.value, c.deref-4.ensures.value) (instances_named c.args.graph.now c.args.loops.now c.args.positions.now c.places-places.ensures.well_formed c.requires.positions c.in_ok-numbers.numbers.items (numbered.whole ∙ laid.whole))

pub in_closing_order-requires : goal.in_closing_order-requires
in_closing_order-requires c =
    let laid : IsLaidOut (key_in (slice_index c.args.nesting.now.ranks.items) c.args.positions.now.extents.items) (length c.args.graph.now.places) c.in_ok-order.order.items = rw (c.deref.ensures.value, c.places-places.ensures.value) at c.in_ok-order.ensures in
    let numbered : AreNumbers c.in_ok-order.order.items c.in_ok-numbers.numbers.items (length c.in_ok-order.order.items) = rw c.deref-2.ensures.value at c.in_ok-numbers.ensures in
    let shown : AreShown c.in_ok-numbers.numbers.items c.args.positions.now.found.items c.args.positions.now.extents.items c.in_ok-closing.closing.items = rw (c.deref-3.ensures.value, c.deref-4.ensures.value, c.deref-5.ensures.value) at c.in_ok-closing.ensures in
    rw (c.deref-6.ensures.value, c.deref-7.ensures.value) (pairs_named c.in_ok-numbers.numbers.items c.args.positions.now.found.items c.args.positions.now.extents.items c.in_ok-closing.closing.items shown
    (instances_named c.args.graph.now c.args.loops.now c.args.positions.now c.places-places.ensures.well_formed c.requires.positions c.in_ok-numbers.numbers.items (numbered.whole ∙ laid.whole)))

pub renumbered-requires : goal.renumbered-requires
renumbered-requires c =
    let laid : IsLaidOut (key_in (slice_index c.args.nesting.now.ranks.items) c.args.positions.now.extents.items) (length c.args.graph.now.places) c.in_ok-order.order.items = rw (c.deref.ensures.value, c.places-places.ensures.value) at c.in_ok-order.ensures in
    let numbered : AreNumbers c.in_ok-order.order.items c.in_ok-numbers.numbers.items (length c.in_ok-order.order.items) = rw c.deref-2.ensures.value at c.in_ok-numbers.ensures in
    rw (c.deref-10.ensures.value, c.deref-11.ensures.value) (edges_inside c.args.graph.now c.args.loops.now c.args.positions.now c.places-places.ensures.well_formed c.requires.positions c.in_ok-numbers.numbers.items (numbered.whole ∙ laid.whole))

pub returns : goal.returns
returns c =
    let laid : IsLaidOut (key_in (slice_index c.args.nesting.now.ranks.items) c.args.positions.now.extents.items) (length c.args.graph.now.places) c.in_ok-order.order.items = rw (c.deref.ensures.value, c.places-places.ensures.value) at c.in_ok-order.ensures in
    let numbered : AreNumbers c.in_ok-order.order.items c.in_ok-numbers.numbers.items (length c.in_ok-order.order.items) = rw c.deref-2.ensures.value at c.in_ok-numbers.ensures in
    let shown : AreShown c.in_ok-numbers.numbers.items c.args.positions.now.found.items c.args.positions.now.extents.items c.in_ok-closing.closing.items = rw (c.deref-3.ensures.value, c.deref-4.ensures.value, c.deref-5.ensures.value) at c.in_ok-closing.ensures in
    let parted : AreParted c.args.positions.now.found.items c.in_ok-closing.closing.items c.in_ok-instances.instances.items c.in_ok-instances.spans.items (length c.in_ok-closing.closing.items) = rw (c.deref-6.ensures.value, c.deref-7.ensures.value) at c.in_ok-instances.ensures in
    let placed : ArePlaced c.args.graph.now.places c.args.positions.now.listed.items c.in_ok-order.order.items c.in_ok-indexes.field-0.items = rw (c.places-places.ensures.value, c.deref-8.ensures.value, c.deref-9.ensures.value) at c.in_ok-indexes.ensures in
    let moves : AreMoved c.in_ok-numbers.numbers.items c.args.positions.now.edges.items c.in_ok-renumbered.field-0.items (length c.args.positions.now.edges.items) = rw (c.deref-10.ensures.value, c.deref-11.ensures.value) at c.in_ok-renumbered.ensures in
    let apart : c.in_ok-from_slice.field-0.items ≡ c.args.loops.now.apart = c.in_ok-from_slice.ensures.items ∙ c.stretches.ensures ∙ c.apart.ensures in
    let tree : List ApartStretch → Tree = λ words. record {
      instances = map (found_instance words) c.in_ok-instances.instances.items;
      spans = c.in_ok-instances.spans.items;
      order = c.in_ok-indexes.field-0.items;
      edges = c.in_ok-renumbered.field-0.items;
      apart = words;
    } in
    record {
      apart = apart;
      tree = subst (λ words. IsTree c.args.graph.now (tree words)) (sym apart)
          (whole_tree c.args.graph.now c.args.loops.now c.args.positions.now c.places-places.ensures.well_formed c.requires.positions c.args.nesting.now c.requires.nesting c.in_ok-order.order.items c.in_ok-numbers.numbers.items laid numbered c.in_ok-closing.closing.items shown c.in_ok-instances.instances.items c.in_ok-instances.spans.items parted c.in_ok-indexes.field-0.items placed c.in_ok-renumbered.field-0.items moves);
      instances = subst (λ words. (i : Instance) → Contains (map (found_instance words) c.in_ok-instances.instances.items) i ↔ Contains (map (found_instance c.args.loops.now.apart) c.args.positions.now.found.items) i) (sym apart)
          (tree_instances c.args.graph.now c.args.loops.now c.args.positions.now c.places-places.ensures.well_formed c.requires.positions c.args.nesting.now c.requires.nesting c.in_ok-order.order.items c.in_ok-numbers.numbers.items laid numbered c.in_ok-closing.closing.items shown c.in_ok-instances.instances.items c.in_ok-instances.spans.items parted c.in_ok-indexes.field-0.items placed c.in_ok-renumbered.field-0.items moves);
    }
