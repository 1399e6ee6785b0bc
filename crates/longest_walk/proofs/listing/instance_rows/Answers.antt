use Rattle.std.proofs.Common.{◌≡◌, ◌∙◌, ◌+◌, ◌≤◌, List, length, get_or, ap, sym, rules, arith}
use Rattle.std.specs.Ordering.{is_lt}
use Rattle.std.specs.List.Sorted.{IsSortedByKey}
use Rattle.std.proofs.lemmas.List.{get_or_default, length-map}
use Rattle.std.proofs.lemmas.List.Sorted.{answers_always}
use Rattle.control_flow.specs.Places.{place_cmp}
use Rattle.numbered_walks.specs.declared.span.Span.{Span}
use Rattle.numbered_walks.specs.Index.{span_at}
use Rattle.loop_bounds.specs.Extents.{found_instance}
use Rattle.longest_walk.specs.Rows.{header_of_row}
use Rattle.longest_walk.proofs.RowLemmas.{instance_at, instance_inside, instance_rows_all, instance_rows_more}
use Rattle.longest_walk.proofs.listing.instance_rows.Goals as goal

pub instance_row-requires-clause-arrivals : goal.instance_row-requires-clause-arrivals
instance_row-requires-clause-arrivals c =
    let inside = instance_inside c.args.graph.now c.args.tree.now c.requires.tree c.instances-found.result.now c.instances-found.ensures c.loop-index.index c.loop-index-test.true in
    rw c.spans-spans.ensures (omega (arith, inside.2, c.requires.room.arrivals))

pub instance_row-requires-clause-rounds : goal.instance_row-requires-clause-rounds
instance_row-requires-clause-rounds c =
    let inside = instance_inside c.args.graph.now c.args.tree.now c.requires.tree c.instances-found.result.now c.instances-found.ensures c.loop-index.index c.loop-index-test.true in
    rw c.spans-spans.ensures (omega (arith, inside.2, c.requires.room.rounds))

pub loop-index-preserved : goal.loop-index-preserved
loop-index-preserved c =
    let tree = c.args.tree.now in
    let i = c.loop-index.index in
    let f = c.index-found-index.result in
    let s : Span = span_at c.spans-spans.result.now i in
    let inside = instance_inside c.args.graph.now tree c.requires.tree c.instances-found.result.now c.instances-found.ensures i c.loop-index-test.true in
    let span : s ≡ get_or tree.spans i s = ap (λ (l : List Span). span_at l i) c.spans-spans.ensures ∙ get_or_default tree.spans i _ s inside.1 in
    rw c.in_ok-push.ensures.items
    (instance_rows_more tree c.args.tables.now i c.loop-index.rows.items c.instance_row.result (found_instance tree.apart f) s inside.0 inside.1 c.loop-index.invariant
    (instance_at tree c.instances-found.result.now f i c.instances-found.ensures c.loop-index-test.true c.index-found-index.is) span
    c.instance_row.ensures.header c.instance_row.ensures.arrival c.instance_row.ensures.round)

pub returns : goal.returns
returns c =
    let sorted = c.sort_unstable_by_key.new.self.items in
    let ended : length c.args.tree.now.instances ≤ c.loop-index.index = omega (arith, ap length c.instances-found.ensures, length-map c.instances-found.result.now (found_instance c.args.tree.now.apart), c.loop-index-test.false) in
    let raw = c.sort_unstable_by_key.ensures.sorted header_of_row (answers_always _ _ _ (λ f a r g called. search rules)) in
    let up : IsSortedByKey header_of_row place_cmp sorted = λ k d low high. ap is_lt (sym (c.order_of_places.ensures (header_of_row (get_or sorted (k + 1) d)) (header_of_row (get_or sorted k d)))) ∙ raw k d low high in
    rw c.of.ensures (instance_rows_all c.args.graph.now c.args.tree.now c.args.tables.now c.requires.tree c.loop-index.index c.loop-index.rows.items sorted ended c.loop-index.invariant c.sort_unstable_by_key.ensures.permutation up)
