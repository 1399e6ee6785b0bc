use Rattle.std.proofs.Common.{◌<◌, List, length, subst, arith}
use Rattle.numbered_walks.specs.declared.span.Span.{Span}
use Rattle.numbered_walks.specs.Index.{span_at}
use Rattle.longest_walk.specs.Ways.{IsRounds}
use Rattle.longest_walk.proofs.RoundLemmas.{header_inside, rounds_inside, rounds_more}
use Rattle.longest_walk.proofs.rounds.all_rounds.Goals as goal

pub rounds_of-requires-clause-rounds : goal.rounds_of-requires-clause-rounds
rounds_of-requires-clause-rounds c =
    let lt : c.loop-span.span-index < length c.args.search.tree.now.spans = subst (λ (l : List Span). c.loop-span.span-index < length l) c.spans-span-items.ensures c.loop-span-test.true in
    rw (c.deref.ensures.value, c.spans-span-items.ensures) (rounds_inside c.args.search.graph.now c.args.search.tree.now c.args.search.index.now c.args.search.tables.now c.requires c.loop-span.span-index c.loop-span.rounds.items lt c.loop-span.invariant)

pub index_mut-requires : goal.index_mut-requires
index_mut-requires c =
    let lt : c.loop-span.span-index < length c.args.search.tree.now.spans = subst (λ (l : List Span). c.loop-span.span-index < length l) c.spans-span-items.ensures c.loop-span-test.true in
    rw c.spans-span-items.ensures (omega (arith, header_inside c.args.search.graph.now c.args.search.tree.now c.args.search.index.now c.args.search.tables.now c.requires c.loop-span.span-index lt, c.loop-span.invariant.whole))

pub loop-span-preserved : goal.loop-span-preserved
loop-span-preserved c =
    let tree = c.args.search.tree.now in
    let lt : c.loop-span.span-index < length tree.spans = subst (λ (l : List Span). c.loop-span.span-index < length l) c.spans-span-items.ensures c.loop-span-test.true in
    let one : IsRounds c.args.search.graph.now tree c.args.search.tables.now (span_at tree.spans c.loop-span.span-index) c.in_ok-rounds-2.field-0 =
    subst (λ (l : List Span). IsRounds c.args.search.graph.now tree c.args.search.tables.now (span_at l c.loop-span.span-index) c.in_ok-rounds-2.field-0) c.spans-span-items.ensures c.in_ok-rounds-2.ensures.rounds in
    rw c.spans-span-items.ensures (rounds_more c.args.search.graph.now tree c.args.search.index.now c.args.search.tables.now c.requires c.loop-span.span-index c.loop-span.rounds.items c.in_ok-rounds-2.field-0 lt c.loop-span.invariant one)
