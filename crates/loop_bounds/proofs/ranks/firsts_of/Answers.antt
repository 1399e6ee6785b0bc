use Rattle.std.proofs.Common.{◌≡◌, ◌+◌, rules, ltb, subst, arith}
use Rattle.std.proofs.lemmas.Bool.{ltb-true, ltb-false}
use Rattle.std.proofs.lemmas.List.Sorted.{IsPartitionPoint-from_clause, IsPartitionedBy-ltb}
use Rattle.numbered_walks.specs.declared.span.NumberedEdge.{NumberedEdge}
use Rattle.loop_bounds.specs.Layout.{AreFirsts}
use Rattle.loop_bounds.proofs.PlainLemmas.{firsts_more, grouped}
use Rattle.loop_bounds.proofs.ranks.firsts_of.Goals as goal

pub loop-node-preserved : goal.loop-node-preserved
loop-node-preserved c =
    let point = IsPartitionPoint-from_clause (λ (e : NumberedEdge). ltb e.from c.loop-node.node-counter) _ _ c.partition_point.ensures.partitioned (IsPartitionedBy-ltb (λ (e : NumberedEdge). e.from) c.args.edges.now c.loop-node.node-counter c.requires.ascending) (λ a r q k. search rules) in
    rw c.in_ok-push.ensures.items
    (firsts_more c.args.edges.now c.loop-node.firsts.items c.loop-node.node-counter c.partition_point.result c.loop-node.invariant c.partition_point.ensures.bound
    (λ k d lt. ltb-true _ _ (point.0 k d (omega arith) lt))
    (λ k d ge lt. ltb-false _ _ (point.1 k d ge lt)))

pub returns-clause-grouped : goal.returns-clause-grouped
returns-clause-grouped c =
    let ended : c.loop-node.node-counter ≡ c.args.exit + 1 = omega arith in
    grouped c.args.edges.now c.loop-node.firsts.items c.args.exit (subst (AreFirsts c.args.edges.now c.loop-node.firsts.items) ended c.loop-node.invariant) c.requires.inside
