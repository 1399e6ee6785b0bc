use Rattle.std.proofs.Common.{ltb, leb, rules, arith}
use Rattle.std.proofs.lemmas.Bool.{ltb-true, ltb-false, leb-true, leb-false}
use Rattle.std.proofs.lemmas.List.Sorted.{IsPartitionPoint-from_clause, IsPartitionedBy-ltb, IsPartitionedBy-leb}
use Rattle.statement.specs.declared.stated.Loop.{Loop}
use Rattle.loop_bounds.proofs.FindLemmas.{at_header, at_most_one, first_upto_end}
use Rattle.loop_bounds.proofs.loop_instances.loops_at.Goals as goal

pub slice_bounds-result-count : goal.slice_bounds-result-count
slice_bounds-result-count c =
    let first = IsPartitionPoint-from_clause (λ (l : Loop). ltb l.header c.args.header) _ _ c.partition_point-first.ensures.partitioned (IsPartitionedBy-ltb (λ (l : Loop). l.header) c.args.sorted.now c.args.header c.requires) (λ a r q k. search rules) in
    let end = IsPartitionPoint-from_clause (λ (l : Loop). leb l.header c.args.header) _ _ c.partition_point-end.ensures.partitioned (IsPartitionedBy-leb (λ (l : Loop). l.header) c.args.sorted.now c.args.header c.requires) (λ a r q k. search rules) in
    first_upto_end c.args.sorted.now c.args.header c.partition_point-first.result c.partition_point-end.result c.partition_point-first.ensures.bound
    (λ k d lt. ltb-true _ _ (first.0 k d (omega arith) lt))
    (λ k d ge lt. leb-false _ _ (end.1 k d ge lt))

pub slice_bounds-result-start : goal.slice_bounds-result-start
slice_bounds-result-start c =
    let first = IsPartitionPoint-from_clause (λ (l : Loop). ltb l.header c.args.header) _ _ c.partition_point-first.ensures.partitioned (IsPartitionedBy-ltb (λ (l : Loop). l.header) c.args.sorted.now c.args.header c.requires) (λ a r q k. search rules) in
    let end = IsPartitionPoint-from_clause (λ (l : Loop). leb l.header c.args.header) _ _ c.partition_point-end.ensures.partitioned (IsPartitionedBy-leb (λ (l : Loop). l.header) c.args.sorted.now c.args.header c.requires) (λ a r q k. search rules) in
    first_upto_end c.args.sorted.now c.args.header c.partition_point-first.result c.partition_point-end.result c.partition_point-first.ensures.bound
    (λ k d lt. ltb-true _ _ (first.0 k d (omega arith) lt))
    (λ k d ge lt. leb-false _ _ (end.1 k d ge lt))

pub returns-clause-exact : goal.returns-clause-exact
returns-clause-exact c =
    let first = IsPartitionPoint-from_clause (λ (l : Loop). ltb l.header c.args.header) _ _ c.partition_point-first.ensures.partitioned (IsPartitionedBy-ltb (λ (l : Loop). l.header) c.args.sorted.now c.args.header c.requires) (λ a r q k. search rules) in
    let end = IsPartitionPoint-from_clause (λ (l : Loop). leb l.header c.args.header) _ _ c.partition_point-end.ensures.partitioned (IsPartitionedBy-leb (λ (l : Loop). l.header) c.args.sorted.now c.args.header c.requires) (λ a r q k. search rules) in
    at_header c.args.sorted.now c.args.header c.partition_point-first.result c.partition_point-end.result c.partition_point-end.ensures.bound
    (λ k d lt. ltb-true _ _ (first.0 k d (omega arith) lt))
    (λ k d ge lt. ltb-false _ _ (first.1 k d ge lt))
    (λ k d lt. leb-true _ _ (end.0 k d (omega arith) lt))
    (λ k d ge lt. leb-false _ _ (end.1 k d ge lt))

pub returns-clause-one : goal.returns-clause-one
returns-clause-one c =
    let first = IsPartitionPoint-from_clause (λ (l : Loop). ltb l.header c.args.header) _ _ c.partition_point-first.ensures.partitioned (IsPartitionedBy-ltb (λ (l : Loop). l.header) c.args.sorted.now c.args.header c.requires) (λ a r q k. search rules) in
    let end = IsPartitionPoint-from_clause (λ (l : Loop). leb l.header c.args.header) _ _ c.partition_point-end.ensures.partitioned (IsPartitionedBy-leb (λ (l : Loop). l.header) c.args.sorted.now c.args.header c.requires) (λ a r q k. search rules) in
    λ differ. at_most_one c.args.sorted.now c.args.header c.partition_point-first.result c.partition_point-end.result c.partition_point-end.ensures.bound
    (λ k d ge lt. ltb-false _ _ (first.1 k d ge lt))
    (λ k d lt. leb-true _ _ (end.0 k d (omega arith) lt)) differ
