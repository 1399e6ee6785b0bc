use Rattle.std.proofs.Common.{rules, leb}
use Rattle.std.proofs.lemmas.List.Sorted.{IsPartitionPoint-from_clause}
use Rattle.loop_bounds.specs.declared.extents.Extent.{Extent}
use Rattle.loop_bounds.proofs.EnterLemmas.{parted, limit_is, none_innermost, opened_last, innermost_is}
use Rattle.loop_bounds.proofs.parents.innermost.Goals as goal

pub returns-then-limit-eq0 : goal.returns-then-limit-eq0
returns-then-limit-eq0 c =
    let point = IsPartitionPoint-from_clause (λ (s : Extent). leb s.first c.args.position) _ _ c.partition_point-limit.ensures.partitioned (parted c.args.extents.now c.args.position c.requires.extents_are) (λ a r q k. search rules) in
    let l = limit_is c.args.extents.now c.args.position c.partition_point-limit.result point c.partition_point-limit.ensures.bound in
    none_innermost c.args.extents.now c.partition_point-limit.result c.args.position c.if-limit-eq0.true c.partition_point-limit.ensures.bound l

pub climb-requires-clause-begun : goal.climb-requires-clause-begun
climb-requires-clause-begun c =
    let point = IsPartitionPoint-from_clause (λ (s : Extent). leb s.first c.args.position) _ _ c.partition_point-limit.ensures.partitioned (parted c.args.extents.now c.args.position c.requires.extents_are) (λ a r q k. search rules) in
    (limit_is c.args.extents.now c.args.position c.partition_point-limit.result point c.partition_point-limit.ensures.bound).0

pub climb-requires-clause-opened : goal.climb-requires-clause-opened
climb-requires-clause-opened c =
    let point = IsPartitionPoint-from_clause (λ (s : Extent). leb s.first c.args.position) _ _ c.partition_point-limit.ensures.partitioned (parted c.args.extents.now c.args.position c.requires.extents_are) (λ a r q k. search rules) in
    opened_last c.args.extents.now c.args.parents.now c.partition_point-limit.result c.args.position c.requires.parents_are c.if-limit-eq0.false c.partition_point-limit.ensures.bound (limit_is c.args.extents.now c.args.position c.partition_point-limit.result point c.partition_point-limit.ensures.bound).0

pub returns : goal.returns
returns c =
    let point = IsPartitionPoint-from_clause (λ (s : Extent). leb s.first c.args.position) _ _ c.partition_point-limit.ensures.partitioned (parted c.args.extents.now c.args.position c.requires.extents_are) (λ a r q k. search rules) in
    let l = limit_is c.args.extents.now c.args.position c.partition_point-limit.result point c.partition_point-limit.ensures.bound in
    innermost_is c.args.extents.now c.partition_point-limit.result c.args.position c.climb.result c.partition_point-limit.ensures.bound l.0 l.1 c.climb.ensures.opened c.climb.ensures.ends
