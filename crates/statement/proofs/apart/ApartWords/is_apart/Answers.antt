use Rattle.std.proofs.Common.{◌-◌, ◌<◌, ap, arith, get_or, leb, length, not, rules, subst, sym, ◌∙◌}
use Rattle.std.proofs.lemmas.Bool.{eq-eqb}
use Rattle.std.proofs.lemmas.List.Sorted.{IsPartitionPoint-from_clause, IsPartitionedBy-leb}
use Rattle.statement.specs.ApartParts.{AreReaches}
use Rattle.statement.specs.Stated.{is_apart}
use Rattle.statement.proofs.ApartLemmas.{at_any, none_begun, some_begun}
use Rattle.statement.proofs.apart.ApartWords.is_apart.Goals as goal

pub returns-then-begun-ne0 : goal.returns-then-begun-ne0
returns-then-begun-ne0 c =
    let stretches = c.self.inside.stretches.items in
    let reaches = c.deref.result.now in
    let address = c.args.address in
    let begun = c.partition_point-begun.result in
    let few = c.partition_point-begun.ensures.bound in
    let are : AreReaches (is_apart stretches) reaches = subst (AreReaches (is_apart stretches)) (sym c.deref.ensures.value) c.self.invariant in
    let parted = IsPartitionedBy-leb (λ r. r.0) reaches address are.firsts in
    let point = IsPartitionPoint-from_clause (λ r. leb r.0 address) reaches begun c.partition_point-begun.ensures.partitioned parted (λ a r q k. search rules) in
    let low : begun - 1 < length reaches = omega (arith, few) in
    rw (← c.self.view_is)
    (some_begun stretches reaches address begun few are (λ k d lt. point.0 k d (omega arith) lt) (λ k d from lt. point.1 k d from lt) c.index.result.now
    (λ d. at_any reaches (begun - 1) d c.index.result.now low ∙ ap (λ xs. get_or xs (begun - 1) c.index.result.now) c.deref.ensures.value ∙ sym c.index.ensures)
    c.if-begun-ne0.true)

pub returns-else-begun-ne0 : goal.returns-else-begun-ne0
returns-else-begun-ne0 c =
    let stretches = c.self.inside.stretches.items in
    let reaches = c.deref.result.now in
    let address = c.args.address in
    let begun = c.partition_point-begun.result in
    let few = c.partition_point-begun.ensures.bound in
    let are : AreReaches (is_apart stretches) reaches = subst (AreReaches (is_apart stretches)) (sym c.deref.ensures.value) c.self.invariant in
    let parted = IsPartitionedBy-leb (λ r. r.0) reaches address are.firsts in
    let point = IsPartitionPoint-from_clause (λ r. leb r.0 address) reaches begun c.partition_point-begun.ensures.partitioned parted (λ a r q k. search rules) in
    ap not (eq-eqb begun 0 c.if-begun-ne0.false)
    ∙ none_begun stretches reaches address begun few are (λ k d lt. point.0 k d (omega arith) lt) (λ k d from lt. point.1 k d from lt) c.if-begun-ne0.false
    ∙ ap (λ s. is_apart s address) c.self.view_is
