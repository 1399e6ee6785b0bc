use Rattle.std.proofs.Common.{ℕ, rules, ltb, List, [], ◌∷◌, ◌++◌, ap, ◌∙◌, arith}
use Rattle.std.proofs.lemmas.Bool.{ltb-true, ltb-false}
use Rattle.std.proofs.lemmas.List.Sorted.{IsPartitionPoint-from_clause, IsPartitionedBy-ltb}
use Rattle.loop_bounds.specs.declared.nested.Instance.{Instance, roll-Instance}
use Rattle.loop_bounds.specs.declared.nested.Instance.TheOpen.{Instance-F}
use Rattle.loop_bounds.proofs.NestedLemmas.{enclosed}
use Rattle.loop_bounds.proofs.nested.Outermost.enclose.Goals as goal

pub returns : goal.returns
returns c = λ apart.
    let headers = c.args.self.now.headers.items in
    let x : Instance-F Instance = record { found = c.args.found; places = c.args.places; inner = c.in_ok-inner.inner } in
    let point = IsPartitionPoint-from_clause (λ (h : ℕ). ltb h c.args.header) _ _ (rw c.deref.ensures.value at c.partition_point-first.ensures.partitioned) (IsPartitionedBy-ltb (λ (h : ℕ). h) headers c.args.header c.requires.ascending) (λ a r q k. search rules) in
    enclosed apart c.args.self.now _ c.args.header c.partition_point-first.result x
    (rw c.deref.ensures.value at c.partition_point-first.ensures.bound)
    (λ p lt. ltb-true _ _ (point.0 p 0 (omega arith) lt))
    (λ p ge lt. ltb-false _ _ (point.1 p 0 ge lt))
    (c.in_ok-push.ensures.items ∙ ap (λ (hs : List ℕ). hs ++ c.args.header ∷ []) c.truncate.ensures.items)
    (c.in_ok-push-2.ensures.items ∙ ap (λ (is : List Instance). is ++ roll-Instance x ∷ []) c.in_ok-inner.ensures.items)
    c.in_ok-inner.ensures.tail
