use Rattle.std.proofs.Common.{ℕ, ◌∙◌, ltb, rules, arith}
use Rattle.std.proofs.lemmas.Bool.{ltb-true, ltb-false}
use Rattle.std.proofs.lemmas.List.Sorted.{IsPartitionPoint-from_clause, IsPartitionedBy-ltb}
use Rattle.image.proofs.GapLemmas.{rising, searched}
use Rattle.image.proofs.gap_buffer.word_below.Goals as goal

pub returns : goal.returns
returns c =
    let words = c.args.words.now in
    let point = IsPartitionPoint-from_clause (λ (e : ℕ × ℕ). ltb e.0 c.args.address) _ _ c.partition_point-at.ensures.partitioned (IsPartitionedBy-ltb (λ (e : ℕ × ℕ). e.0) words c.args.address (rising words c.requires)) (λ a r q k. search rules) in
    c.word_if.ensures
    ∙ searched words c.args.address c.partition_point-at.result c.nth_below.result c.nth_below.ensures
    (λ k d lt. ltb-true _ _ (point.0 k d (omega arith) lt)) (λ k d ge lt. ltb-false _ _ (point.1 k d ge lt)) c.requires
