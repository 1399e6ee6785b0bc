use Rattle.std.proofs.Common.{◌≡◌}
use Rattle.std.specs.List.Sorted.{IsStrictlySortedBy}
use Rattle.std.specs.Ordering.{nat_cmp}
use Rattle.text_explained.proofs.AssumedLaws.{both_ok}
use Rattle.justify_reports.specs.Rows.{AreClassed}
use Rattle.justify_reports.proofs.ClassedLemmas.{are_classed}
use Rattle.justify_reports.proofs.classed.classed.Goals as goal

pub returns : goal.returns
returns c =
    let h = c.args.handler.now in
    let set = c.add_trusted.new.named in
    both_ok c.sorted.result (λ v. v.items ≡ set.keys) (λ v. IsStrictlySortedBy nat_cmp v.items)
    (λ v. AreClassed h.image.now h.statement h.graph c.args.left.now v.items)
    (λ v is ascending. are_classed h.image.now h.statement h.graph c.args.left.now c.in_ok-named.named set v.items c.in_ok-named.ensures c.in_ok-add_trusted.ensures is ascending)
    c.sorted.ensures.keys c.sorted.ensures.ascending
