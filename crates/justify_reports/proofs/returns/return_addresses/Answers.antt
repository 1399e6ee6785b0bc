use Rattle.std.proofs.Common.{◌≡◌}
use Rattle.std.specs.List.Sorted.{IsStrictlySortedBy}
use Rattle.std.specs.Ordering.{nat_cmp}
use Rattle.text_explained.proofs.AssumedLaws.{both_ok}
use Rattle.justify_reports.specs.Returns.{AreReturns}
use Rattle.justify_reports.proofs.ReturnLemmas.{are_returns}
use Rattle.justify_reports.proofs.returns.return_addresses.Goals as goal

pub returns : goal.returns
returns c =
    let h = c.args.handler.now in
    let set = c.in_ok-named.named in
    both_ok c.sorted.result (λ v. v.items ≡ set.keys) (λ v. IsStrictlySortedBy nat_cmp v.items)
    (λ v. AreReturns h.image.now h.statement h.graph v.items)
    (λ v is ascending. are_returns h.image.now h.statement h.graph set v.items c.in_ok-named.ensures is ascending)
    c.sorted.ensures.keys c.sorted.ensures.ascending
