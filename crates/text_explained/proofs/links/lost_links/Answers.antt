use Rattle.std.proofs.Common.{◌≡◌}
use Rattle.std.specs.List.Sorted.{IsStrictlySortedBy}
use Rattle.std.specs.Ordering.{nat_cmp}
use Rattle.text_explained.specs.Links.{AreLostLinks}
use Rattle.text_explained.proofs.AssumedLaws.{both_ok}
use Rattle.text_explained.proofs.LinkLaws.{are_lost}
use Rattle.text_explained.proofs.links.lost_links.Goals as goal

pub returns : goal.returns
returns c =
    let named = c.in_ok-named.named in
    both_ok c.sorted.result (λ v. v.items ≡ named.keys) (λ v. IsStrictlySortedBy nat_cmp v.items) (λ v. AreLostLinks c.args.handler.now.image.now c.args.handler.now.statement c.args.handler.now.graph c.args.by v.items)
    (λ v is ascending.
    are_lost c.args.handler.now.image.now c.args.handler.now.statement c.args.handler.now.graph c.args.by c.in_ok-places.places.items c.deref.result.now named v.items c.deref.ensures.value c.in_ok-places.ensures c.in_ok-named.ensures is
    ascending)
    c.sorted.ensures.keys c.sorted.ensures.ascending
