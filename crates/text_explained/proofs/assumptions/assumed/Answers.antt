use Rattle.std.proofs.Common.{◌≡◌, subst}
use Rattle.control_flow.specs.declared.places.Place.{Place}
use Rattle.std.specs.List.Sorted.{IsStrictlySortedBy}
use Rattle.std.specs.BTreeSet.{contains}
use Rattle.std.specs.Ordering.{nat_cmp}
use Rattle.text_explained.specs.Assumed.{AreAssumed, Assumes, Notes}
use Rattle.text_explained.proofs.AssumedLaws.{are_assumed, both_ok, noted}
use Rattle.text_explained.proofs.assumptions.assumed.Goals as goal

pub loop-place-preserved : goal.loop-place-preserved
loop-place-preserved c =
    noted (Assumes c.args.handler.now.image.now c.args.handler.now.statement c.args.handler.now.graph c.args.what) c.places-place-items.result.now c.loop-place.place-index c.place-item.result
    (contains nat_cmp c.loop-place.named) (contains nat_cmp c.note.new.named) c.loop-place-test.true c.loop-place.invariant
    (subst (λ (p : Place). Notes (Assumes c.args.handler.now.image.now c.args.handler.now.statement c.args.handler.now.graph c.args.what) p (contains nat_cmp c.loop-place.named) (contains nat_cmp c.note.new.named)) c.place-item.is c.in_ok-note.ensures)

pub returns : goal.returns
returns c =
    let addresses = c.loop-place.named in
    both_ok c.sorted.result (λ v. v.items ≡ addresses.keys) (λ v. IsStrictlySortedBy nat_cmp v.items)
    (λ v. AreAssumed c.args.handler.now.image.now c.args.handler.now.statement c.args.handler.now.graph c.args.what v.items)
    (λ v is ascending.
    are_assumed c.args.handler.now.image.now c.args.handler.now.statement c.args.handler.now.graph c.args.what c.places-place-items.result.now c.loop-place.place-index
    addresses v.items c.places-place-items.ensures.value c.loop-place-test.false c.loop-place.invariant is ascending)
    c.sorted.ensures.keys c.sorted.ensures.ascending
