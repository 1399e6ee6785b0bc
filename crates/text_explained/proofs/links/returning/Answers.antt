use Rattle.std.proofs.Common.{◌≡◌, List, subst, true}
use Rattle.std.specs.Prelude.{◌↔◌}
use Rattle.std.specs.BTreeSet.{contains}
use Rattle.std.specs.Ordering.{nat_cmp}
use Rattle.std.proofs.lemmas.List.{take_all}
use Rattle.control_flow.specs.declared.places.Place.{Place}
use Rattle.text_explained.specs.Assumed.{Notes}
use Rattle.text_explained.specs.Links.{MayReturnByLink}
use Rattle.text_explained.specs.Taken.{is_reached}
use Rattle.text_explained.proofs.AssumedLaws.{noted}
use Rattle.text_explained.proofs.links.returning.Goals as goal

pub loop-place-preserved : goal.loop-place-preserved
loop-place-preserved c =
    noted (MayReturnByLink c.args.image.now c.args.statement.now) c.args.places.now c.loop-place.place-index c.place-item.result (contains nat_cmp c.loop-place.named)
    (contains nat_cmp c.note.new.named) c.loop-place-test.true c.loop-place.invariant
    (subst (λ (p : Place). Notes (MayReturnByLink c.args.image.now c.args.statement.now) p (contains nat_cmp c.loop-place.named) (contains nat_cmp c.note.new.named)) c.place-item.is c.in_ok-note.ensures)

pub returns : goal.returns
returns c = λ a.
    subst (λ (ps : List Place). (contains nat_cmp c.loop-place.named a ≡ true) ↔ ((is_reached ps a ≡ true) × MayReturnByLink c.args.image.now c.args.statement.now a))
    (take_all c.loop-place.place-index c.args.places.now c.loop-place-test.false) (c.loop-place.invariant a)
