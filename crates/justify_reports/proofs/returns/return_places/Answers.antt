use Rattle.std.proofs.Common.{subst}
use Rattle.std.specs.BTreeSet.{contains}
use Rattle.std.specs.Ordering.{nat_cmp}
use Rattle.control_flow.specs.declared.places.Place.{Place}
use Rattle.text_explained.specs.Assumed.{Notes}
use Rattle.text_explained.proofs.AssumedLaws.{noted}
use Rattle.justify_reports.specs.Returns.{HasReturn}
use Rattle.justify_reports.proofs.ClassedLemmas.{all_places}
use Rattle.justify_reports.proofs.returns.return_places.Goals as goal

pub loop-place-preserved : goal.loop-place-preserved
loop-place-preserved c =
    let Holds = HasReturn c.args.handler.now.image.now c.args.handler.now.statement in
    noted Holds c.places-place-items.result.now c.loop-place.place-index c.place-item.result (contains nat_cmp c.loop-place.named) (contains nat_cmp c.note.new.named)
    c.loop-place-test.true c.loop-place.invariant
    (subst (λ (p : Place). Notes Holds p (contains nat_cmp c.loop-place.named) (contains nat_cmp c.note.new.named)) c.place-item.is c.in_ok-note.ensures)

pub returns : goal.returns
returns c =
    all_places (HasReturn c.args.handler.now.image.now c.args.handler.now.statement) c.args.handler.now.graph c.places-place-items.result.now c.loop-place.place-index
    (contains nat_cmp c.loop-place.named) c.places-place-items.ensures.value c.loop-place-test.false c.loop-place.invariant
