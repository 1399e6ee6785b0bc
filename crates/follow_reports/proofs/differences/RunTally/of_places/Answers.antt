use Rattle.std.proofs.Common.{◌∙◌, ◌<◌, List, ap, get_or, length, refl, subst}
use Rattle.control_flow.specs.declared.places.Place.{Place}
use Rattle.kept_runs.specs.Passing.{nothing}
use Rattle.follow_reports.proofs.DifferenceLemmas.{place_added}
use Rattle.follow_reports.proofs.differences.RunTally.of_places.Goals as goal

pub loop-index-preserved : goal.loop-index-preserved
loop-index-preserved c =
    let i = c.loop-index.index in
    let place = c.index-places-index.result in
    let lt = subst (λ (ps : List Place). i < length ps) c.places-index-end.ensures.value c.loop-index-test.true in
    place_added c.args.graph.now.places c.args.by_place.now i place (get_or c.args.by_place.now i nothing) c.loop-index.tally c.add.new.self lt
    (c.index-places-index.is ∙ ap (λ (ps : List Place). get_or ps i place) c.places.ensures.value) refl c.loop-index.invariant c.in_ok-add.ensures
