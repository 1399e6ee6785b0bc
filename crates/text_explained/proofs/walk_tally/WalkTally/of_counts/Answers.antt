use Rattle.std.proofs.Common.{◌∙◌, ◌<◌, List, ap, get_or, length, subst}
use Rattle.control_flow.specs.declared.edges.Edge.{Edge}
use Rattle.control_flow.specs.declared.places.Place.{Place}
use Rattle.text_explained.specs.Taken.{Starts}
use Rattle.text_explained.proofs.TallyLaws.{none_added, one_added}
use Rattle.text_explained.proofs.walk_tally.WalkTally.of_counts.Goals as goal

pub loop-number-init : goal.loop-number-init
loop-number-init c =
    λ walk are. none_added c.args.graph.now walk c.in_ok-tally.tally (subst (λ (ps : List Place). Starts ps c.in_ok-tally.tally) c.places.ensures.value c.in_ok-tally.ensures)

pub loop-number-preserved : goal.loop-number-preserved
loop-number-preserved c = λ walk are.
    let i = c.loop-number.number in
    let e = c.index-edges-number.result in
    let lt = subst (λ (es : List Edge). i < length es) c.edges-number-end.ensures.value c.loop-number-test.true in
    one_added c.args.graph.now walk i e _ c.loop-number.tally c.add.new.self c.edges.ensures.well_formed lt
    (c.index-edges-number.is ∙ ap (λ (es : List Edge). get_or es i e) c.edges.ensures.value)
    (are.each i lt)
    (c.loop-number.invariant walk are) c.in_ok-add.ensures
