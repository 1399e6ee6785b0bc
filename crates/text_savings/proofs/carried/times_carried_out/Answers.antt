use Rattle.std.proofs.Common.{◌∙◌, ◌<◌, List, ap, get_or, length, subst}
use Rattle.std.specs.Prelude.{slice_index}
use Rattle.control_flow.specs.declared.edges.Edge.{Edge}
use Rattle.longest_walk.specs.Folded.{unfolded}
use Rattle.text_savings.proofs.CarriedLaws.{one_added}
use Rattle.text_savings.proofs.carried.times_carried_out.Goals as goal

pub loop-number-preserved : goal.loop-number-preserved
loop-number-preserved c =
    let walk = c.args.walk in
    let i = c.loop-number.number in
    let e = c.index-edges-number.result in
    let lt = subst (λ (es : List Edge). i < length es) c.edges-edges.ensures.value c.loop-number-test.true in
    one_added walk.handler.now.graph.edges (unfolded walk.longest.now.walk) i e (slice_index walk.counts.now i) c.loop-number.times c.add.new.times lt
    (c.index-edges-number.is ∙ ap (λ (es : List Edge). get_or es i e) c.edges-edges.ensures.value) (walk.counted.each i lt) c.loop-number.invariant c.in_ok-add.ensures
