use Rattle.std.proofs.Common.{◌≡◌, ◌+◌, ◌∙◌, sym, ap, subst}
use Rattle.responses.specs.Arriving.{IsGreatestThere, is_there, way_at}
use Rattle.responses.proofs.WayLemmas.{other_number, there_number}
use Rattle.responses.proofs.ways.greatest_there.Goals.{then-is_there, else-is_there}
use Rattle.responses.proofs.ways.greatest_there.Goals as goal

pub loop-number-preserved : goal.loop-number-preserved
loop-number-preserved c =
    let edges = c.args.graph.edges.now in
    let spans = c.args.graph.spans.now in
    let ways = c.args.ways.now in
    let i = c.loop-number.number in
    let here : c.is_there.result ≡ is_there (way_at ways i) = c.is_there.ensures
    ∙ ap is_there c.way_at.ensures in
    elim c.if-is_there.branch [
      | then-is_there w ↦ subst (IsGreatestThere edges spans ways (i + 1))
          (sym (w.greatest-is ∙ w.greater-greatest.ensures))
          (there_number edges spans ways i c.loop-number.greatest w.greatest_cost_to-ticks.result
          (sym here ∙ w.if-is_there.true) w.greatest_cost_to-ticks.ensures c.loop-number.invariant)
      | else-is_there w ↦ subst (IsGreatestThere edges spans ways (i + 1)) (sym w.greatest-is)
          (other_number edges spans ways i c.loop-number.greatest (sym here ∙ w.if-is_there.false)
          c.loop-number.invariant)
    ]
