use Rattle.std.proofs.Common.{◌≡◌, ◌∙◌, ◌<◌, List, ap, arith, get_or, length, subst}
use Rattle.std.proofs.lemmas.List.{get_or_default}
use Rattle.std.specs.Prelude.{slice_index}
use Rattle.control_flow.proofs.Firsts.{no_edge}
use Rattle.control_flow.specs.declared.edges.Edge.{Edge}
use Rattle.longest_walk.specs.Built.{step_at}
use Rattle.longest_walk.specs.Folded.{unfolded}
use Rattle.text_explained.specs.PartSums.{sum_in}
use Rattle.text_explained.specs.Sums.{sum_to}
use Rattle.text_explained.proofs.PartLaws.{sum_more}
use Rattle.text_explained.proofs.part_sums.PartSums.of_walk.Goals as goal

pub loop-number-preserved : goal.loop-number-preserved
loop-number-preserved g c = λ n.
    let edges = c.args.walk.handler.now.graph.edges in
    let walk = unfolded c.args.walk.longest.now.walk in
    let i = c.loop-number.number in
    let e = c.index-edges-number.result in
    let lt = subst (λ (es : List Edge). i < length es) c.edges-edges.ensures.value c.loop-number-test.true in
    let e_is : e ≡ step_at edges i = c.index-edges-number.is ∙ ap (λ (es : List Edge). get_or es i e) c.edges-edges.ensures.value ∙ get_or_default edges i e no_edge lt in
    sum_more edges walk i e (slice_index c.args.walk.counts.now i) e_is (c.args.walk.counted.each i lt) (g.P.Parts.begins c.args.parts.now n) (g.P.Parts.inside c.args.parts.now n)
    (sum_in c.loop-number.sums.by_number n) (sum_in c.add.new.self.by_number n) (c.loop-number.invariant n) (c.in_ok-add.ensures n)

pub returns : goal.returns
returns g c = λ n.
    let edges = c.args.walk.handler.now.graph.edges in
    let all : c.loop-number.number ≡ length c.edges-edges.result.now = omega (arith, c.loop-number-test.false, c.loop-number.auto.number-end) in
    let begins = g.P.Parts.begins c.args.parts.now n in
    let inside = g.P.Parts.inside c.args.parts.now n in
    subst (λ m. sum_in c.loop-number.sums.by_number n ≡ sum_to edges (unfolded c.args.walk.longest.now.walk) m begins inside)
    (all ∙ ap (λ (es : List Edge). length es) c.edges-edges.ensures.value) (c.loop-number.invariant n)
