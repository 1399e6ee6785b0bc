use Rattle.std.proofs.Common.{◌∙◌}
use Rattle.std.proofs.lemmas.Result.{IfOk-weaker}
use Rattle.longest_walk.specs.Folded.{unfolded}
use Rattle.text_explained.proofs.PartLaws.{routines_whole}
use Rattle.text_explained.proofs.routines.routine_sums.Goals as goal

pub returns : goal.returns
returns c source are =
    let walk = c.args.walk in
    let lines = c.args.lines.now in
    IfOk-weaker c.section.result _ _
    (λ text is. routines_whole lines walk.handler.now.graph (unfolded walk.longest.now.walk) walk.longest.now.bound source walk.handler.now.image.now c.deref.result.now c.new-rows.result.items
    c.put_routines.new.out.items c.deref-2.result.now text.items (c.deref.ensures.value ∙ c.in_ok-words.ensures.words) are c.new-rows.ensures.items
    c.in_ok-put_routines.ensures c.deref-2.ensures.value is)
    c.section.ensures
