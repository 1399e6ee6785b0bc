use Rattle.std.proofs.Common.{◌∙◌, ap}
use Rattle.std.proofs.lemmas.Result.{IfOk-weaker}
use Rattle.longest_walk.specs.Folded.{unfolded}
use Rattle.statement.specs.Stated.{StatedLoops}
use Rattle.text_explained.proofs.PartLaws.{sums_whole}
use Rattle.text_explained.proofs.sums.loop_sums.Goals as goal

pub returns : goal.returns
returns c source are =
    let walk = c.args.walk in
    let lines = c.args.lines.now in
    let loops = walk.handler.now.statement.loops in
    let table = c.in_ok-table.table in
    IfOk-weaker c.section.result _ _
    (λ text is. sums_whole source loops walk.handler.now.graph (unfolded walk.longest.now.walk) walk.longest.now.bound lines table.apart.now table.loops.now c.new-rows.result.items
    c.put_loops.new.out.items c.deref.result.now text.items (c.in_ok-table.ensures.0 ∙ c.apart.ensures ∙ ap (λ (ls : StatedLoops). ls.apart) c.loops-loops.ensures)
    (c.in_ok-table.ensures.1 ∙ c.list.ensures.value ∙ ap (λ (ls : StatedLoops). ls.list) c.loops-loops.ensures) are c.new-rows.ensures.items c.in_ok-put_loops.ensures
    c.deref.ensures.value is)
    c.section.ensures
