use Rattle.std.proofs.Common.{◌∙◌, ap}
use Rattle.std.proofs.lemmas.Result.{on_ok_weaker}
use Rattle.statement.specs.Stated.{StatedLoops}
use Rattle.justify_reports.proofs.RowLemmas.{all_rows}
use Rattle.justify_reports.proofs.rows.stated_rows.Goals as goal

pub returns : goal.returns
returns c =
    let h = c.args.handler.now in
    all_rows h.image.now h.statement h.graph h.tree c.args.found.trusted.now c.args.found.destinations.now c.args.found.outside.now c.args.found.endless.now c.in_ok-named.named.items c.deref.result.now c.list.result.now
    c.new-rows.result.items c.put_class_rows.new.rows.items c.put_return_rows.new.rows.items c.put_loop_rows.new.rows.items
    c.in_ok-named.ensures c.deref.ensures.value (c.list.ensures.value ∙ ap (λ (ls : StatedLoops). ls.list) c.loops.ensures) c.new-rows.ensures.items c.in_ok-put_class_rows.ensures
    c.in_ok-put_return_rows.ensures c.in_ok-put_loop_rows.ensures
