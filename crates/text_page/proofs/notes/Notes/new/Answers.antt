use Rattle.std.proofs.Common.{◌∙◌, ap}
use Rattle.statement.specs.Stated.{StatedLoops}
use Rattle.text_page.specs.Noted.{bound_at}
use Rattle.text_page.proofs.NoteLaws.{noted_same}
use Rattle.text_page.proofs.notes.Notes.new.Goals as goal

pub returns : goal.returns
returns c = λ source are.
    let h = c.args.handler.now in
    noted_same h.image.now h.statement source c.args.rows.now c.args.lines.now c.in_ok-bounds_of.field-0 c.in_ok-addresses_of.field-0 are.each
    (λ at. c.in_ok-bounds_of.ensures at ∙ ap (λ ls. bound_at ls at) (c.list.ensures.value ∙ ap (λ (ls : StatedLoops). ls.list) c.loops.ensures)) c.in_ok-addresses_of.ensures
