use Rattle.std.proofs.Common.{◌∙◌, ap}
use Rattle.std.proofs.lemmas.List.{take_all}
use Rattle.text_explained.specs.Printed.{widest}
use Rattle.text_explained.proofs.ColumnLaws.{wider_more}
use Rattle.text_explained.proofs.printed_rows.widest.Goals as goal

pub loop-line-preserved : goal.loop-line-preserved
loop-line-preserved c =
    wider_more c.args.lines.now c.args.column c.loop-line.line-index _ c.loop-line.width c.in_ok-cell_width.field-0 c.wider-width.result c.loop-line-test.true c.loop-line.invariant
    c.in_ok-cell_width.ensures c.wider-width.ensures

pub returns : goal.returns
returns c = c.loop-line.invariant ∙ ap (λ ls. widest ls c.args.column) (take_all c.loop-line.line-index c.args.lines.now c.loop-line-test.false)
