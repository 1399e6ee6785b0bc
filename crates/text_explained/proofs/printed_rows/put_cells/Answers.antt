use Rattle.std.proofs.Common.{◌∙◌, ◌++◌, ap}
use Rattle.std.proofs.lemmas.List.{take_all}
use Rattle.text_explained.specs.Printed.{cells}
use Rattle.text_explained.proofs.ColumnLaws.{cell_more}
use Rattle.text_explained.proofs.printed_rows.put_cells.Goals as goal

pub loop-column-preserved : goal.loop-column-preserved
loop-column-preserved c =
    cell_more c.args.widths.now c.args.line.now c.args.columns.now c.loop-column.column-index _ c.args.out.now.items c.loop-column.out.items c.put_cell.new.out.items
    c.loop-column-test.true c.loop-column.invariant c.in_ok-put_cell.ensures

pub returns : goal.returns
returns c =
    c.loop-column.invariant
    ∙ ap (λ cs. c.args.out.now.items ++ cells c.args.widths.now c.args.line.now cs) (take_all c.loop-column.column-index c.args.columns.now c.loop-column-test.false)
