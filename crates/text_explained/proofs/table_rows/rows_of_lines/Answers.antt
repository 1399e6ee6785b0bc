use Rattle.asm_text.specs.Source.{lines_of}
use Rattle.text_explained.specs.Costing.{figures_of}
use Rattle.text_explained.specs.Table.{line_rows, row_of}
use Rattle.std.proofs.Common.{map}
use Rattle.text_explained.proofs.TableRowLaws.{places_end}
use Rattle.text_explained.proofs.table_rows.rows_of_lines.Goals as goal

pub returns : goal.returns
returns c =
    let walk = figures_of c.args.costing.now in
    places_end walk c.loop-line.number (lines_of c.loop-line.rest.now) c.args.placed.now c.loop-line.line-index (map row_of c.loop-line.rows.items)
    (line_rows walk 1 (lines_of c.args.source.now) c.args.placed.now) c.loop-line-test.false c.loop-line.invariant.same
