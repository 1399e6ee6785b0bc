use Rattle.std.proofs.Common.{◌++◌}
use Rattle.asm_text.specs.Source.{lines_of}
use Rattle.text_rows.specs.Lines.{rows_by_line}
use Rattle.text_rows.proofs.LineLaws.{places_end}
use Rattle.text_rows.proofs.rows_of_lines.put_line_rows.Goals as goal

pub returns : goal.returns
returns g c =
    let rows = g.R.LineRows.rows c.args.rows.now in
    places_end rows c.loop-line.number (lines_of c.loop-line.rest.now) c.args.placed.now c.loop-line.line-index c.loop-line.out.items
    (c.args.out.now.items ++ rows_by_line rows 1 (lines_of c.args.source.now) c.args.placed.now) c.loop-line-test.false c.loop-line.invariant.same
