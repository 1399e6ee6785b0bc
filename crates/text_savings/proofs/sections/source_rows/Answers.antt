use Rattle.sources.specs.Lines.{line_of}
use Rattle.std.proofs.lemmas.Result.{IfOk-weaker}
use Rattle.text_rows.specs.WordLines.{numbered_at}
use Rattle.text_savings.proofs.RowLaws.{by_lines, by_words}
use Rattle.text_savings.proofs.sections.source_rows.Goals as goal

pub returns-in-Lines : goal.returns-in-Lines
returns-in-Lines c lines =
    let source = c.args.source.now in
    IfOk-weaker c.rows_of.result _ _
    (λ rows. by_lines source.text c.in-Lines.field-0 c.in-Lines.field-1 (numbered_at c.args.lines.now) (line_of source) c.args.list.now rows.items c.in-Lines.is lines.each)
    c.rows_of.ensures

pub returns-in-Image : goal.returns-in-Image
returns-in-Image c lines =
    let source = c.args.source.now in
    IfOk-weaker c.rows_of-in-Image.result _ _ (λ rows. by_words source.text (line_of source) c.args.list.now rows.items c.in-Image.is) c.rows_of-in-Image.ensures
