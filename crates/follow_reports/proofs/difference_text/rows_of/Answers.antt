use Rattle.std.proofs.Common.{◌≡◌, ℕ, List, Option, Some, None, subst, sym, ap}
use Rattle.std.proofs.lemmas.Result.{IfOk-weaker}
use Rattle.text_rows.specs.Rows.{AreRows}
use Rattle.text_rows.specs.WordLines.{Numbered, numbered_at}
use Rattle.sources.specs.Lines.{line_of}
use Rattle.follow_reports.specs.DifferenceText.{IsDifferenceRow}
use Rattle.follow_reports.proofs.DifferenceLemmas.{by_image, by_lines}
use Rattle.follow_reports.proofs.difference_text.rows_of.Goals as goal

pub returns-in_ok-lines-in-Lines : goal.returns-in_ok-lines-in-Lines
returns-in_ok-lines-in-Lines c =
    let read = c.args.read.now in
    IfOk-weaker c.rows_by.result _ _
    (λ rows. by_lines read read.text c.in-Lines.field-0 c.in-Lines.field-1 (numbered_at c.in_ok-lines-in-Lines.lines) c.args.list.now rows.items c.in-Lines.is c.in_ok-lines-in-Lines.ensures.each)
    c.rows_by.ensures

pub returns-in-Image : goal.returns-in-Image
returns-in-Image c =
    let read = c.args.read.now in
    IfOk-weaker c.rows_by-in-Image.result _ _ (λ rows. by_image read read.text c.args.list.now rows.items c.in-Image.is) c.rows_by-in-Image.ensures
