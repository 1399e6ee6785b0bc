use Rattle.justify_reports.specs.RowTexts.{IsRowText}
use Rattle.text_rows.proofs.RowLaws.{so_far_all, so_far_one}
use Rattle.justify_reports.proofs.row_texts.put_rows.Goals as goal

pub loop-row-preserved : goal.loop-row-preserved
loop-row-preserved c =
    so_far_one (IsRowText c.args.sight.read.now c.args.sight.read.now.image) c.args.rows.now c.loop-row.row-index _ c.args.out.now.items c.loop-row.out.items
    c.put_row.new.out.items c.loop-row.invariant c.loop-row-test.true c.in_ok-put_row.ensures

pub returns : goal.returns
returns c =
    so_far_all (IsRowText c.args.sight.read.now c.args.sight.read.now.image) c.args.rows.now c.loop-row.row-index c.args.out.now.items c.loop-row.out.items
    c.loop-row.invariant c.loop-row-test.false
