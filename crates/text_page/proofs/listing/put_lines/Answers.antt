use Rattle.text_rows.proofs.RowLaws.{so_far_all, so_far_none, so_far_one}
use Rattle.text_page.specs.Noting.{noted_in}
use Rattle.text_page.specs.Rows.{IsLine}
use Rattle.text_page.proofs.listing.put_lines.Goals as goal

pub loop-line-init : goal.loop-line-init
loop-line-init c = so_far_none (IsLine (noted_in c.args.notes.now) c.args.bound) c.args.lines.now c.args.out.now.items

pub loop-line-preserved : goal.loop-line-preserved
loop-line-preserved c =
    so_far_one (IsLine (noted_in c.args.notes.now) c.args.bound) c.args.lines.now c.loop-line.line-index _ c.args.out.now.items c.loop-line.out.items c.put_line.new.out.items c.loop-line.invariant
    c.loop-line-test.true c.in_ok-put_line.ensures

pub returns : goal.returns
returns c =
    so_far_all (IsLine (noted_in c.args.notes.now) c.args.bound) c.args.lines.now c.loop-line.line-index c.args.out.now.items c.loop-line.out.items c.loop-line.invariant c.loop-line-test.false
