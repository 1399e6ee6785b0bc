use Rattle.text_rows.proofs.RowLaws.{so_far_all, so_far_none, so_far_one}
use Rattle.text_explained.specs.Printed.{IsLineText}
use Rattle.text_explained.proofs.printed_rows.put_lines.Goals as goal

pub loop-line-init : goal.loop-line-init
loop-line-init c = so_far_none (IsLineText c.args.layout.now) c.args.lines.now c.args.out.now.items

pub loop-line-preserved : goal.loop-line-preserved
loop-line-preserved c =
    so_far_one (IsLineText c.args.layout.now) c.args.lines.now c.loop-line.line-index _ c.args.out.now.items c.loop-line.out.items c.put_line.new.out.items c.loop-line.invariant
    c.loop-line-test.true c.in_ok-put_line.ensures

pub returns : goal.returns
returns c =
    so_far_all (IsLineText c.args.layout.now) c.args.lines.now c.loop-line.line-index c.args.out.now.items c.loop-line.out.items c.loop-line.invariant c.loop-line-test.false
