use Rattle.std.specs.Prelude.{option_map}
use Rattle.text_rows.proofs.RowLaws.{all_parts, so_far_one}
use Rattle.text_rows.specs.WordLines.{numbered_at}
use Rattle.follow_reports.specs.DifferenceText.{IsDifferenceRow}
use Rattle.follow_reports.proofs.difference_text.rows_by.Goals as goal

pub loop-difference-preserved : goal.loop-difference-preserved
loop-difference-preserved c =
    so_far_one (IsDifferenceRow (option_map (λ l. numbered_at l.now) c.args.lines)) c.args.list.now c.loop-difference.difference-index _ c.new-out.result.items c.loop-difference.out.items
    c.put_row.new.out.items c.loop-difference.invariant c.loop-difference-test.true c.in_ok-put_row.ensures

pub returns : goal.returns
returns c =
    all_parts (IsDifferenceRow (option_map (λ l. numbered_at l.now) c.args.lines)) c.args.list.now c.loop-difference.difference-index c.new-out.result.items c.loop-difference.out.items
    c.new-out.ensures.items c.loop-difference.invariant c.loop-difference-test.false
