use Rattle.text_savings.specs.Sections.{IsSavingRow}
use Rattle.text_rows.proofs.RowLaws.{all_parts, so_far_one}
use Rattle.text_savings.proofs.sections.rows_of.Goals as goal

pub loop-saving-preserved : goal.loop-saving-preserved
loop-saving-preserved g c =
    so_far_one (IsSavingRow (g.E.RowEnds.is_end c.args.ends.now)) c.args.list.now c.loop-saving.saving-index _ c.new-out.result.items c.loop-saving.out.items
    c.put_row.new.out.items c.loop-saving.invariant c.loop-saving-test.true c.in_ok-put_row.ensures

pub returns : goal.returns
returns g c =
    all_parts (IsSavingRow (g.E.RowEnds.is_end c.args.ends.now)) c.args.list.now c.loop-saving.saving-index c.new-out.result.items c.loop-saving.out.items
    c.new-out.ensures.items c.loop-saving.invariant c.loop-saving-test.false
