use Rattle.text_draft.specs.DraftOnText.{entry_table}
use Rattle.text_rows.proofs.ColumnLaws.{item_more}
use Rattle.text_draft.proofs.additions.put_entry_tables.Goals as goal

pub loop-entry-preserved : goal.loop-entry-preserved
loop-entry-preserved c =
    item_more (entry_table c.args.sheet.now.lines.now) c.args.entries.now c.loop-entry.entry-index _ c.loop-entry.out.items
    c.put_entry_table.new.out.items _ c.loop-entry.invariant c.loop-entry-test.true c.in_ok-put_entry_table.ensures
