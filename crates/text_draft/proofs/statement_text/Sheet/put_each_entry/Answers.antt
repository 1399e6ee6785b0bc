use Rattle.text_draft.specs.DraftText.{entry_text}
use Rattle.text_rows.proofs.ColumnLaws.{item_more}
use Rattle.text_draft.proofs.statement_text.Sheet.put_each_entry.Goals as goal

pub loop-access-preserved : goal.loop-access-preserved
loop-access-preserved c =
    item_more (entry_text c.args.self.now.lines.now) c.args.entries.now c.loop-access.access-index _ c.loop-access.out.items
    c.put_entry.new.out.items _ c.loop-access.invariant c.loop-access-test.true c.in_ok-put_entry.ensures
