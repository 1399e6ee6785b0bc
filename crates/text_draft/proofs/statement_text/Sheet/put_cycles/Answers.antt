use Rattle.text_draft.specs.DraftText.{cycle_text}
use Rattle.text_rows.proofs.ColumnLaws.{item_more}
use Rattle.text_draft.proofs.statement_text.Sheet.put_cycles.Goals as goal

pub loop-at-preserved : goal.loop-at-preserved
loop-at-preserved c =
    item_more (cycle_text c.args.self.now.lines.now) c.args.cycles.now c.loop-at.at-index _ c.loop-at.out.items
    c.put_comment.new.out.items _ c.loop-at.invariant c.loop-at-test.true c.in_ok-put_comment.ensures
