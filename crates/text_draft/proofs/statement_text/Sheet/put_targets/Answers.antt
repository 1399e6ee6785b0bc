use Rattle.text_draft.specs.DraftText.{target_text}
use Rattle.text_rows.proofs.ColumnLaws.{item_more}
use Rattle.text_draft.proofs.statement_text.Sheet.put_targets.Goals as goal

pub loop-target-preserved : goal.loop-target-preserved
loop-target-preserved c =
    item_more (target_text c.args.self.now.lines.now) c.args.targets.now c.loop-target.target-index _ c.loop-target.out.items
    c.put_target.new.out.items _ c.loop-target.invariant c.loop-target-test.true c.in_ok-put_target.ensures
