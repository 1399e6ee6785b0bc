use Rattle.text_draft.specs.DraftText.{rule_text}
use Rattle.text_rows.proofs.ColumnLaws.{item_more}
use Rattle.text_draft.proofs.statement_text.Sheet.put_each_rule.Goals as goal

pub loop-rule-preserved : goal.loop-rule-preserved
loop-rule-preserved c =
    item_more (rule_text c.args.self.now.lines.now) c.args.rules.now c.loop-rule.rule-index _ c.loop-rule.out.items
    c.put_rule.new.out.items _ c.loop-rule.invariant c.loop-rule-test.true c.in_ok-put_rule.ensures
