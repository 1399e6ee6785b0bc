use Rattle.text_draft.specs.DraftOnText.{rule_table}
use Rattle.text_rows.proofs.ColumnLaws.{item_more}
use Rattle.text_draft.proofs.additions.put_rule_tables.Goals as goal

pub loop-rule-preserved : goal.loop-rule-preserved
loop-rule-preserved c =
    item_more rule_table c.args.rules.now c.loop-rule.rule-index _ c.loop-rule.out.items
    c.put_rule_table.new.out.items _ c.loop-rule.invariant c.loop-rule-test.true c.in_ok-put_rule_table.ensures
