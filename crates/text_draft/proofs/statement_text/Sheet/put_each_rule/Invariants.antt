use Rattle.std.proofs.Common.{◌≡◌, ◌++◌, drop}
use Rattle.std.specs.List.{flat_map}
use Rattle.text_draft.specs.DraftText.{rule_text}
use Rattle.text_draft.proofs.statement_text.Sheet.put_each_rule.Given as goal

abbrev pub invariant-loop-rule : goal.invariant-loop-rule
invariant-loop-rule l =
    l.out.items ++ flat_map (rule_text l.self.lines.now) (drop l.rule-index l.rules)
    ≡ l.fn.out.items ++ flat_map (rule_text l.self.lines.now) l.rules
