use Rattle.std.proofs.Common.{◌≡◌, ◌++◌, drop}
use Rattle.std.specs.List.{flat_map}
use Rattle.text_draft.specs.DraftOnText.{rule_table}
use Rattle.text_draft.proofs.additions.put_rule_tables.Given as goal

abbrev pub invariant-loop-rule : goal.invariant-loop-rule
invariant-loop-rule l = l.out.items ++ flat_map rule_table (drop l.rule-index l.rules) ≡ l.fn.out.items ++ flat_map rule_table l.rules
