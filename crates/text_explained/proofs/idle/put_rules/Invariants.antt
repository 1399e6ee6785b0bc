use Rattle.std.proofs.Common.{length}
use Rattle.text_explained.specs.Idle.{IsRuleRow}
use Rattle.text_rows.proofs.RowLaws.{SoFar}
use Rattle.text_explained.proofs.idle.put_rules.Given as goal

abbrev pub invariant-loop-rule : goal.invariant-loop-rule
invariant-loop-rule l =
    SoFar (IsRuleRow l.handler.image.now l.handler.statement l.handler.graph) l.handler.statement.rules (length l.yielded) l.initial.out.items l.out.items
