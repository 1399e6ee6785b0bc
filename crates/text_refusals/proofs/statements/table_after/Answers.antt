use Rattle.std.proofs.Common.{◌∙◌, arith}
use Rattle.text_refusals.specs.Outline.{table_of}
use Rattle.text_refusals.specs.Refused.{tables_in}
use Rattle.text_refusals.proofs.CountedLemmas.{counted, listed_table}
use Rattle.text_refusals.proofs.statements.table_after.Goals as goal

pub loop-item-preserved : goal.loop-item-preserved
loop-item-preserved c =
    counted (tables_in c.args.list.now) c.args.items.now c.loop-item.item-index c.loop-item.left _ _ _ c.loop-item-test.true c.in-Begins.is
    (λ items. listed_table c.args.list.now (table_of c.in-Begins.table) items c.if-ne.ensures) (omega (arith, c.if-left-eq0.false))
    ∙ c.loop-item.invariant
