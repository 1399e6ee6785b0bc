use Rattle.std.proofs.Common.{◌∙◌, sym, arith}
use Rattle.text_refusals.specs.Outline.{key_value_of}
use Rattle.text_refusals.specs.Refused.{stated_at}
use Rattle.text_refusals.proofs.CountedLemmas.{counted, listed_value}
use Rattle.text_refusals.proofs.statements.value_after.Goals as goal

pub loop-item-preserved : goal.loop-item-preserved
loop-item-preserved c =
    counted (stated_at c.args.depth c.args.key.now) c.args.items.now c.loop-item.item-index c.loop-item.left _ _ _ c.loop-item-test.true c.in-States.is
    (λ items. listed_value c.args.depth c.args.key.now (key_value_of c.in-States.pair) items (sym c.is_at_key.ensures ∙ c.if-not-is_at_key.false)) (omega (arith, c.if-left-eq0.false))
    ∙ c.loop-item.invariant
