use Rattle.std.proofs.Common.{◌∙◌, [], false, get_or, refl, sym, arith}
use Rattle.text_refusals.specs.Outline.{item_of}
use Rattle.text_refusals.specs.Refused.{stretches_in}
use Rattle.text_refusals.specs.declared.outline.OutlineItem.{OutlineItem as CodeItem}
use Rattle.text_refusals.specs.declared.outline.OutlineItem.TheVariants.{Begins}
use Rattle.text_refusals.proofs.CountedLemmas.{counted, listed_stretch}
use Rattle.text_refusals.proofs.stretch_rows.stretch_after.Goals as goal

pub loop-item-preserved : goal.loop-item-preserved
loop-item-preserved c =
    let items = c.args.items.now in
    let k = c.loop-item.item-index in
    let none : CodeItem = Begins (record { line = 0; name = record { ref_ptr = (0, 0); now = [] }; is_listed = false }) in
    let item = get_or items k none in
    counted stretches_in items k c.loop-item.left none item (item_of item) c.loop-item-test.true refl
    (λ more. listed_stretch (item_of item) more (sym c.is_stretch_item.ensures ∙ c.if-not-is_stretch_item.false)) (omega (arith, c.if-left-eq0.false))
    ∙ c.loop-item.invariant
