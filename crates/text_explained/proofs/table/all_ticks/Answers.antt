use Rattle.std.proofs.Common.{◌∙◌, ap}
use Rattle.std.specs.BTreeMap.{get}
use Rattle.std.specs.Ordering.{nat_cmp}
use Rattle.text_explained.specs.Table.{image_ticks, source_ticks}
use Rattle.text_explained.proofs.table.all_ticks.Goals as goal

pub returns-in-Lines : goal.returns-in-Lines
returns-in-Lines c =
    let lookup = get nat_cmp c.args.tally.now.by_address in
    rw c.in-Lines.is (c.source_ticks.ensures ∙ ap (source_ticks lookup) c.deref.ensures.value)

pub returns-in_ok-words-in-Image : goal.returns-in_ok-words-in-Image
returns-in_ok-words-in-Image c =
    let lookup = get nat_cmp c.args.tally.now.by_address in
    rw c.in-Image.is (c.image_ticks.ensures ∙ ap (image_ticks lookup) (c.deref-in-Image.ensures.value ∙ c.in_ok-words-in-Image.ensures.words))
