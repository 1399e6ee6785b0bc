use Rattle.std.proofs.Common.{◌≡◌, take}
use Rattle.std.specs.BTreeMap.{get}
use Rattle.std.specs.Ordering.{nat_cmp}
use Rattle.text_explained.specs.Table.{image_ticks}
use Rattle.text_explained.proofs.image_rows.image_ticks.Given as goal

abbrev pub invariant-loop-at : goal.invariant-loop-at
invariant-loop-at l = l.ticks ≡ image_ticks (get nat_cmp l.tally.by_address) (take l.at-index l.words)
