use Rattle.std.proofs.Common.{◌≡◌, take}
use Rattle.std.specs.BTreeMap.{get}
use Rattle.std.specs.Ordering.{nat_cmp}
use Rattle.text_explained.specs.Table.{source_ticks}
use Rattle.text_explained.proofs.table.source_ticks.Given as goal

abbrev pub invariant-loop-line : goal.invariant-loop-line
invariant-loop-line l = l.ticks ≡ source_ticks (get nat_cmp l.tally.by_address) (take l.line-index l.placed)
