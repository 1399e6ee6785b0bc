use Rattle.std.proofs.Common.{◌≡◌, length}
use Rattle.numbered_walks.specs.Index.{AreGrouped}
use Rattle.numbered_walks.proofs.groups.grouped.Given as goal

abbrev pub invariant-loop-number : goal.invariant-loop-number
invariant-loop-number l = (length l.groups.items ≡ l.size) × AreGrouped l.edges l.number l.up l.groups.items
