use Rattle.std.proofs.Common.{◌≡◌, length, take}
use Rattle.numbered_walks.specs.Index.{AreHolders}
use Rattle.numbered_walks.proofs.holders.holders.Given as goal

abbrev pub invariant-loop-span : goal.invariant-loop-span
invariant-loop-span l = (length l.held.items ≡ l.size) × AreHolders (take l.span-index l.spans) l.held.items
