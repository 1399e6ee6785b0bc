use Rattle.std.proofs.Common.{◌≡◌, ◌+◌, length, take}
use Rattle.numbered_walks.specs.Index.{AreHolders}
use Rattle.cert_check.proofs.index.holders.Given as goal

abbrev pub invariant-loop-span : goal.invariant-loop-span
invariant-loop-span l = (length l.held.items ≡ l.exit + 1) × AreHolders (take l.span-index l.spans) l.held.items
