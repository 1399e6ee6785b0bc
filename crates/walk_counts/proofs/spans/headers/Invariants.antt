use Rattle.std.proofs.Common.{◌≡◌, ◌+◌, length, take}
use Rattle.numbered_walks.specs.Index.{AreHeaders}
use Rattle.walk_counts.proofs.spans.headers.Given as goal

abbrev pub invariant-loop-span : goal.invariant-loop-span
invariant-loop-span l = (length l.headers.items ≡ l.exit + 1) × AreHeaders (take l.span-index l.spans) l.headers.items
