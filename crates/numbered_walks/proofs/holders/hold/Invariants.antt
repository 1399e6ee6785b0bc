use Rattle.std.proofs.Common.{◌≡◌, List, length}
use Rattle.numbered_walks.specs.declared.span.Span.{Span}
use Rattle.numbered_walks.specs.Index.{AreHolders}
use Rattle.numbered_walks.specs.Index.{AreHeldTo}
use Rattle.numbered_walks.proofs.holders.hold.Given as goal

abbrev pub invariant-loop-number : goal.invariant-loop-number
invariant-loop-number l = (length l.held.items ≡ length l.initial.held.items) × ((seen : List Span) → AreHolders seen l.initial.held.items → AreHeldTo seen l.span l.number l.held.items)
