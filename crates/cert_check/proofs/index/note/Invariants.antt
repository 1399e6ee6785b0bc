use Rattle.std.proofs.Common.{◌≡◌, List, length}
use Rattle.numbered_walks.specs.declared.span.Span.{Span}
use Rattle.numbered_walks.specs.Index.{AreHeldTo, AreHolders}
use Rattle.cert_check.proofs.index.note.Given as goal

abbrev pub invariant-loop-number : goal.invariant-loop-number
invariant-loop-number l = (length l.held.items ≡ length l.initial.held.items) × ((seen : List Span) → AreHolders seen l.initial.held.items → AreHeldTo seen l.span l.number l.held.items)
