use Rattle.std.proofs.Common.{◌≡◌, ℕ, ◌<◌, false, List, Contains}
use Rattle.numbered_walks.specs.declared.span.Span.{Span}
use Rattle.numbered_walks.specs.Index.{AreHolders}
use Rattle.text_masked.specs.Held.{enters_turned, marked_at}
use Rattle.text_masked.proofs.region.enters_some_turned.Given as goal

abbrev pub invariant-loop-edge : goal.invariant-loop-edge
invariant-loop-edge l =
    (spans : List Span) → AreHolders spans l.holders → (n : ℕ) → n < l.edge-index → (s : Span) → Contains spans s
    → enters_turned l.turned s (marked_at l.marked n) ≡ false
