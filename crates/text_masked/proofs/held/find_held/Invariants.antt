use Rattle.text_masked.specs.Held.{AreHeld}
use Rattle.text_masked.proofs.held.find_held.Given as goal

abbrev pub invariant-loop-number : goal.invariant-loop-number
invariant-loop-number l = AreHeld l.marked l.number l.held.items
