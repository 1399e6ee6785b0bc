use Rattle.std.proofs.Common.{◌≡◌, ◌++◌, drop}
use Rattle.text_draft.specs.Closed.{closed, closed_from}
use Rattle.text_draft.proofs.closing.closed.Given as goal

abbrev pub invariant-loop-i : goal.invariant-loop-i
invariant-loop-i l = l.new.items ++ closed_from l.spot (drop l.i l.text) ≡ closed l.text
