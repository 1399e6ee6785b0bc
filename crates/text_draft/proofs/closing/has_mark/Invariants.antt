use Rattle.std.proofs.Common.{◌≡◌, drop}
use Rattle.text_draft.specs.Closed.{has_mark, has_mark_from}
use Rattle.text_draft.proofs.closing.has_mark.Given as goal

abbrev pub invariant-loop-i : goal.invariant-loop-i
invariant-loop-i l = has_mark_from l.spot (drop l.i l.text) ≡ has_mark l.text
