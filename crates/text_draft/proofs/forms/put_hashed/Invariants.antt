use Rattle.std.proofs.Common.{◌≡◌, ◌++◌, drop}
use Rattle.text_draft.specs.Forms.{hashed}
use Rattle.text_draft.proofs.forms.put_hashed.Given as goal

abbrev pub invariant-loop-i : goal.invariant-loop-i
invariant-loop-i l = l.out.items ++ hashed (drop l.i l.text) ≡ l.fn.out.items ++ hashed l.text
