use Rattle.std.proofs.Common.{◌≡◌, drop}
use Rattle.text_draft.specs.Forms.{any_behind, begins_so}
use Rattle.text_draft.proofs.forms.ListKey.has_line.Given as goal

abbrev pub invariant-loop-i : goal.invariant-loop-i
invariant-loop-i l = any_behind (begins_so l.self l.start) (drop l.i l.text) ≡ any_behind (begins_so l.self l.start) l.text
