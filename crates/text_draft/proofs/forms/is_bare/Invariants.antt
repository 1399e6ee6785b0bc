use Rattle.std.proofs.Common.{◌≡◌, drop}
use Rattle.text_draft.specs.Forms.{is_bare}
use Rattle.text_draft.proofs.forms.is_bare.Given as goal

abbrev pub invariant-loop-byte : goal.invariant-loop-byte
invariant-loop-byte l = is_bare (drop l.byte-index l.text) ≡ is_bare l.text
