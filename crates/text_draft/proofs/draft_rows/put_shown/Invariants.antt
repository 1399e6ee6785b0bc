use Rattle.std.proofs.Common.{◌≡◌, ◌++◌, map, take}
use Rattle.text_draft.specs.Rows.{shown}
use Rattle.text_draft.proofs.draft_rows.put_shown.Given as goal

abbrev pub invariant-loop-byte : goal.invariant-loop-byte
invariant-loop-byte l = l.out.items ≡ l.fn.out.items ++ map shown (take l.byte-index l.text)
