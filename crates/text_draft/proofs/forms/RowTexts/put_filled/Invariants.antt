use Rattle.std.proofs.Common.{◌≡◌, ◌++◌, drop}
use Rattle.text_draft.specs.Forms.{filled, with_rows}
use Rattle.text_draft.proofs.forms.RowTexts.put_filled.Given as goal

abbrev pub invariant-loop-i : goal.invariant-loop-i
invariant-loop-i l =
    l.out.items ++ with_rows l.self.apart.items l.self.rules.items l.self.entries.items l.first (drop l.i l.text)
    ≡ l.fn.out.items ++ filled l.self.apart.items l.self.rules.items l.self.entries.items l.text
