use Rattle.std.proofs.Common.{◌≡◌, ◌++◌, drop}
use Rattle.std.specs.List.{flat_map}
use Rattle.text_draft.specs.DraftText.{end_text}
use Rattle.text_draft.proofs.statement_text.Sheet.put_ends.Given as goal

abbrev pub invariant-loop-at : goal.invariant-loop-at
invariant-loop-at l =
    l.out.items ++ flat_map (end_text l.self.lines.now) (drop l.at-index l.ends)
    ≡ l.fn.out.items ++ flat_map (end_text l.self.lines.now) l.ends
