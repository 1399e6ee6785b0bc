use Rattle.std.proofs.Common.{◌≡◌, ◌++◌, drop}
use Rattle.std.specs.List.{flat_map}
use Rattle.text_draft.specs.DraftText.{entry_text}
use Rattle.text_draft.proofs.statement_text.Sheet.put_each_entry.Given as goal

abbrev pub invariant-loop-access : goal.invariant-loop-access
invariant-loop-access l =
    l.out.items ++ flat_map (entry_text l.self.lines.now) (drop l.access-index l.entries)
    ≡ l.fn.out.items ++ flat_map (entry_text l.self.lines.now) l.entries
