use Rattle.std.proofs.Common.{◌≡◌, ◌++◌, drop}
use Rattle.std.specs.List.{flat_map}
use Rattle.text_draft.specs.DraftOnText.{entry_table}
use Rattle.text_draft.proofs.additions.put_entry_tables.Given as goal

abbrev pub invariant-loop-entry : goal.invariant-loop-entry
invariant-loop-entry l =
    l.out.items ++ flat_map (entry_table l.sheet.lines.now) (drop l.entry-index l.entries)
    ≡ l.fn.out.items ++ flat_map (entry_table l.sheet.lines.now) l.entries
