use Rattle.std.proofs.Common.{◌≡◌, ◌++◌, ◌-◌}
use Rattle.std.specs.List.{flat_map}
use Rattle.text_draft.specs.DraftText.{destination_text, words_from}
use Rattle.text_draft.proofs.statement_text.Sheet.put_each_destination.Given as goal

abbrev pub invariant-loop : goal.invariant-loop
invariant-loop l =
    l.out.items ++ flat_map (destination_text l.self.lines.now) (words_from l.at (l.fn.table.branches - l.counter))
    ≡ l.fn.out.items ++ flat_map (destination_text l.self.lines.now) (words_from l.fn.table.first l.fn.table.branches)
