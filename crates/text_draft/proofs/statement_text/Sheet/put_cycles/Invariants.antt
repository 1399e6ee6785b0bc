use Rattle.std.proofs.Common.{◌≡◌, ◌++◌, drop}
use Rattle.std.specs.List.{flat_map}
use Rattle.text_draft.specs.DraftText.{cycle_text}
use Rattle.text_draft.proofs.statement_text.Sheet.put_cycles.Given as goal

abbrev pub invariant-loop-at : goal.invariant-loop-at
invariant-loop-at l =
    l.out.items ++ flat_map (cycle_text l.self.lines.now) (drop l.at-index l.cycles)
    ≡ l.fn.out.items ++ flat_map (cycle_text l.self.lines.now) l.cycles
