use Rattle.std.proofs.Common.{◌≡◌, ◌++◌, drop}
use Rattle.std.specs.List.{flat_map}
use Rattle.text_draft.specs.DraftText.{loop_text}
use Rattle.text_draft.proofs.statement_text.Sheet.put_loops.Given as goal

abbrev pub invariant-loop-found : goal.invariant-loop-found
invariant-loop-found l =
    l.out.items ++ flat_map (loop_text l.self.lines.now) (drop l.found-index l.loops)
    ≡ l.fn.out.items ++ flat_map (loop_text l.self.lines.now) l.loops
