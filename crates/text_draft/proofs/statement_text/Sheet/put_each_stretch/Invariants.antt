use Rattle.std.proofs.Common.{◌≡◌, ◌++◌, drop}
use Rattle.std.specs.List.{flat_map}
use Rattle.text_draft.specs.DraftText.{stretch_text}
use Rattle.text_draft.proofs.statement_text.Sheet.put_each_stretch.Given as goal

abbrev pub invariant-loop-stretch : goal.invariant-loop-stretch
invariant-loop-stretch l =
    l.out.items ++ flat_map (stretch_text l.self.lines.now) (drop l.stretch-index l.stretches)
    ≡ l.fn.out.items ++ flat_map (stretch_text l.self.lines.now) l.stretches
