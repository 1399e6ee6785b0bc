use Rattle.std.proofs.Common.{◌≡◌, ◌++◌, drop}
use Rattle.std.specs.List.{flat_map}
use Rattle.text_draft.specs.DraftText.{target_text}
use Rattle.text_draft.proofs.statement_text.Sheet.put_targets.Given as goal

abbrev pub invariant-loop-target : goal.invariant-loop-target
invariant-loop-target l =
    l.out.items ++ flat_map (target_text l.self.lines.now) (drop l.target-index l.targets)
    ≡ l.fn.out.items ++ flat_map (target_text l.self.lines.now) l.targets
