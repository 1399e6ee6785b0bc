use Rattle.std.proofs.Common.{◌≡◌, ◌++◌, drop}
use Rattle.std.specs.List.{flat_map}
use Rattle.text_draft.specs.DraftText.{candidate_text}
use Rattle.text_draft.proofs.statement_text.Sheet.put_each_candidate.Given as goal

abbrev pub invariant-loop-at : goal.invariant-loop-at
invariant-loop-at l =
    l.out.items ++ flat_map (candidate_text l.self.lines.now) (drop l.at-index l.candidates)
    ≡ l.fn.out.items ++ flat_map (candidate_text l.self.lines.now) l.candidates
