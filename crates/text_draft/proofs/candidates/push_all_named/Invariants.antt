use Rattle.std.proofs.Common.{take}
use Rattle.text_draft.specs.Candidates.{HasWord, IsNamedAt}
use Rattle.text_draft.specs.Exploring.{Gains}
use Rattle.text_draft.proofs.candidates.push_all_named.Given as goal

abbrev pub invariant-loop-at : goal.invariant-loop-at
invariant-loop-at l =
    Gains (λ a. HasWord l.image a × IsNamedAt l.image (take l.at-index l.addresses) a) l.fn.out.items l.out.items
