use Rattle.std.proofs.Common.{take}
use Rattle.text_draft.specs.Candidates.{HasWord, IsLiteral}
use Rattle.text_draft.specs.Exploring.{Gains}
use Rattle.text_draft.proofs.candidates.push_literals.Given as goal

abbrev pub invariant-loop-word : goal.invariant-loop-word
invariant-loop-word l =
    Gains (λ a. HasWord l.image a × IsLiteral (take l.word-index l.words) a) l.fn.out.items l.out.items
