use Rattle.std.proofs.Common.{take}
use Rattle.text_draft.specs.Exploring.{Gains}
use Rattle.text_draft.proofs.StatedLaws.{IsKnown}
use Rattle.text_draft.proofs.ways.push_known.Given as goal

abbrev pub invariant-loop-to : goal.invariant-loop-to
invariant-loop-to l = Gains (IsKnown (take l.to-index l.destinations)) l.fn.out.items l.out.items
