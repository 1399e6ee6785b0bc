use Rattle.text_draft.specs.Exploring.{Gains}
use Rattle.text_draft.proofs.WayLaws.{IsPlaceBelow}
use Rattle.text_draft.proofs.ways.push_table.Given as goal

abbrev pub invariant-loop-n : goal.invariant-loop-n
invariant-loop-n l = Gains (IsPlaceBelow l.at l.n) l.fn.out.items l.out.items
