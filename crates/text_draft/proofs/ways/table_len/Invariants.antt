use Rattle.text_draft.proofs.WayLaws.{AreBranches}
use Rattle.text_draft.proofs.ways.table_len.Given as goal

abbrev pub invariant-loop-n : goal.invariant-loop-n
invariant-loop-n l = AreBranches l.image l.at l.n
