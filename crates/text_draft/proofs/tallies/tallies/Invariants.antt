use Rattle.std.proofs.Common.{take}
use Rattle.text_draft.specs.Tallies.{AreTallies}
use Rattle.text_draft.proofs.tallies.tallies.Given as goal

abbrev pub invariant-loop-access : goal.invariant-loop-access
invariant-loop-access l = AreTallies (take l.access-index l.accesses) l.table.items
