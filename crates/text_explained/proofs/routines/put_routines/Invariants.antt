use Rattle.std.proofs.Common.{◌≡◌}
use Rattle.longest_walk.specs.Folded.{unfolded}
use Rattle.text_rows.proofs.RowLaws.{SoFar}
use Rattle.text_explained.specs.Sums.{routine_row}
use Rattle.text_explained.proofs.routines.put_routines.Given as goal

abbrev pub invariant-loop-at : goal.invariant-loop-at
invariant-loop-at l =
    SoFar (λ e row. row ≡ routine_row l.lines l.walk.handler.now.graph (unfolded l.walk.longest.now.walk) l.walk.longest.now.bound e.0) l.words l.at-index l.initial.out.items l.out.items
