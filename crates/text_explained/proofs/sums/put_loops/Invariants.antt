use Rattle.std.proofs.Common.{◌≡◌}
use Rattle.longest_walk.specs.Folded.{unfolded}
use Rattle.text_rows.proofs.RowLaws.{SoFar}
use Rattle.text_explained.specs.Sums.{loop_sum, sum_row}
use Rattle.text_explained.proofs.sums.put_loops.Given as goal

abbrev pub invariant-loop-number : goal.invariant-loop-number
invariant-loop-number l =
    SoFar (λ stated row. row ≡ sum_row l.lines l.walk.longest.now.bound stated.header (loop_sum l.table.apart.now l.walk.handler.now.graph (unfolded l.walk.longest.now.walk) stated))
    l.loops l.number l.initial.out.items l.out.items
