use Rattle.std.proofs.Common.{◌≡◌, ℕ}
use Rattle.longest_walk.specs.Folded.{unfolded}
use Rattle.text_explained.specs.PartSums.{sum_in}
use Rattle.text_explained.specs.Sums.{sum_to}
use Rattle.text_explained.proofs.part_sums.PartSums.of_walk.Given as goal

abbrev pub invariant-loop-number : goal.invariant-loop-number
invariant-loop-number g l =
    (n : ℕ)
    → sum_in l.sums.by_number n ≡ sum_to l.walk.handler.now.graph.edges (unfolded l.walk.longest.now.walk) l.number (g.P.Parts.begins l.parts n) (g.P.Parts.inside l.parts n)
