use Rattle.longest_walk.specs.Folded.{unfolded}
use Rattle.text_savings.specs.Carried.{HasAdded}
use Rattle.text_savings.proofs.carried.times_carried_out.Given as goal

abbrev pub invariant-loop-number : goal.invariant-loop-number
invariant-loop-number l = HasAdded l.walk.handler.now.graph.edges (unfolded l.walk.longest.now.walk) l.number l.times
