use Rattle.responses.specs.Arriving.{AreWays, is_number_at}
use Rattle.responses.proofs.ways.find_ways.Given as goal

abbrev pub invariant-loop-number : goal.invariant-loop-number
invariant-loop-number l = AreWays l.tree.edges (is_number_at l.graph l.tree l.address) l.number l.ways.items
