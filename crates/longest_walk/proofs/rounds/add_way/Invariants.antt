use Rattle.std.proofs.Common.{◌≡◌, ◌++◌, map, take}
use Rattle.longest_walk.specs.Folded.{open_item}
use Rattle.longest_walk.specs.Ways.{opened_way}
use Rattle.longest_walk.proofs.rounds.add_way.Given as goal

abbrev pub invariant-loop-number : goal.invariant-loop-number
invariant-loop-number l = map open_item l.walk.items ≡ map open_item l.fn.walk.items ++ opened_way l.graph l.tree l.rounds (take l.number-index l.way)
