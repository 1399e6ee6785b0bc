use Rattle.std.proofs.Common.{◌≡◌, map, take}
use Rattle.statement.proofs.ApartLemmas.{pair_of}
use Rattle.statement.proofs.apart.sorted.Given as goal

abbrev pub invariant-loop-stretch : goal.invariant-loop-stretch
invariant-loop-stretch l = l.reaches.items ≡ map pair_of (take l.stretch-index l.stretches)
