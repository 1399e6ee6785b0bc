use Rattle.std.proofs.Common.{take}
use Rattle.longest_walk.specs.Folded.{unfolded}
use Rattle.walk_contradictions.specs.Sieve.{IsSieve}
use Rattle.walk_contradictions.proofs.sieve.Sieve.+sieve.Given as goal

abbrev pub invariant-of-loop-number : goal.invariant-of-loop-number
invariant-of-loop-number l = IsSieve l.image (unfolded (take l.number l.items)) l.sieve
