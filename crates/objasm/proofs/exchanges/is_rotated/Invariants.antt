use Rattle.std.proofs.Common.{◌≡◌, false}
use Rattle.objasm.specs.Exchanges.{rotated_below}
use Rattle.objasm.proofs.exchanges.is_rotated.Given as goal

abbrev pub invariant-loop-k : goal.invariant-loop-k
invariant-loop-k l = rotated_below l.k l.n ≡ false
