use Rattle.std.proofs.Common.{◌≡◌, drop, map}
use Rattle.objasm.specs.Exchanges.{immediate_in}
use Rattle.objasm.specs.Parts.{part_of}
use Rattle.objasm.proofs.exchanges.immediate_in.Given as goal

abbrev pub invariant-loop-index : goal.invariant-loop-index
invariant-loop-index l = immediate_in (map part_of (drop l.index l.tokens)) ≡ immediate_in (map part_of l.tokens)
