use Rattle.std.proofs.Common.{◌≡◌}
use Rattle.assembler.specs.Codes.{rotation_of}
use Rattle.assembler.proofs.CodeLaws.{rotation_from}
use Rattle.assembler.proofs.encoded.rotation_of.Given as goal

abbrev pub invariant-loop-k : goal.invariant-loop-k
invariant-loop-k l = rotation_from l.k l.n ≡ rotation_of l.n
