use Rattle.std.proofs.Common.{◌≡◌, drop, map}
use Rattle.objasm.specs.Literals.{has_word_name}
use Rattle.objasm.specs.Parts.{part_of}
use Rattle.objasm.proofs.literals.has_word_name.Given as goal

abbrev pub invariant-loop-token : goal.invariant-loop-token
invariant-loop-token l =
    has_word_name (map part_of (drop l.token-index l.parts)) ≡ has_word_name (map part_of l.parts)
