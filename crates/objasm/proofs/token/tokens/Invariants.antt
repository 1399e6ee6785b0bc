use Rattle.std.proofs.Common.{◌≡◌, ◌++◌, length, map}
use Rattle.objasm.specs.Parts.{parts, part_of}
use Rattle.objasm.proofs.token.tokens.Given as goal

abbrev pub invariant-loop-token : goal.invariant-loop-token
invariant-loop-token l = map part_of l.found.items ++ parts l.rest ≡ parts l.fn.text

abbrev pub decreases-loop-token : goal.decreases-loop-token
decreases-loop-token l = length l.rest
