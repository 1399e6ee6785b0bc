use Rattle.std.proofs.Common.{◌≡◌, ◌++◌}
use Rattle.assembler.specs.ShownLines.{listed_below}
use Rattle.assembler.proofs.text.Line.push_registers.Given as goal

abbrev pub invariant-loop-n : goal.invariant-loop-n
invariant-loop-n l = l.self ≡ l.fn.self ++ listed_below l.list l.n
