use Rattle.std.proofs.Common.{◌≡◌, ◌++◌, take}
use Rattle.assembler.proofs.text.Line.put_all.Given as goal

abbrev pub invariant-loop-b : goal.invariant-loop-b
invariant-loop-b l = l.self ≡ l.fn.self ++ take l.b-index l.text
