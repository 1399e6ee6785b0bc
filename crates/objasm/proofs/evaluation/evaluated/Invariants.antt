use Rattle.std.proofs.Common.{◌≡◌, drop, reverse}
use Rattle.objasm.specs.Evaluation.{evaluated, run}
use Rattle.objasm.proofs.evaluation.evaluated.Given as goal

abbrev pub invariant-loop-symbol : goal.invariant-loop-symbol
invariant-loop-symbol l = run (reverse l.stack.items) l.place (drop l.symbol-index l.symbols) ≡ evaluated l.symbols
