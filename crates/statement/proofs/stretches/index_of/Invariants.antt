use Rattle.std.proofs.Common.{take}
use Rattle.std.specs.Prelude.{AllPairs}
use Rattle.statement.specs.Stated.{ShareNoWord}
use Rattle.statement.specs.Stretches.{AreOf, number_for}
use Rattle.statement.proofs.stretches.index_of.Given as goal

abbrev pub invariant-loop-number : goal.invariant-loop-number
invariant-loop-number l = record {
  held : AreOf l.index (number_for (take l.number l.rules));
  apart : AllPairs ShareNoWord (take l.number l.rules);
}
