use Rattle.std.proofs.Common.{length}
use Rattle.statement.specs.Stretches.{IsJoined}
use Rattle.statement.proofs.stretches.join.Given as goal

abbrev pub invariant-loop-last : goal.invariant-loop-last
invariant-loop-last l = IsJoined l.initial.stretches l.fn.stretch l.stretches l.whole

abbrev pub decreases-loop-last : goal.decreases-loop-last
decreases-loop-last l = length l.stretches.entries
