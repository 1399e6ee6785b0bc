use Rattle.std.proofs.Common.{◌≡◌, ◌+◌, drop}
use Rattle.image.specs.Writing.{run_after}
use Rattle.image.proofs.writing.run_after.Given as goal

abbrev pub invariant-loop-count : goal.invariant-loop-count
invariant-loop-count l = run_after l.address l.words ≡ l.count + run_after l.before (drop l.count l.words)
