use Rattle.std.proofs.Common.{◌≡◌, ◌++◌, [], drop, take}
use Rattle.statement.specs.PlaceTests.{is_covered, tests_after, was_met}
use Rattle.statement.specs.Stretches.{AreOf}
use Rattle.statement.proofs.repeats.meetings.Given as goal

abbrev pub invariant-loop-stretch : goal.invariant-loop-stretch
invariant-loop-stretch l = record {
  held : AreOf l.covered (is_covered (take l.stretch-index l.stretches));
  tests : l.tests.items ++ tests_after was_met (take l.stretch-index l.stretches) (drop l.stretch-index l.stretches)
      ≡ tests_after was_met [] l.stretches;
}
