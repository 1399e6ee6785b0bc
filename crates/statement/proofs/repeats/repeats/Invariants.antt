use Rattle.std.proofs.Common.{◌≡◌, ◌++◌, [], drop, take}
use Rattle.statement.specs.PlaceTests.{AreSeen, tests_after, was_there}
use Rattle.statement.proofs.repeats.repeats.Given as goal

abbrev pub invariant-loop-number : goal.invariant-loop-number
invariant-loop-number l = record {
  seen : AreSeen (take l.number-index l.numbers) l.seen;
  tests : l.tests.items ++ tests_after was_there (take l.number-index l.numbers) (drop l.number-index l.numbers)
      ≡ tests_after was_there [] l.numbers;
}
