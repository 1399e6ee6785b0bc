use Rattle.std.proofs.Common.{◌≡◌, ◌++◌, [], drop, take}
use Rattle.machine_file.specs.MachinePlaceTests.{AreSeen, repeats_after}
use Rattle.given_facts.proofs.repeats.repeats.Given as goal

abbrev pub invariant-loop-number : goal.invariant-loop-number
invariant-loop-number l = record {
  seen : AreSeen (take l.number-index l.numbers) l.seen;
  tests : l.tests.items ++ repeats_after (take l.number-index l.numbers) (drop l.number-index l.numbers)
      ≡ repeats_after [] l.numbers;
}
