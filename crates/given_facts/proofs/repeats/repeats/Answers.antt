use Rattle.std.proofs.Common.{◌+◌, ◌++◌, None, drop, ap, subst, take, ◌∙◌}
use Rattle.machine_file.specs.MachinePlaceTests.{AreSeen, repeats_after}
use Rattle.given_facts.proofs.RepeatLemmas.{all_tested, repeats_more, take_next}
use Rattle.given_facts.proofs.repeats.repeats.Goals as goal

pub loop-number-preserved : goal.loop-number-preserved
loop-number-preserved c =
    let xs = c.args.numbers.now in
    let i = c.loop-number.number-index in
    record {
      seen =
          subst (λ before. AreSeen before c.add.new.seen) (take_next xs i None c.loop-number-test.true)
          (c.in_ok-known.ensures.added (take i xs) c.loop-number.invariant.seen);
      tests =
          ap (λ tests. tests ++ repeats_after (take (i + 1) xs) (drop (i + 1) xs)) c.in_ok-push.ensures.items
          ∙ repeats_more xs c.loop-number.tests.items i None c.in_ok-known.known c.loop-number-test.true
          (c.in_ok-known.ensures.known (take i xs) c.loop-number.invariant.seen) c.loop-number.invariant.tests;
    }

pub returns : goal.returns
returns c =
    all_tested c.args.numbers.now c.loop-number.tests.items c.loop-number.number-index c.loop-number-test.false
    c.loop-number.invariant.tests
