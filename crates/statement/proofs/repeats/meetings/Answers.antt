use Rattle.std.proofs.Common.{◌+◌, ◌++◌, None, drop, ap, subst, take, ◌∙◌}
use Rattle.statement.specs.PlaceTests.{is_covered, tests_after, was_met}
use Rattle.statement.specs.Stretches.{AreOf}
use Rattle.statement.proofs.RepeatLemmas.{all_tested, take_next, tests_more}
use Rattle.statement.proofs.repeats.meetings.Goals as goal

pub loop-stretch-preserved : goal.loop-stretch-preserved
loop-stretch-preserved c =
    let xs = c.args.stretches.now in
    let i = c.loop-stretch.stretch-index in
    record {
      held =
          subst (λ before. AreOf c.meet.new.covered (is_covered before)) (take_next xs i None c.loop-stretch-test.true)
          (c.in_ok-known.ensures.added (take i xs) c.loop-stretch.invariant.held);
      tests =
          ap (λ tests. tests ++ tests_after was_met (take (i + 1) xs) (drop (i + 1) xs)) c.in_ok-push.ensures.items
          ∙ tests_more was_met xs c.loop-stretch.tests.items i None c.in_ok-known.known c.loop-stretch-test.true
          (c.in_ok-known.ensures.known (take i xs) c.loop-stretch.invariant.held) c.loop-stretch.invariant.tests;
    }

pub returns : goal.returns
returns c =
    all_tested was_met c.args.stretches.now c.loop-stretch.tests.items c.loop-stretch.stretch-index c.loop-stretch-test.false
    c.loop-stretch.invariant.tests
