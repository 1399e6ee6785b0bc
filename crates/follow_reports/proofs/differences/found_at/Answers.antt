use Rattle.std.specs.BTreeMap.{get}
use Rattle.std.specs.Ordering.{nat_cmp}
use Rattle.follow_reports.specs.Differences.{compared_in, differences_at}
use Rattle.follow_reports.proofs.DifferenceLemmas.{mapped_more}
use Rattle.follow_reports.proofs.differences.found_at.Goals as goal

pub loop-at-preserved : goal.loop-at-preserved
loop-at-preserved c =
    mapped_more (differences_at (compared_in c.args.tallies.run.now c.args.tallies.walk.now) (get nat_cmp c.args.prices.now)) c.args.words.now c.loop-at.at-index _
    c.loop-at.found.items c.push_word.new.found.items c.loop-at-test.true c.loop-at.invariant c.in_ok-push_word.ensures
