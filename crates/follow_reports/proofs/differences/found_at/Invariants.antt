use Rattle.std.proofs.Common.{◌≡◌, take}
use Rattle.std.specs.Prelude.{flat_map}
use Rattle.std.specs.BTreeMap.{get}
use Rattle.std.specs.Ordering.{nat_cmp}
use Rattle.follow_reports.specs.Differences.{compared_in, differences_at}
use Rattle.follow_reports.proofs.differences.found_at.Given as goal

abbrev pub invariant-loop-at : goal.invariant-loop-at
invariant-loop-at l =
    l.found.items ≡ flat_map (differences_at (compared_in l.tallies.run.now l.tallies.walk.now) (get nat_cmp l.prices)) (take l.at-index l.words)
