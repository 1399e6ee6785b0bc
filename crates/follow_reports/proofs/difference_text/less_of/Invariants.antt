use Rattle.std.proofs.Common.{◌≡◌, take}
use Rattle.follow_reports.specs.Differences.{less}
use Rattle.follow_reports.specs.DifferenceText.{sum_of}
use Rattle.follow_reports.proofs.difference_text.less_of.Given as goal

abbrev pub invariant-loop-difference : goal.invariant-loop-difference
invariant-loop-difference l = l.ticks ≡ sum_of less l.cause (take l.difference-index l.list)
