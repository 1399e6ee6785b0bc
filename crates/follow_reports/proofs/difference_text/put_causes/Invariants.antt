use Rattle.std.proofs.Common.{◌≡◌, ◌++◌, take}
use Rattle.std.specs.Prelude.{flat_map}
use Rattle.follow_reports.specs.DifferenceText.{cause_row}
use Rattle.follow_reports.proofs.difference_text.put_causes.Given as goal

abbrev pub invariant-loop-cause : goal.invariant-loop-cause
invariant-loop-cause l = l.out.items ≡ l.initial.out.items ++ flat_map (cause_row l.list) (take l.cause-index l.causes)
