use Rattle.explain_reports.specs.Each.{AreTargetRows}
use Rattle.explain_reports.proofs.EachLemmas.{RowsSoFar}
use Rattle.explain_reports.proofs.each.put_targets.Given as goal

abbrev pub invariant-loop-at : goal.invariant-loop-at
invariant-loop-at l =
    RowsSoFar (AreTargetRows l.sight.read.now l.initial.statement l.sight.profile.now) l.addresses l.at-index l.initial.out.items l.out.items l.initial.statement l.statement
