use Rattle.explain_reports.specs.Each.{IsEachRow}
use Rattle.explain_reports.proofs.EachLemmas.{RowsSoFar}
use Rattle.explain_reports.proofs.each.put_destinations.Given as goal

abbrev pub invariant-loop-destination : goal.invariant-loop-destination
invariant-loop-destination l =
    RowsSoFar (IsEachRow l.sight.read.now l.initial.statement l.sight.profile.now l.at) l.to l.destination-index l.initial.out.items l.out.items l.initial.statement l.statement
