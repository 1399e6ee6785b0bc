use Rattle.std.proofs.Common.{length}
use Rattle.sources.proofs.OriginLaws.{SoFar}
use Rattle.sources.proofs.origins.gathered.Given as goal

abbrev pub invariant-loop-next : goal.invariant-loop-next
invariant-loop-next l = SoFar l.origins l.placed l.numbers l.line l.lines l.out.items

abbrev pub decreases-loop-next : goal.decreases-loop-next
decreases-loop-next l = length l.lines
