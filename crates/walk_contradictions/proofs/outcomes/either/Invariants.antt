use Rattle.std.proofs.Common.{◌≡◌, length}
use Rattle.walk_contradictions.proofs.FlagLemmas.{IsEither}
use Rattle.walk_contradictions.proofs.outcomes.either.Given as goal

abbrev pub invariant-loop-number : goal.invariant-loop-number
invariant-loop-number l = IsEither l.both l.first l.second l.number × (length l.both ≡ 16)
