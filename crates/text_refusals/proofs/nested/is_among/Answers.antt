use Rattle.std.proofs.Common.{arith}
use Rattle.std.proofs.lemmas.Bool.{false≢true}
use Rattle.text_refusals.proofs.NestedLemmas.{none_is}
use Rattle.text_refusals.proofs.nested.is_among.Goals as goal

pub returns : goal.returns
returns c = (
  (λ none. absurd (false≢true none)),
  (λ has. absurd (none_is c.args.found.now c.args.one.now (λ k d lt. c.loop-other.invariant k d (omega (arith, lt, c.loop-other-test.false))) has)),
)
