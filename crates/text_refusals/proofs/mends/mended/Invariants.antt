use Rattle.text_refusals.specs.Mends.{SetsApart}
use Rattle.text_refusals.proofs.mends.mended.Given as goal

abbrev pub invariant-loop : goal.invariant-loop
invariant-loop l = SetsApart l.loops l.current
