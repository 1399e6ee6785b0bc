use Rattle.std.proofs.Common.{◌≡◌, ◌++◌, drop}
use Rattle.std.specs.Prelude.{map}
use Rattle.text_draft.specs.Grounds.{with_claim}
use Rattle.text_draft.proofs.grounds.all_with_claim.Given as goal

abbrev pub invariant-loop-one : goal.invariant-loop-one
invariant-loop-one l = l.found.items ++ map (with_claim l.claims) (drop l.one-index l.loops) ≡ map (with_claim l.claims) l.loops
