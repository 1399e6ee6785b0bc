use Rattle.control_flow.proofs.StrayLemmas.{IsSought}
use Rattle.control_flow.proofs.strays.stray_target.Given as goal

abbrev pub invariant-loop-address : goal.invariant-loop-address
invariant-loop-address l = IsSought l.image l.statement l.address-iterator
