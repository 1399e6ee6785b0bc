use Rattle.std.specs.BTreeSet.{contains}
use Rattle.std.specs.Ordering.{nat_cmp}
use Rattle.source_reports.proofs.ProvedLaws.{HasFront}
use Rattle.source_reports.proofs.proof.set_of.Given as goal

abbrev pub invariant-loop-address : goal.invariant-loop-address
invariant-loop-address l = HasFront l.addresses (contains nat_cmp l.set) l.address-index
