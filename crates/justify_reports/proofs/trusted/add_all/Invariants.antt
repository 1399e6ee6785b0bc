use Rattle.std.specs.BTreeSet.{contains}
use Rattle.std.specs.Ordering.{nat_cmp}
use Rattle.justify_reports.proofs.SetLemmas.{HasFront}
use Rattle.justify_reports.proofs.trusted.add_all.Given as goal

abbrev pub invariant-loop-address : goal.invariant-loop-address
invariant-loop-address l = HasFront l.addresses (contains nat_cmp l.initial.set) (contains nat_cmp l.set) l.address-index
