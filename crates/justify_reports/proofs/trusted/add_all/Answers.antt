use Rattle.std.specs.BTreeSet.{contains}
use Rattle.std.specs.Ordering.{nat_cmp}
use Rattle.justify_reports.proofs.SetLemmas.{front_all, front_more, or_none}
use Rattle.justify_reports.proofs.trusted.add_all.Goals as goal

pub loop-address-init : goal.loop-address-init
loop-address-init c = λ a. or_none (contains nat_cmp c.args.set.now a)

pub loop-address-preserved : goal.loop-address-preserved
loop-address-preserved c =
    front_more c.args.addresses.now (contains nat_cmp c.args.set.now) (contains nat_cmp c.loop-address.set) (contains nat_cmp c.add.new.set) c.loop-address.address-index _
    c.loop-address-test.true c.loop-address.invariant c.in_ok-add.ensures

pub returns : goal.returns
returns c = front_all c.args.addresses.now (contains nat_cmp c.args.set.now) (contains nat_cmp c.loop-address.set) c.loop-address.address-index c.loop-address-test.false c.loop-address.invariant
