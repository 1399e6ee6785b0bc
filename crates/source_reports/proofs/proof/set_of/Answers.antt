use Rattle.std.specs.BTreeSet.{contains}
use Rattle.std.specs.Ordering.{nat_cmp}
use Rattle.source_reports.proofs.ProvedLaws.{front_all, front_more, front_none}
use Rattle.source_reports.proofs.proof.set_of.Goals as goal

pub loop-address-init : goal.loop-address-init
loop-address-init c = front_none c.args.addresses.now (contains nat_cmp c.new-set.result)

pub loop-address-preserved : goal.loop-address-preserved
loop-address-preserved c =
    front_more c.args.addresses.now (contains nat_cmp c.loop-address.set) (contains nat_cmp c.add.new.set) c.loop-address.address-index _
    c.loop-address-test.true c.loop-address.invariant c.in_ok-add.ensures

pub returns : goal.returns
returns c = front_all c.args.addresses.now (contains nat_cmp c.loop-address.set) c.loop-address.address-index c.loop-address-test.false c.loop-address.invariant
