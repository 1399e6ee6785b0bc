use Rattle.std.specs.BTreeSet.{contains}
use Rattle.std.specs.Ordering.{nat_cmp}
use Rattle.text_explained.specs.Idle.{IsEntryRow, is_with_others}
use Rattle.text_rows.proofs.RowLaws.{so_far_all, so_far_one}
use Rattle.text_explained.proofs.idle.put_entries.Goals as goal

pub loop-address-preserved : goal.loop-address-preserved
loop-address-preserved c =
    so_far_one (IsEntryRow c.args.seen.image.now (contains nat_cmp c.args.seen.done.now) (contains nat_cmp c.args.seen.reached.now) (is_with_others c.args.seen.together (contains nat_cmp c.args.seen.reached.now)) c.args.entry) c.args.at.now c.loop-address.address-index _ c.args.out.now.items c.loop-address.out.items
    c.put_entry.new.out.items c.loop-address.invariant c.loop-address-test.true c.in_ok-put_entry.ensures

pub returns : goal.returns
returns c =
    so_far_all (IsEntryRow c.args.seen.image.now (contains nat_cmp c.args.seen.done.now) (contains nat_cmp c.args.seen.reached.now) (is_with_others c.args.seen.together (contains nat_cmp c.args.seen.reached.now)) c.args.entry) c.args.at.now c.loop-address.address-index c.args.out.now.items c.loop-address.out.items
    c.loop-address.invariant c.loop-address-test.false
