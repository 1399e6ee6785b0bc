use Rattle.std.proofs.Common.{ap}
use Rattle.std.specs.Prelude.{◌||◌}
use Rattle.std.specs.BTreeSet.{contains}
use Rattle.std.specs.Ordering.{nat_cmp}
use Rattle.text_explained.proofs.SetLaws.{all_put, has, put_next}
use Rattle.text_explained.proofs.part_groups.insert_all.Goals as goal

pub loop-number-preserved : goal.loop-number-preserved
loop-number-preserved c =
    let more = c.args.more.now in
    put_next (contains nat_cmp c.loop-number.parts) (contains nat_cmp c.insert.new.self) (λ n. contains nat_cmp c.args.parts.now n || contains nat_cmp more n)
    c.in-Some.number.now c.loop-number.number-iterator c.next.new.self c.in-Some.ensures.steps c.loop-number.invariant c.in_ok-insert.ensures.updates.0

pub returns : goal.returns
returns c = λ n.
    all_put (contains nat_cmp c.loop-number.parts n) (contains nat_cmp c.args.parts.now n || contains nat_cmp c.args.more.now n) (has c.loop-number.number-iterator n)
    (ap (λ ks. has ks n) c.in-None.ensures.steps.0) (c.loop-number.invariant n)
