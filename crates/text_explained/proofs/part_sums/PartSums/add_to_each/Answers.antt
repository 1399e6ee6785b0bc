use Rattle.std.proofs.Common.{◌∙◌, ap}
use Rattle.std.specs.BTreeSet.{contains}
use Rattle.std.specs.Ordering.{nat_cmp}
use Rattle.text_explained.specs.PartSums.{with_part}
use Rattle.text_explained.specs.declared.part_sums.PartSum.{PartSum}
use Rattle.text_explained.proofs.PartSumLaws.{added_all, added_next}
use Rattle.text_explained.proofs.part_sums.PartSums.add_to_each.Goals as goal

pub loop-number-preserved : goal.loop-number-preserved
loop-number-preserved c =
    added_next c.loop-number.number-iterator c.next.new.self c.in-Some.number.now (contains nat_cmp c.args.parts.now) c.args.more c.args.self.now.by_number c.loop-number.self.by_number
    c.insert.new.self c.in-Some.ensures.steps c.loop-number.invariant c.with-sum.result (c.with-sum.ensures ∙ ap (λ (s : PartSum). with_part s c.args.more) c.of_part.ensures)
    c.in_ok-insert.ensures.updates.0

pub returns : goal.returns
returns c =
    added_all c.loop-number.number-iterator (contains nat_cmp c.args.parts.now) c.args.more c.args.self.now.by_number c.loop-number.self.by_number c.in-None.ensures.steps.0
    c.loop-number.invariant
