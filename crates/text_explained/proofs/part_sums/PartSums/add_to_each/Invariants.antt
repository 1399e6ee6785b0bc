use Rattle.std.specs.BTreeSet.{contains}
use Rattle.std.specs.Ordering.{nat_cmp}
use Rattle.text_explained.proofs.PartSumLaws.{Adding}
use Rattle.text_explained.proofs.part_sums.PartSums.add_to_each.Given as goal

abbrev pub invariant-loop-number : goal.invariant-loop-number
invariant-loop-number l = Adding l.number-iterator (contains nat_cmp l.parts) l.more l.initial.self.by_number l.self.by_number
