use Rattle.std.proofs.Common.{◌≡◌, ℕ}
use Rattle.text_explained.specs.PartSums.{in_group}
use Rattle.text_explained.proofs.LoopTableLaws.{grouped_to}
use Rattle.text_explained.proofs.loop_table.grouped.Given as goal

abbrev pub invariant-loop-number : goal.invariant-loop-number
invariant-loop-number l = (at n : ℕ) → in_group l.groups.by_key at n ≡ grouped_to l.apart l.loops l.cuts l.number at n
