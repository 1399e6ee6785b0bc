use Rattle.std.proofs.Common.{◌≡◌, ◌<◌, ◌≤◌, ◌+◌, ◌-◌, ◌*◌, ◌^◌, sum_by}
use Rattle.std.specs.BTreeMap.{get}
use Rattle.std.specs.Ordering.{nat_cmp}
use Rattle.assembler.specs.Assembles.{addresses_from}
use Rattle.walk_counts.specs.Counts.{capped}
use Rattle.text_explained.specs.Table.{ticks_in, ticks_of}
use Rattle.text_explained.proofs.cost_figures.ticks_in.Given as goal

abbrev pub invariant-loop : goal.invariant-loop
invariant-loop l = record {
  small : l.ticks < 2 ^ 64;
  room : l.at + 4 * (l.count - l.counter) ≤ 2 ^ 26;
  same : capped (l.ticks + sum_by (λ a. ticks_of (get nat_cmp l.tally.by_address a)) (addresses_from l.at (l.count - l.counter))) ≡ ticks_in (get nat_cmp l.tally.by_address) l.from l.count;
}
