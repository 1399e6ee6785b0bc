use Rattle.std.proofs.Common.{◌≡◌, ◌≤◌, ◌+◌, ◌-◌, ◌*◌, ◌^◌}
use Rattle.std.specs.BTreeMap.{get}
use Rattle.std.specs.Ordering.{nat_cmp}
use Rattle.std.specs.Prelude.{find}
use Rattle.assembler.specs.Assembles.{addresses_from}
use Rattle.text_explained.specs.Table.{is_passed}
use Rattle.text_explained.proofs.cost_figures.first_passed.Given as goal

abbrev pub invariant-loop : goal.invariant-loop
invariant-loop l = record {
  room : l.at + 4 * (l.count - l.counter) ≤ 2 ^ 26;
  same : find (is_passed (get nat_cmp l.tally.by_address)) (addresses_from l.at (l.count - l.counter)) ≡ find (is_passed (get nat_cmp l.tally.by_address)) (addresses_from l.from l.count);
}
