use Rattle.std.proofs.Common.{◌≡◌, ◌≤◌, ◌-◌, map}
use Rattle.std.specs.List.{range_with_len}
use Rattle.progress.specs.Shown.{Shows, writing_line}
use Rattle.progress.proofs.lines.show_stretches.Given as goal

abbrev pub invariant-loop-stretch : goal.invariant-loop-stretch
invariant-loop-stretch g l = record {
  shown : Shows g.E.Output.taken g.E.Output.failures l.fn.err l.err (map writing_line (range_with_len l.first (l.stretch - l.first)));
  none : l.last ≤ l.first → l.stretch ≡ l.first;
}
