use Rattle.std.proofs.Common.{◌≡◌, ◌≤◌, ◌+◌, ◌++◌, length}
use Rattle.asm_text.specs.Source.{lines_of}
use Rattle.text_refusals.specs.FaultyLines.{lines_left, without}
use Rattle.text_refusals.proofs.source_faults.without.Given as goal

abbrev pub invariant-loop-line : goal.invariant-loop-line
invariant-loop-line l = record {
  count : l.number + length l.rest ≤ length l.source + 1;
  same : l.out.items ++ lines_left l.faulty l.number (lines_of l.rest) ≡ without l.faulty l.source;
}

abbrev pub decreases-loop-line : goal.decreases-loop-line
decreases-loop-line l = length l.rest
