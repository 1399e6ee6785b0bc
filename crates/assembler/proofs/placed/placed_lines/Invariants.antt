use Rattle.std.proofs.Common.{◌≡◌, ◌≤◌, ◌+◌, ◌^◌, length}
use Rattle.asm_text.specs.Source.{lines_of}
use Rattle.assembler.specs.Sweeps.{at_first, swept}
use Rattle.assembler.specs.Views.{state_of}
use Rattle.assembler.proofs.PlaceLemmas.{SoFar}
use Rattle.assembler.proofs.placed.placed_lines.Given as goal

abbrev pub invariant-loop-text : goal.invariant-loop-text
invariant-loop-text l = record {
  within : l.sweep.at ≤ 2 ^ 26;
  count : l.number + length l.rest ≤ length l.source + 1;
  same : swept (state_of l.sweep) l.number (lines_of l.rest) ≡ swept at_first 1 (lines_of l.source);
  places : SoFar (lines_of l.source) (lines_of l.rest) l.sweep.at l.placed.items;
}

abbrev pub decreases-loop-text : goal.decreases-loop-text
decreases-loop-text l = length l.rest
