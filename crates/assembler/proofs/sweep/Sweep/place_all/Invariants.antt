use Rattle.std.proofs.Common.{◌≡◌, ◌≤◌, ◌+◌, ◌-◌, ◌*◌, ◌^◌, drop, length, map}
use Rattle.asm_text.specs.Said.{target_of}
use Rattle.assembler.specs.Sweeps.{all_placed}
use Rattle.assembler.specs.Views.{state_of}
use Rattle.assembler.proofs.sweep.Sweep.place_all.Given as goal

abbrev pub invariant-loop-value : goal.invariant-loop-value
invariant-loop-value l = record {
  room : l.self.at + 4 * (length l.values - l.value-index) ≤ 2 ^ 26;
  few : l.self.words + (length l.values - l.value-index) ≤ 65536;
  same : all_placed (state_of l.self) l.line (map target_of (drop l.value-index l.values)) ≡ all_placed (state_of l.fn.self) l.line (map target_of l.values);
}
