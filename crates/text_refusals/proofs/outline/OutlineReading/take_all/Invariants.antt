use Rattle.std.proofs.Common.{◌≡◌, ◌-◌, length}
use Rattle.text_refusals.specs.Outline.{all_taken, tokens, reading_of}
use Rattle.text_refusals.proofs.outline.OutlineReading.take_all.Given as goal

abbrev pub invariant-loop : goal.invariant-loop
invariant-loop l = record {
  last : l.end ≡ length l.text;
  same : all_taken l.line (reading_of l.self) (tokens (l.end - l.counter) l.rest) ≡ all_taken l.line (reading_of l.fn.self) (tokens (length l.text) l.text);
}
