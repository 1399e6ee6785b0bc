use Rattle.std.proofs.Common.{◌≡◌, ◌+◌, ◌≤◌, length}
use Rattle.asm_text.specs.Source.{lines_of}
use Rattle.text_refusals.specs.Outline.{lines_read, nothing_read, reading_of, table_keys_of}
use Rattle.text_refusals.proofs.outline.items_of.Given as goal

abbrev pub invariant-loop-first : goal.invariant-loop-first
invariant-loop-first l = record {
  count : l.line + length l.rest ≤ length l.text + 1;
  same : lines_read l.line (reading_of l.read) (lines_of l.rest) ≡ lines_read 1 (nothing_read (table_keys_of l.keys)) (lines_of l.text);
}

abbrev pub decreases-loop-first : goal.decreases-loop-first
decreases-loop-first l = length l.rest
