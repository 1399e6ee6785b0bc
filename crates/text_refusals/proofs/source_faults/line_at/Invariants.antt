use Rattle.std.proofs.Common.{◌≡◌, [], length}
use Rattle.std.specs.Prelude.{slice_index_or}
use Rattle.asm_text.specs.Source.{lines_of}
use Rattle.text_refusals.proofs.source_faults.line_at.Given as goal

abbrev pub invariant-loop-line : goal.invariant-loop-line
invariant-loop-line l = slice_index_or (lines_of l.rest) l.left [] ≡ slice_index_or (lines_of l.source) l.index []

abbrev pub decreases-loop-line : goal.decreases-loop-line
decreases-loop-line l = length l.rest
