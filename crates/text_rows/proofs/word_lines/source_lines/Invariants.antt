use Rattle.std.proofs.Common.{◌≡◌, ◌≤◌, ◌+◌, ℕ, [], None, drop, eqb, length}
use Rattle.std.specs.Map.{update_all}
use Rattle.asm_text.specs.Source as source
use Rattle.text_rows.specs.LineLabels.{AreNamed}
use Rattle.text_rows.specs.WordLines.{numbered_at, words_of}
use Rattle.text_rows.proofs.word_lines.source_lines.Given as goal

abbrev pub invariant-loop-placed : goal.invariant-loop-placed
invariant-loop-placed l = record {
  count : l.number + length l.rest ≤ length l.program.source.now + 1;
  named : AreNamed l.program.labels.now l.lines;
  words : (at : ℕ) → update_all eqb (numbered_at l.lines) (words_of l.program.labels.now l.number l.before (source.lines_of l.rest) (drop l.placed-index l.program.placed.now)) at
      ≡ update_all eqb (λ a. None) (words_of l.program.labels.now 1 [] (source.lines_of l.program.source.now) l.program.placed.now) at;
}
