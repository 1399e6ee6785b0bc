use Rattle.std.proofs.Common.{◌≤◌, drop, length}
use Rattle.text_explained.proofs.FoldingLaws.{IsShownSoFar}
use Rattle.text_explained.proofs.folding.put_shown.Given as goal

abbrev pub invariant-loop : goal.invariant-loop
invariant-loop l = record {
  within : l.begun ≤ length l.rows;
  count : l.counter ≤ l.begun;
  so_far : IsShownSoFar l.all l.rows (drop l.begun l.rows) l.initial.lines.items l.lines.items;
}
