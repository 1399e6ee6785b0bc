use Rattle.std.proofs.Common.{◌≡◌, take}
use Rattle.text_explained.specs.Printed.{widest}
use Rattle.text_explained.proofs.printed_rows.widest.Given as goal

abbrev pub invariant-loop-line : goal.invariant-loop-line
invariant-loop-line l = l.width ≡ widest (take l.line-index l.lines) l.column
