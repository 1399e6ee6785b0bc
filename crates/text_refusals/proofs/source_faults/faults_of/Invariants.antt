use Rattle.std.proofs.Common.{◌++◌, List}
use Rattle.text_refusals.specs.FaultyLines.{AreFaults}
use Rattle.text_refusals.specs.declared.source_faults.FaultyLine.{FaultyLine}
use Rattle.text_refusals.specs.declared.word_rows.TheConstants.{MOST_LINES}
use Rattle.text_refusals.proofs.source_faults.faults_of.Given as goal

abbrev pub invariant-loop-left : goal.invariant-loop-left
invariant-loop-left l = (more : List FaultyLine) → AreFaults l.left l.text.items more → AreFaults MOST_LINES l.source (l.found.items ++ more)

abbrev pub decreases-loop-left : goal.decreases-loop-left
decreases-loop-left l = l.left
