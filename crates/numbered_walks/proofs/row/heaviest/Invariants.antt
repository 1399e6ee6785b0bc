use Rattle.std.proofs.Common.{take}
use Rattle.numbered_walks.specs.Index.{edges_of}
use Rattle.numbered_walks.specs.Tables.{IsHeaviest}
use Rattle.numbered_walks.proofs.row.heaviest.Given as goal

abbrev pub invariant-loop-number : goal.invariant-loop-number
invariant-loop-number l = IsHeaviest l.graph.spans.now l.tables (edges_of l.graph.edges.now (take l.number-index l.group)) l.best
