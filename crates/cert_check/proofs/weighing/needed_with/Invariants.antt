use Rattle.std.proofs.Common.{◌≡◌, ◌+◌, cond, sum_by, take}
use Rattle.numbered_walks.specs.Tables.{distance_of, is_left, stay_of}
use Rattle.cert_check.proofs.weighing.needed_with.Given as goal

abbrev pub invariant-loop-span : goal.invariant-loop-span
invariant-loop-span l = l.sum ≡ distance_of l.tables l.edge.from + l.edge.cost + sum_by (λ s. cond (is_left l.edge s) (stay_of l.tables s) 0) (take l.span-index l.spans)
