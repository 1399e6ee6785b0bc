use Rattle.std.proofs.Common.{◌≡◌, ◌++◌, replicate}
use Rattle.text_explained.proofs.cost_columns.put_blanks.Given as goal

abbrev pub invariant-loop : goal.invariant-loop
invariant-loop l = l.out.items ≡ l.initial.out.items ++ replicate l.counter 32
