use Rattle.std.proofs.Common.{◌≡◌, ◌-◌, ◌++◌, replicate}
use Rattle.text_draft.proofs.draft_rows.put_blanks.Given as goal

abbrev pub invariant-loop : goal.invariant-loop
invariant-loop l = l.out.items ++ replicate (l.count - l.counter) 32 ≡ l.fn.out.items ++ replicate l.count 32
