use Rattle.std.proofs.Common.{◌≡◌, ◌-◌, ◌++◌, replicate}
use Rattle.text_page.specs.declared.page_lines.PageLine.TheVariants.{Ended}
use Rattle.text_page.proofs.page_lines.put_ends.Given as goal

-- what is left to put is the rest of the whole
abbrev pub invariant-loop : goal.invariant-loop
invariant-loop l = l.lines.items ++ replicate (l.count - l.counter) Ended ≡ l.initial.lines.items ++ replicate l.count Ended
