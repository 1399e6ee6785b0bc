use Rattle.memc.proofs.Fresh.{IsPartly}
use Rattle.memc.proofs.pages.Pages.new.Given as goal

abbrev pub invariant-loop-i : goal.invariant-loop-i
invariant-loop-i l = IsPartly l.shift l.i l.table.items l.held.items
