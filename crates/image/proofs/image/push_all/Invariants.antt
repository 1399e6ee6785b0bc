use Rattle.std.proofs.Common.{◌≡◌, ◌++◌, take}
use Rattle.image.proofs.image.push_all.Given as goal

abbrev pub invariant-loop-entry : goal.invariant-loop-entry
invariant-loop-entry l = l.words.items ≡ l.initial.words.items ++ take l.entry-index l.more
