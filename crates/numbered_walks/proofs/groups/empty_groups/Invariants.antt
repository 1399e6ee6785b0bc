use Rattle.std.proofs.Common.{◌≡◌, [], length, All}
use Rattle.numbered_walks.proofs.groups.empty_groups.Given as goal

abbrev pub invariant-loop : goal.invariant-loop
invariant-loop l = (length l.groups.items ≡ l.counter) × All (λ v. v.items ≡ []) l.groups.items
