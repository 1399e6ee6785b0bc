use Rattle.std.proofs.Common.{◌≡◌, [], length, All}
use Rattle.cert_check.proofs.index.no_holders.Given as goal

abbrev pub invariant-loop : goal.invariant-loop
invariant-loop l = (length l.held.items ≡ l.counter) × All (λ v. v.items ≡ []) l.held.items
