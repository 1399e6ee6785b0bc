use Rattle.std.proofs.Common.{◌≡◌, ℕ, None, length}
use Rattle.longest_walk.specs.Ways.{rounds_at}
use Rattle.longest_walk.proofs.rounds.no_rounds.Given as goal

abbrev pub invariant-loop : goal.invariant-loop
invariant-loop l = record {
  length : length l.rounds.items ≡ l.counter;
  none : (p : ℕ) → rounds_at l.rounds.items p ≡ None;
}
