use Rattle.std.proofs.Common.{◌≡◌, ℕ, ◌<◌, false, get_or}
use Rattle.text_masked.specs.Held.{carries, marked_at}
use Rattle.text_masked.proofs.held.is_carried.Given as goal

abbrev pub invariant-loop-k : goal.invariant-loop-k
invariant-loop-k l = (n : ℕ) → n < l.k-index → carries l.held (marked_at l.marked (get_or l.group n 0)) ≡ false
