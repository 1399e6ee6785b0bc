use Rattle.std.proofs.Common.{ℕ, ◌<◌}
use Rattle.bus_ticks.specs.Prices.{word_address}
use Rattle.bus_ticks.specs.Worst.{IsOf}
use Rattle.kept_runs.proofs.transfers.other_word.Given as goal

abbrev pub invariant-loop-word : goal.invariant-loop-word
invariant-loop-word l = (i : ℕ) → i < l.word → IsOf l.class (word_address l.transfer.address i)
