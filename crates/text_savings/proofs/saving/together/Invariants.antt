use Rattle.std.proofs.Common.{◌≡◌, sum_by, take}
use Rattle.walk_counts.specs.Counts.{capped}
use Rattle.text_savings.specs.Savings.{ticks_saved}
use Rattle.text_savings.proofs.saving.together.Given as goal

abbrev pub invariant-loop-saving : goal.invariant-loop-saving
invariant-loop-saving l = l.ticks ≡ capped (sum_by ticks_saved (take l.saving-index l.list))
