use Rattle.std.proofs.Common.{◌≡◌, true, take}
use Rattle.toml_reading.specs.Documents.{are_distinct}
use Rattle.toml_reading.proofs.distinct.are_all_distinct.Given as goal

abbrev pub invariant-loop-number : goal.invariant-loop-number
invariant-loop-number l = (l.seen.keys ≡ take l.number-index l.numbers) × (are_distinct l.seen.keys ≡ true)
