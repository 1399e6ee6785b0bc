use Rattle.std.proofs.Common.{◌≡◌, ◌++◌, true}
use Rattle.std.specs.Map.{keys_of}
use Rattle.std.specs.Vec.Iter.{into_iter_items}
use Rattle.toml_reading.specs.Documents.{are_distinct}
use Rattle.toml_reading.proofs.distinct.by_number.Given as goal

abbrev pub invariant-loop-number : goal.invariant-loop-number
invariant-loop-number g l =
    (l.by.entries ++ into_iter_items l.number-iterator ≡ l.fn.entries.items)
    × (are_distinct (keys_of l.by.entries) ≡ true)
    × (goal.iterator-loop-number g).can_next l.number-iterator
    × (goal.iterator-loop-number g).is_finite l.number-iterator
