-- What is taken of parts, by their numbers, and an edge more.
use Rattle.std.specs.Prelude.{ℕ, ◌+◌, ◌*◌, Bool, false, if◌then◌else◌, List, Option, Some, None}
use Rattle.std.specs.Prelude.{slice_get, unwrap_or}
use Rattle.std.specs.BTreeMap.{BTreeMap, get}
use Rattle.std.specs.BTreeSet.{BTreeSet, contains}
use Rattle.std.specs.Ordering.{nat_cmp}
use Rattle.statement.specs.declared.stated.Loop.{Loop}
use Rattle.walk_counts.specs.Counts.{capped}
use Rattle.text_explained.specs.declared.part_sums.PartSum.{PartSum}

-- ## Sums

abbrev pub nothing : PartSum
nothing = record { times = 0; ticks = 0 }

-- both in all
abbrev pub with_part : PartSum → PartSum → PartSum
with_part s more = record { times = capped (s.times + more.times); ticks = capped (s.ticks + more.ticks) }

abbrev pub added_if : Bool → PartSum → PartSum → PartSum
added_if counts s more = if counts then with_part s more else s

-- with an edge that is taken so many times: its ticks count inside of a part, and it where the part begins
abbrev pub with_edge : (begins inside : Bool) → (count cost : ℕ) → PartSum → PartSum
with_edge begins inside count cost s =
    added_if inside (added_if begins s (record { times = count; ticks = 0 }))
    (record { times = 0; ticks = capped (count * cost) })

-- what is taken of the part with the number
abbrev pub sum_in : BTreeMap ℕ PartSum → ℕ → PartSum
sum_in sums n = unwrap_or (get nat_cmp sums n) nothing

-- ## Groups

abbrev pub has_part : Option (BTreeSet ℕ) → ℕ → Bool
has_part None n = false
has_part (Some parts) n = contains nat_cmp parts n

-- the part with the number stands under the key
abbrev pub in_group : BTreeMap ℕ (BTreeSet ℕ) → (key n : ℕ) → Bool
in_group groups key n = has_part (get nat_cmp groups key) n

-- ## Loops

abbrev pub loop_passes : (Loop → Bool) → Option Loop → Bool
loop_passes test None = false
loop_passes test (Some l) = test l

-- the loop with the number passes the test
abbrev pub passes_at : List Loop → (Loop → Bool) → ℕ → Bool
passes_at loops test n = loop_passes test (slice_get loops n)
