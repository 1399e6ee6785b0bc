-- The order of places, which is that of certificates.
use Rattle.std.specs.Prelude.{ℕ, ◌<◌, ◌≤◌, List, [], length, slice_index_or, All}
use Rattle.std.specs.Ordering.{nat_cmp, ordering_then}
use Rattle.std.specs.Cmp.Lexicographic.{slice_cmp}
use Rattle.std.specs.declared.cmp.Ordering.{Ordering}
use Rattle.std.specs.declared.cmp.Ordering.TheVariants.{Less, Equal, Greater}
use Rattle.bus_ticks.specs.declared.space.TheConstants.{SPACE_END}
use Rattle.control_flow.specs.declared.call_list.TheConstants.{MOST_CALLS}
use Rattle.control_flow.specs.declared.places.Place.{Place}
use Rattle.control_flow.specs.declared.places.Place.TheVariants.{At, Exit}

-- call lists address by address, a prefix first; then the address; Exit last
abbrev pub place_cmp : Place → Place → Ordering
place_cmp (At c a) (At d b) = ordering_then (slice_cmp nat_cmp c d) (nat_cmp a b)
place_cmp (At c a) Exit = Less
place_cmp Exit (At d b) = Greater
place_cmp Exit Exit = Equal

-- the calls inside of which a place is, and its address: no calls and 0 for Exit
abbrev pub place_calls : Place → List ℕ
place_calls (At calls address) = calls
place_calls Exit = []

abbrev pub place_address : Place → ℕ
place_address (At calls address) = address
place_address Exit = 0

-- the place of a number: Exit past the end
abbrev pub place_at : List Place → ℕ → Place
place_at places n = slice_index_or places n Exit

-- addresses lie below 4000000, and a place is inside of at most MOST_CALLS calls
abbrev pub IsInRange : List ℕ → ℕ → Type 0
IsInRange calls address =
    (address < SPACE_END) × (length calls ≤ MOST_CALLS) × All (λ c. c < SPACE_END) calls

-- Exit, or an address below 4000000
abbrev pub IsInSpace : Place → Type 0
IsInSpace (At calls address) = address < SPACE_END
IsInSpace Exit = Unit {0}
