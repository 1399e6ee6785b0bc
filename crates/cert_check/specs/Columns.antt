-- The numbers of a certificate by the numbers of a tree's order.
use Rattle.std.specs.Prelude.{◌≡◌, ℕ, ◌<◌, List, length, map, slice_index}
use Rattle.std.specs.List.{find}
use Rattle.std.specs.List.Sorted.{IsStrictlySortedBy}
use Rattle.control_flow.specs.declared.places.Place.{Place}
use Rattle.control_flow.specs.Flow.{Flow}
use Rattle.control_flow.specs.Places.{place_cmp}
use Rattle.numbered_walks.specs.declared.tables.Tables.{Tables}
use Rattle.loop_bounds.specs.Tree.{Tree, place_in}
use Rattle.longest_walk.specs.Rows.{distance_in, header_of_row, is_at, number_or_zero, place_of_row}
use Rattle.longest_walk.specs.declared.rows.InstanceRow.{InstanceRow}
use Rattle.certificate.specs.declared.cert.Cert.{Cert}

-- rows ascend strictly, as in each certificate that is read
pub record Ascends (cert : Cert) : Type 0 where
  pub places : IsStrictlySortedBy place_cmp (map place_of_row cert.places)
  pub instances : IsStrictlySortedBy place_cmp (map header_of_row cert.instances)

-- the values of the numbers below a limit
pub record IsColumn (value : ℕ → ℕ) (limit : ℕ) (column : List ℕ) : Type 0 where
  pub whole : length column ≡ limit
  pub each : (n : ℕ) → n < limit → slice_index column n ≡ value n

-- what is stated for the instance with the header, and 0 without a row
abbrev pub arrival_in : List InstanceRow → Place → ℕ
arrival_in rows p = number_or_zero (λ r. r.arrival) (find (λ r. is_at r.list r.header p) rows)

abbrev pub round_in : List InstanceRow → Place → ℕ
round_in rows p = number_or_zero (λ r. r.round) (find (λ r. is_at r.list r.header p) rows)

-- what is stated for the place of a number
abbrev pub by_number : Flow → Tree → (Place → ℕ) → ℕ → ℕ
by_number flow tree value n = value (place_in flow tree n)

-- the tables hold what the certificate states
pub record AreTablesOf (flow : Flow) (tree : Tree) (cert : Cert) (c : Tables) : Type 0 where
  pub bound : c.bound ≡ cert.bound
  pub distances : IsColumn (by_number flow tree (distance_in cert.places))
      (length flow.places) c.distances.items
  pub arrivals : IsColumn (by_number flow tree (arrival_in cert.instances))
      (length flow.places) c.arrivals.items
  pub rounds : IsColumn (by_number flow tree (round_in cert.instances)) (length flow.places) c.rounds.items
