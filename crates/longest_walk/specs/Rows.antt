-- The numbers of a certificate as lists of rows.
use Rattle.std.specs.Prelude.{◌≡◌, ◌↔◌, ℕ, Bool, false, ◌&&◌, ◌==◌, List, map, Contains, Option, Some, None}
use Rattle.std.specs.List.{find}
use Rattle.std.specs.List.Sorted.{IsStrictlySortedBy}
use Rattle.std.specs.Cmp.Lexicographic.{pointwise}
use Rattle.walks.specs.Rows as rows
use Rattle.control_flow.specs.declared.places.Place.{Place}
use Rattle.control_flow.specs.declared.places.Place.TheVariants.{At, Exit}
use Rattle.control_flow.specs.Flow.{Flow, edge_shape, HasEdge}
use Rattle.control_flow.specs.Places.{place_cmp}
use Rattle.loop_bounds.specs.Instance.{Instance, place_loops}
use Rattle.loop_bounds.specs.Tree.{Tree}
use Rattle.longest_walk.specs.declared.rows.PlaceRow.{PlaceRow}
use Rattle.longest_walk.specs.declared.rows.InstanceRow.{InstanceRow}

-- the place that a row is about, and the header of the instance
abbrev pub place_of_row : PlaceRow → Place
place_of_row r = At r.list r.address

abbrev pub header_of_row : InstanceRow → Place
header_of_row r = At r.list r.header

abbrev pub header_of : Instance → Place
header_of i = At i.list i.header

abbrev pub is_at : List ℕ → ℕ → Place → Bool
is_at list address (At calls a) = pointwise ◌==◌ list calls && (address == a)
is_at list address Exit = false

-- the number of the first row about it, and 0 without one
abbrev pub number_or_zero : {R : Type 0} → (R → ℕ) → Option R → ℕ
number_or_zero number None = 0
number_or_zero number (Some row) = number row

abbrev pub distance_in : List PlaceRow → Place → ℕ
distance_in places p = number_or_zero (λ r. r.distance) (find (λ r. is_at r.list r.address p) places)

abbrev pub row_of : List InstanceRow → Instance → Option InstanceRow
row_of instances i = find (λ r. is_at r.list r.header (header_of i)) instances

-- the numbers that the rows state
abbrev pub potentials_of : ℕ → List PlaceRow → List InstanceRow → rows.Potentials Place Instance
potentials_of bound places instances =
    record {
      bound = bound;
      distance = distance_in places;
      arrival = λ i. number_or_zero (λ r. r.arrival) (row_of instances i);
      round = λ i. number_or_zero (λ r. r.round) (row_of instances i);
    }

-- a row for each place, in the order of places; and for each instance, in that of their headers
pub record AreRowsOf (flow : Flow) (tree : Tree) (places : List PlaceRow)
    (instances : List InstanceRow) : Type 0 where
  pub places_are : map place_of_row places ≡ flow.places
  pub ascending : IsStrictlySortedBy place_cmp (map header_of_row instances)
  pub instances_are : (p : Place) → Contains (map header_of_row instances) p
      ↔ Contains (map header_of tree.instances) p

abbrev pub is_exit : Place → Bool
is_exit (At calls address) = false
is_exit Exit = Bool.true

-- each edge's row holds, ..
abbrev pub RowsHold : Flow → Tree → rows.Potentials Place Instance → Type 0
RowsHold flow tree c = rows.RowsHold edge_shape place_loops tree.instances c is_exit (HasEdge flow)

-- .. and asks for less than 2^63
abbrev pub RowsFit : Flow → Tree → rows.Potentials Place Instance → Type 0
RowsFit flow tree c = rows.RowsFit edge_shape place_loops tree.instances c is_exit (HasEdge flow)

-- no numbers that meet the rows are less
abbrev pub AreLeast : Flow → Tree → rows.Potentials Place Instance → Type 0
AreLeast flow tree c =
    (other : rows.Potentials Place Instance) → RowsHold flow tree other
    → rows.IsAtMost is_exit tree.instances c other
