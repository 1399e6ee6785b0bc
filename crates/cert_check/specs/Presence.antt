-- Lists of places that can be searched.
use Rattle.std.specs.Prelude.{◌↔◌, List, Contains}
use Rattle.std.specs.List.Sorted.{IsSorted}
use Rattle.control_flow.specs.declared.places.Place.{Place}
use Rattle.control_flow.specs.Places.{place_cmp}

-- the same places, ascending
pub record Lists (stated listed : List Place) : Type 0 where
  pub same : (p : Place) → Contains stated p ↔ Contains listed p
  pub ascending : IsSorted place_cmp listed
