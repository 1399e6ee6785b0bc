-- Instances as extents of positions in the order of keys: which cross, which contain which, and which of
-- them an edge enters.
use Rattle.std.specs.Prelude.{◌≡◌, ◌≢◌, AllPairs, ◌==◌, ◌&&◌, nat_le, nat_lt, Bool, ℕ, ◌+◌, ◌<◌, ◌≤◌, ◌⊎◌}
use Rattle.std.specs.Prelude.{List, length, Contains, IsTrue, ◌↔◌, slice_index_or, Option, Some, None}
use Rattle.std.specs.BTreeSet.{BTreeSet, contains}
use Rattle.std.specs.Ordering.{nat_cmp}
use Rattle.control_flow.specs.declared.places.Place.{Place}
use Rattle.control_flow.specs.declared.places.Place.TheVariants.{At}
use Rattle.statement.specs.declared.apart.ApartStretch.{ApartStretch}
use Rattle.statement.specs.declared.stated.Loop.{Loop}
use Rattle.control_flow.specs.Places.{place_at}
use Rattle.loop_bounds.specs.declared.extents.Extent.{Extent}
use Rattle.loop_bounds.specs.declared.loop_instances.LoopInstance.{LoopInstance}
use Rattle.loop_bounds.specs.Instance.{Instance, instance_of, is_member, is_header}

abbrev pub extent_at : List Extent → ℕ → Extent
extent_at extents k = slice_index_or extents k (record { first = 0; end = 0; header = 0; instance = 0 })

abbrev pub parent_at : List (Option ℕ) → ℕ → Option ℕ
parent_at parents k = slice_index_or parents k None

-- the position lies in the extent
abbrev pub IsWithin : Extent → ℕ → Type 0
IsWithin s p = (s.first ≤ p) × (p < s.end)

abbrev pub is_within : Extent → ℕ → Bool
is_within s p = nat_le s.first p && nat_lt p s.end

-- ## Of which instance

-- a loop that was found with a list of calls
abbrev pub found_instance : List ApartStretch → LoopInstance → Instance
found_instance apart found = instance_of apart found.stated found.list

-- a stated loop, and a list of calls with which its header is one of the places
pub record IsFoundAmong (apart : List ApartStretch) (places : List Place) (loops : List Loop)
    (i : Instance) : Type 0 where
  pub stated_loop : Loop
  pub stated : Contains loops stated_loop
  pub reached : Contains places (At i.list i.header)
  pub parts : i ≡ instance_of apart stated_loop i.list

-- the loops have each another header
abbrev pub HeadersDiffer : List Loop → Type 0
HeadersDiffer loops = AllPairs (λ l m. l.header ≢ m.header) loops

abbrev pub header_place : LoopInstance → Place
header_place found = At found.list found.stated.header

-- the instances have each another place for their header
abbrev pub PlacesDiffer : List LoopInstance → Type 0
PlacesDiffer found = AllPairs (λ f g. header_place f ≢ header_place g) found

-- the extent holds the positions of the instance's members, one of them the header's
pub record IsExtentOf (listed : List Place) (i : Instance) (s : Extent) : Type 0 where
  pub inside : s.end ≤ length listed
  pub members : (p : ℕ) → p ≤ length listed → is_member i (place_at listed p) ≡ is_within s p
  pub headers : (p : ℕ) → p ≤ length listed → is_header i (place_at listed p) ≡ (p == s.header)

-- each extent is that of the instance that it names, and each instance has one
pub record AreExtentsOf (apart : List ApartStretch) (listed : List Place) (found : List LoopInstance)
    (extents : List Extent) : Type 0 where
  pub named : (s : Extent) → Contains extents s → s.instance < length found
  pub are : (s : Extent) (d : LoopInstance) → Contains extents s
      → IsExtentOf listed (found_instance apart (slice_index_or found s.instance d)) s
  pub all : (k : ℕ) → k < length found → (s : Extent) × Contains extents s × (s.instance ≡ k)
  pub once : (j k : ℕ) (d : Extent) → j < length extents → k < length extents
      → (slice_index_or extents j d).instance ≡ (slice_index_or extents k d).instance → j ≡ k

-- the extents of the first instances, in their turn
pub record AreExtentsUpto (apart : List ApartStretch) (listed : List Place) (found : List LoopInstance)
    (extents : List Extent) (limit : ℕ) : Type 0 where
  pub same : length extents ≡ limit
  pub each : (k : ℕ) (s : Extent) (d : LoopInstance) → k < limit
      → IsExtentOf listed (found_instance apart (slice_index_or found k d)) (slice_index_or extents k s)
      × ((slice_index_or extents k s).instance ≡ k)
      × ((slice_index_or extents k s).first < (slice_index_or extents k s).end)

-- the headers of the first loops, of which none is another's
pub record AreSeen (loops : List Loop) (headers : BTreeSet ℕ) (limit : ℕ) : Type 0 where
  pub seen : (h : ℕ) → (IsTrue (contains nat_cmp headers h))
      ↔ ((k : ℕ) × (k < limit) × ((d : Loop) → (slice_index_or loops k d).header ≡ h))
  pub differ : (j k : ℕ) (d : Loop) → j < k → k < limit
      → (slice_index_or loops j d).header ≡ (slice_index_or loops k d).header → ⊥

-- ## In order

-- each has a position, and they are in the order of their first positions, the longer before the shorter
pub record AreExtents (extents : List Extent) : Type 0 where
  pub some : (k : ℕ) → k < length extents → (extent_at extents k).first < (extent_at extents k).end
  pub sorted : (j k : ℕ) → j < k → k < length extents
      → ((extent_at extents j).first < (extent_at extents k).first)
      ⊎ (((extent_at extents j).first ≡ (extent_at extents k).first)
      × ((extent_at extents k).end ≤ (extent_at extents j).end))

-- ## Which cross

-- they share a position, and each has one that the other has not
pub record Cross (s t : Extent) : Type 0 where
  pub shared : ℕ
  pub in_first : IsWithin s shared
  pub in_second : IsWithin t shared
  pub left : ℕ
  pub left_in : IsWithin s left
  pub left_out : IsWithin t left → ⊥
  pub right : ℕ
  pub right_in : IsWithin t right
  pub right_out : IsWithin s right → ⊥

pub record HaveCrossing (extents : List Extent) : Type 0 where
  pub one : ℕ
  pub other : ℕ
  pub one_in : one < length extents
  pub other_in : other < length extents
  pub cross : Cross (extent_at extents one) (extent_at extents other)

-- ## Which contain which

-- of the first extents, those that end after the position hold this one, or there are none
abbrev pub IsOpen : List Extent → ℕ → ℕ → Option ℕ → Type 0
IsOpen extents limit p None = (j : ℕ) → j < limit → (extent_at extents j).end ≤ p
IsOpen extents limit p (Some k) =
    (k < limit)
    × ((j : ℕ) → j < limit → p < (extent_at extents j).end
    → (j ≤ k) × ((extent_at extents k).end ≤ (extent_at extents j).end))

-- the parent of an extent is the innermost that contains it, or there is none
abbrev pub Holds : List Extent → ℕ → Option ℕ → Type 0
Holds extents k None = Unit {0}
Holds extents k (Some d) = (extent_at extents k).end ≤ (extent_at extents d).end

-- it has a parent, and ends after it
abbrev pub IsOver : List Extent → ℕ → Option ℕ → Type 0
IsOver extents k None = ⊥
IsOver extents k (Some d) = (extent_at extents d).end < (extent_at extents k).end

pub record IsParent (extents : List Extent) (k : ℕ) (parent : Option ℕ) : Type 0 where
  pub opened : IsOpen extents k (extent_at extents k).first parent
  pub holds : Holds extents k parent
  pub after : (j : ℕ) → j < k
      → ((extent_at extents j).end ≤ (extent_at extents k).first)
      ⊎ ((extent_at extents k).end ≤ (extent_at extents j).end)

abbrev pub AreParents : List Extent → List (Option ℕ) → ℕ → Type 0
AreParents extents parents limit = (k : ℕ) → k < limit → IsParent extents k (parent_at parents k)

-- extents in order, and the parent of each
pub record AreNested (extents : List Extent) (parents : List (Option ℕ)) : Type 0 where
  pub extents_are : AreExtents extents
  pub same : length parents ≡ length extents
  pub parents_are : AreParents extents parents (length extents)

abbrev pub height : Option ℕ → ℕ
height None = 0
height (Some k) = k + 1

-- the innermost of the extents that hold the position, or none holds it
abbrev pub IsInnermost : List Extent → ℕ → Option ℕ → Type 0
IsInnermost extents p None = (j : ℕ) → j < length extents → IsWithin (extent_at extents j) p → ⊥
IsInnermost extents p (Some k) =
    (k < length extents) × IsWithin (extent_at extents k) p
    × ((j : ℕ) → j < length extents → IsWithin (extent_at extents j) p
    → (j ≤ k) × ((extent_at extents k).end ≤ (extent_at extents j).end))

-- ## What an edge enters

-- each extent that holds `to` and not `from` has its header there
abbrev pub EntersRight : List Extent → ℕ → ℕ → Type 0
EntersRight extents from to =
    (j : ℕ) → j < length extents → IsWithin (extent_at extents j) to
    → (IsWithin (extent_at extents j) from → ⊥) → to ≡ (extent_at extents j).header

-- some extent that holds `to` and not `from` has its header elsewhere
abbrev pub EntersWrong : List Extent → ℕ → ℕ → Type 0
EntersWrong extents from to =
    (j : ℕ) × (j < length extents) × IsWithin (extent_at extents j) to
    × (IsWithin (extent_at extents j) from → ⊥) × (to ≡ (extent_at extents j).header → ⊥)

-- of the extents that hold `to` those that are not yet looked at hold this one, and the others have their
-- header there
abbrev pub IsLeft : List Extent → ℕ → Option ℕ → Type 0
IsLeft extents to None =
    (j : ℕ) → j < length extents → IsWithin (extent_at extents j) to → to ≡ (extent_at extents j).header
IsLeft extents to (Some k) =
    (k < length extents) × IsWithin (extent_at extents k) to
    × ((j : ℕ) → j < length extents → IsWithin (extent_at extents j) to
    → (to ≡ (extent_at extents j).header)
    ⊎ ((j ≤ k) × ((extent_at extents k).end ≤ (extent_at extents j).end)))
