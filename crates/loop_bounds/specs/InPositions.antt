-- What a handler's loops are in positions: what `nest` finds on its way from places to a tree.
use Rattle.std.specs.Prelude.{◌≡◌, ℕ, ◌+◌, ◌<◌, ◌≤◌, ◌↔◌, ◌⊎◌, List, length, map, Contains, All, slice_index}
use Rattle.walks.specs.Walk.{Cycle}
use Rattle.walks.specs.declared.limits.TheConstants.{MOST_INSTANCES}
use Rattle.control_flow.specs.Flow.{Flow}
use Rattle.control_flow.specs.Places.{place_at}
use Rattle.control_flow.specs.declared.search.TheConstants.{MOST_PLACES}
use Rattle.statement.specs.Stated.{IsLoop, StatedLoops}
use Rattle.loop_bounds.specs.declared.fault.NestFault.{NestFault}
use Rattle.loop_bounds.specs.declared.fault.NestFault.TheVariants.{Memory, LoopsCross, SharedHeader}
use Rattle.loop_bounds.specs.declared.fault.NestFault.TheVariants.{EntersMidLoop, UnboundedCycle}
use Rattle.loop_bounds.specs.declared.fault.NestFault.TheVariants.{NestedTooDeep}
use Rattle.numbered_walks.specs.declared.span.NumberedEdge.{NumberedEdge}
use Rattle.loop_bounds.specs.declared.extents.Extent.{Extent}
use Rattle.loop_bounds.specs.declared.handler_positions.HandlerPositions.{HandlerPositions}
use Rattle.loop_bounds.specs.declared.nesting.Nesting.{Nesting}
use Rattle.loop_bounds.specs.Instance.{Instance, IsInstance}
use Rattle.loop_bounds.specs.Keys.{IsListed}
use Rattle.numbered_walks.specs.Ordered.{number_shape}
use Rattle.loop_bounds.specs.Extents.{AreExtents, AreExtentsOf, AreNested, PlacesDiffer, HaveCrossing}
use Rattle.loop_bounds.specs.Extents.{EntersRight, EntersWrong, extent_at, found_instance}
use Rattle.loop_bounds.specs.Layout.{AreChains, AreRanks, AreShallow, IsBack, depth_at, items_of}
use Rattle.loop_bounds.specs.Tree.{IsNumbered}

-- the places by key, the instances with their extents, and the edges and the entry between positions
pub record AreHandlerPositions (flow : Flow) (loops : StatedLoops)
    (positions : HandlerPositions) : Type 0 where
  pub listed_is : IsListed loops.apart flow.places positions.listed.items
  pub found_are : (i : Instance) → Contains (map (found_instance loops.apart) positions.found.items) i
      ↔ IsInstance flow loops i
  pub bounded : All (λ f. IsLoop loops.apart f.stated) positions.found.items
  pub differ : PlacesDiffer positions.found.items
  pub extents_of : AreExtentsOf loops.apart positions.listed.items positions.found.items
      positions.extents.items
  pub extents_are : AreExtents positions.extents.items
  pub numbered : IsNumbered flow (place_at positions.listed.items) positions.edges.items
  pub entry_is : place_at positions.listed.items positions.entry ≡ flow.entry
  pub entry_most : positions.entry ≤ length positions.listed.items

-- positions and edges that extents may be nested over
pub record IsSound (exit : ℕ) (edges : List NumberedEdge) (extents : List Extent) : Type 0 where
  pub few : exit ≤ MOST_PLACES
  pub edges_in : All (λ e. (e.from < exit) × (e.to ≤ exit)) edges
  pub extents_are : AreExtents extents
  pub headers_in : All (λ s. s.header < exit) extents
  pub apart : (s t : Extent) → Contains extents s → Contains extents t → s.header ≡ t.header → s ≡ t

-- each extent is entered at its header alone: the entry is taken as an edge from outside
pub record EnterRight (exit : ℕ) (edges : List NumberedEdge) (entry : ℕ)
    (extents : List Extent) : Type 0 where
  pub at_entry : EntersRight extents exit entry
  pub along : All (λ e. EntersRight extents e.from e.to) edges

-- some extent is entered elsewhere
abbrev pub EnterWrong : ℕ → List NumberedEdge → ℕ → List Extent → Type 0
EnterWrong exit edges entry extents =
    EntersWrong extents exit entry ⊎ ((e : NumberedEdge) × Contains edges e × EntersWrong extents e.from e.to)

-- what is found of extents that are nested
pub record IsNesting (exit : ℕ) (edges : List NumberedEdge) (entry : ℕ) (extents : List Extent)
    (nesting : Nesting) : Type 0 where
  pub nested : AreNested extents nesting.parents.items
  pub entered : EnterRight exit edges entry extents
  pub ranks : AreRanks exit edges extents nesting.ranks.items
  pub whole : length nesting.chains.items ≡ length extents
  pub chains : AreChains (slice_index nesting.ranks.items) extents (items_of nesting.chains.items)
      (length extents)
  pub shallow : AreShallow extents

-- chains and ranks by which all positions have keys
pub record HasKeys (exit : ℕ) (extents : List Extent) (nesting : Nesting) : Type 0 where
  pub nested : AreNested extents nesting.parents.items
  pub whole : length nesting.chains.items ≡ length extents
  pub chains : AreChains (slice_index nesting.ranks.items) extents (items_of nesting.chains.items)
      (length extents)
  pub ranks : length nesting.ranks.items ≡ exit + 1

-- a cycle without a back edge
abbrev pub HasPlainCycle : List NumberedEdge → List Extent → Type 0
HasPlainCycle edges extents = Cycle number_shape (λ e. Contains edges e × (IsBack extents e → ⊥))

-- why they are not nested, and that no fault comes before this one
abbrev pub IsNestingFault : ℕ → List NumberedEdge → ℕ → List Extent → NestFault → Type 0
IsNestingFault exit edges entry extents Memory = Unit {0}
IsNestingFault exit edges entry extents LoopsCross = HaveCrossing extents
IsNestingFault exit edges entry extents SharedHeader = ⊥
IsNestingFault exit edges entry extents EntersMidLoop =
    (HaveCrossing extents → ⊥) × EnterWrong exit edges entry extents
IsNestingFault exit edges entry extents UnboundedCycle =
    (HaveCrossing extents → ⊥) × EnterRight exit edges entry extents × HasPlainCycle edges extents
IsNestingFault exit edges entry extents NestedTooDeep =
    (HaveCrossing extents → ⊥) × EnterRight exit edges entry extents × (HasPlainCycle edges extents → ⊥)
    × ((k : ℕ) × (k < length extents) × (MOST_INSTANCES < depth_at extents (extent_at extents k).first))
