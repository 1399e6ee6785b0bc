-- A place for whose word a handler has no flow graph.
use Rattle.std.specs.Prelude.{◌≡◌, ◌⊎◌, List, Contains, Option, Some, None}
use Rattle.bus_ticks.specs.declared.profile.Profile.{Profile}
use Rattle.image.specs.Image.{Words}
use Rattle.control_flow.specs.Edges.{IsEdge}
use Rattle.control_flow.specs.Graph.{IsReached, start_of}
use Rattle.control_flow.specs.Search.{EndsOne, IsPlaceFault}
use Rattle.statement.specs.Stated.{Stated}
use Rattle.control_flow.specs.declared.edges.Edge.{Edge}
use Rattle.control_flow.specs.declared.faults.BuildFault.{BuildFault}
use Rattle.control_flow.specs.declared.faulty.FaultyPlace.{FaultyPlace}
use Rattle.control_flow.specs.declared.places.Place.{Place}

module _ (words : Words) (st : Stated) (profile : Profile) where
  -- an edge that a reached place has
  pub record IsReachedEdge (e : Edge) : Type 0 where
    pub reached : IsReached words st profile e.from
    pub is_edge : IsEdge words st profile e

  -- the handler begins at the place, or the edge leads there from a reached place
  abbrev pub IsReachedBy : Option Edge → Place → Type 0
  IsReachedBy None p = p ≡ start_of st
  IsReachedBy (Some e) p = IsReachedEdge e × (e.to ≡ p)

  -- the place is reached, by the edge, and has no edges for the fault
  pub record IsFaultyPlace (f : FaultyPlace) : Type 0 where
    pub reached : IsReached words st profile f.place
    pub by : IsReachedBy f.edge f.place
    pub faulty : IsPlaceFault words st f.place f.fault

  -- no reached place has a fault
  abbrev pub AreSound : Type 0
  AreSound = (p : Place) (f : BuildFault) → IsReached words st profile p → IsPlaceFault words st p f → ⊥

  -- ## The search, by the edges of the places that were visited

  pub record IsWalked (order : List Place) (walked : List Edge) : Type 0 where
    pub edges : (e : Edge) → Contains walked e → IsReachedEdge e
    pub ends : (p : Place) → Contains order p → (p ≡ start_of st) ⊎ EndsOne walked p
