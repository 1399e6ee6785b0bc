-- Which edge of a place a step takes.
use Rattle.std.specs.Prelude.{◌≡◌, ℕ, ◌<◌, IsTrue, length}
use Rattle.control_flow.specs.declared.edges.Edge.{Edge}
use Rattle.control_flow.specs.declared.places.Place.{Place}
use Rattle.control_flow.specs.Flow.{Flow, HasEdge}
use Rattle.flow_graph.specs.StepLaw.{IsPlaceOf}
use Rattle.longest_walk.specs.Built.{step_at}
use Rattle.walk_counts.specs.Counts.{is_same_label}
use Rattle.kept_runs.specs.declared.edges.Going.{Going}

-- the edge has the step's label, and leads to a place that stands for the address where the step goes
abbrev pub IsMet : Going → Edge → Type 0
IsMet going e = IsTrue (is_same_label e.label going.label) × IsPlaceOf going.leave going.to e.to

-- an edge of the place, by its number
pub record IsFound (flow : Flow) (place : Place) (going : Going) (k : ℕ) : Type 0 where
  pub known : k < length flow.edges
  pub from : (step_at flow.edges k).from ≡ place
  pub met : IsMet going (step_at flow.edges k)

abbrev pub HasNoEdge : Flow → Place → Going → Type 0
HasNoEdge flow place going =
    (e : Edge) → HasEdge flow e → e.from ≡ place → ¬ IsMet going e
