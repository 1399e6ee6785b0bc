-- Runs that keep the statement of a handler.
use Rattle.std.specs.Prelude.{◌≡◌, ℕ, ◌<◌, ◌≤◌, List, [], ◌∷◌, ◌++◌, length, take, slice_index_or, Contains}
use Rattle.walks.specs.Walk.{Leads}
use Rattle.image.specs.Image.{Words}
use Rattle.statement.specs.Stated.{Stated}
use Rattle.arm2_exec.specs.Run.{Runs}
use Rattle.arm2_exec.specs.State.{State}
use Rattle.arm2_exec.specs.declared.machine.Input.{Input}
use Rattle.arm2_exec.specs.Step.{address_in}
use Rattle.arm2_exec.specs.declared.machine.Ran.{Ran}
use Rattle.arm2_exec.specs.declared.machine.Stepped.{Stepped}
use Rattle.control_flow.specs.declared.edges.Edge.{Edge}
use Rattle.control_flow.specs.declared.places.Place.{Place}
use Rattle.control_flow.specs.Flow.{Flow, HasEdge, edge_shape}
use Rattle.control_flow.specs.Graph.{IsFlowGraph}
use Rattle.flow_graph.specs.StepLaw.{Follows, IsEdgeOf}
use Rattle.numbered_walks.specs.declared.span.Span.{Span}
use Rattle.loop_bounds.specs.Bounds.{IsCompleteWalk}
use Rattle.loop_bounds.specs.Tree.{IsTree, Tree, place_in}
use Rattle.longest_walk.specs.Longest.{KeepsTree}
use Rattle.kept_runs.specs.declared.following.Followed.{Followed}
use Rattle.kept_runs.specs.declared.following.Followed.TheVariants.{Kept, Strayed}
use Rattle.kept_runs.specs.declared.following.Unkept.{Unkept}
use Rattle.kept_runs.specs.declared.following.Unkept.TheVariants as unkept
use Rattle.kept_runs.specs.declared.following.Unkept.TheVariants.{NotAtEntry, TurnedBack, Unfinished}
use Rattle.kept_runs.specs.declared.judging.Stray.{Stray}
use Rattle.kept_runs.specs.declared.tally.Passed.{Passed}
use Rattle.kept_runs.specs.Judging.{IsPlaceFor, Strays}
use Rattle.kept_runs.specs.Passing.{ArePasses, IsTally, Pass}

-- the graph is that of the words and the statement, and the tree that of its loops
pub record IsHandler (words : Words) (st : Stated) (flow : Flow) (tree : Tree) : Type 0 where
  pub graph_is : IsFlowGraph words st flow.profile flow
  pub tree_is : IsTree flow tree

-- after so many steps the machine is at the address
pub record IsAtAfter (s : State) (inputs : List Input) (steps at : ℕ) : Type 0 where
  pub ran : Ran
  pub now : State
  pub runs : Runs s (take steps inputs) ran now
  pub at_is : at ≡ address_in now.regs

module _ (words : Words) (st : Stated) (flow : Flow) (tree : Tree) where
  -- the steps by the inputs are the edges of a walk from the entry to Exit that keeps the loop bounds
  pub record KeepsTo (s : State) (inputs : List Input) : Type 0 where
    pub walk : List Edge
    pub complete : IsCompleteWalk flow walk
    pub kept : KeepsTree tree walk
    pub follows : Follows words st flow.profile s inputs walk

  -- so many of the inputs make such a run, of so many ticks, which does this at each place
  pub record IsKeptRun (s : State) (inputs : List Input) (steps ticks : ℕ) (by_place : List Passed)
      (after : State) : Type 0 where
    pub few : steps ≤ length inputs
    pub keeps : KeepsTo s (take steps inputs)
    pub ran : Ran
    pub runs : Runs s (take steps inputs) ran after
    pub steps_are : ran.steps ≡ steps
    pub ticks_are : ran.ticks ≡ ticks
    pub passes : List Pass
    pub passes_are : ArePasses flow s (take steps inputs) keeps.walk passes
    pub tally_is : IsTally flow passes by_place

  -- ## Runs that do not

  -- no number of the inputs makes such a run
  abbrev pub KeepsNone : State → List Input → Type 0
  KeepsNone s inputs = (n : ℕ) → KeepsTo s (take n inputs) → ⊥

  -- so many steps go along a walk from the entry to the place where the machine is, which keeps the loop
  -- bounds
  pub record RunsTo (s : State) (inputs : List Input) (steps : ℕ) (place : Place)
      (now : State) : Type 0 where
    pub few : steps ≤ length inputs
    pub walk : List Edge
    pub leads : Leads edge_shape (HasEdge flow) flow.entry walk place
    pub kept : KeepsTree tree walk
    pub follows : Follows words st flow.profile s (take steps inputs) walk
    pub ran : Ran
    pub runs : Runs s (take steps inputs) ran now
    pub steps_are : ran.steps ≡ steps
    pub at : IsPlaceFor place now

  -- so many steps lead to a place, and the next is by this input
  pub record IsBefore (s : State) (inputs : List Input) (steps : ℕ) : Type 0 where
    pub place : Place
    pub now : State
    pub input : Input
    pub comes : RunsTo s inputs steps place now
    pub at : steps < length inputs
    pub input_is : slice_index_or inputs steps input ≡ input

  -- the step after so many is along an edge to the header of the span's instance, which the loop bounds do
  -- not allow
  pub record TurnsBack (s : State) (inputs : List Input) (steps : ℕ) (after : State)
      (span : Span) : Type 0 where
    pub before : IsBefore s inputs steps
    pub stepped : Stepped
    pub edge : Edge
    pub is_edge_of : IsEdgeOf words st flow.profile before.now before.input stepped after edge
    pub from : edge.from ≡ before.place
    pub in_tree : Contains tree.spans span
    pub to : edge.to ≡ place_in flow tree span.header
    pub broken : KeepsTree tree ((before.comes).walk ++ edge ∷ []) → ⊥

  -- the step after so many is along no edge of the place where the run is
  pub record StraysAfter (s : State) (inputs : List Input) (steps : ℕ) (after : State)
      (stray : Stray) : Type 0 where
    pub before : IsBefore s inputs steps
    pub is : Strays words st flow before.place before.now before.input after stray

  -- why the run after so many steps does not keep the statement
  abbrev pub IsUnkept : State → List Input → ℕ → State → Unkept → Type 0
  IsUnkept s inputs steps after NotAtEntry = (steps ≡ 0) × (after ≡ s) × (address_in s.regs ≡ st.entry → ⊥)
  IsUnkept s inputs steps after (unkept.Stray stray) = StraysAfter s inputs steps after stray
  IsUnkept s inputs steps after (TurnedBack span) = TurnsBack s inputs steps after span
  IsUnkept s inputs steps after Unfinished =
      (steps ≡ length inputs) × ((place : Place) × RunsTo s inputs steps place after)

  pub record IsStrayedRun (s : State) (inputs : List Input) (steps at : ℕ) (why : Unkept)
      (after : State) : Type 0 where
    pub none : KeepsNone s inputs
    pub ends_at : IsAtAfter s inputs steps at
    pub is : IsUnkept s inputs steps after why

  abbrev pub IsFollowed : State → List Input → State → Followed → Type 0
  IsFollowed s inputs after (Kept steps ticks by_place) =
      IsKeptRun s inputs steps ticks by_place.items after
  IsFollowed s inputs after (Strayed steps at why) = IsStrayedRun s inputs steps at why after
