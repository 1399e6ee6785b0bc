-- How far a run has been followed, and one step of it.
use Rattle.std.specs.Prelude.{◌≡◌, ℕ, ◌+◌, ◌<◌, ◌≤◌, ◌^◌, List, [], ◌∷◌, ◌++◌, length, replicate, Option}
use Rattle.std.specs.Prelude.{Contains, slice_index, slice_index_or}
use Rattle.image.specs.Image.{Words}
use Rattle.statement.specs.Stated.{Stated}
use Rattle.arm2_exec.specs.State.{State}
use Rattle.arm2_exec.specs.declared.machine.Input.{Input}
use Rattle.arm2_exec.specs.declared.machine.Stepped.{Stepped}
use Rattle.control_flow.specs.Flow.{Flow}
use Rattle.control_flow.specs.declared.edges.Label.TheVariants.{Do}
use Rattle.flow_graph.specs.StepLaw.{IsEdgeOf}
use Rattle.numbered_walks.specs.declared.span.NumberedEdge.{NumberedEdge}
use Rattle.numbered_walks.specs.declared.span.Span.{Span}
use Rattle.numbered_walks.specs.Index.{AreHeaders, edge_at}
use Rattle.numbered_walks.specs.Reach.{most_in}
use Rattle.loop_bounds.specs.Tree.{Tree, place_in}
use Rattle.longest_walk.specs.Built.{step_at}
use Rattle.walk_counts.specs.Counts.{is_same_label}
use Rattle.kept_runs.specs.declared.following.Follower.{Follower}
use Rattle.kept_runs.specs.declared.following.Halt.{Halt}
use Rattle.kept_runs.specs.declared.following.Unkept.{Unkept}
use Rattle.kept_runs.specs.declared.following.Unkept.TheVariants as unkept
use Rattle.kept_runs.specs.declared.following.Unkept.TheVariants.{NotAtEntry, TurnedBack, Unfinished}
use Rattle.kept_runs.specs.Judging.{IsMachineFor, IsMade, IsPlaceFor, Strays}
use Rattle.kept_runs.specs.Passing.{counted, nothing}
use Rattle.kept_runs.specs.Stays.{AreTurnsAfter}

-- the span that begins at each number of a place, and at that of Exit
pub record AreHeadersOf (flow : Flow) (tree : Tree) (headers : List (Option Span)) : Type 0 where
  pub whole : length headers ≡ length flow.places + 1
  pub are : AreHeaders tree.spans headers

-- nothing is followed yet
pub record IsFresh (exit : ℕ) (x : Follower) : Type 0 where
  pub number_is : x.number ≡ 0
  pub turns_are : x.turns.items ≡ replicate (exit + 1) 0
  pub steps_are : x.steps ≡ 0
  pub ticks_are : x.ticks ≡ 0
  pub tally_is : x.by_place.items ≡ replicate exit nothing

-- the tally has each place of the graph, and no more passes and ticks of one than of all
pub record IsTallyOf (flow : Flow) (x : Follower) : Type 0 where
  pub whole : length x.by_place.items ≡ length flow.places
  pub passes : (place : ℕ) → place < length flow.places
      → (slice_index_or x.by_place.items place nothing).passes ≤ x.steps
  pub done : (place : ℕ) → place < length flow.places
      → (slice_index_or x.by_place.items place nothing).done ≤ x.steps
  pub ticks : (place : ℕ) → place < length flow.places
      → (slice_index_or x.by_place.items place nothing).ticks ≤ x.ticks

-- a step may be made: the run is at a place of the graph, at the machine's address
pub record CanGo (flow : Flow) (tree : Tree) (x : Follower) (s : State) : Type 0 where
  pub machine : IsMachineFor flow s
  pub known : x.number < length flow.places
  pub at : IsPlaceFor (place_in flow tree x.number) s
  pub room : length x.turns.items ≡ length flow.places + 1
  pub tally : IsTallyOf flow x

-- a walk that stays within the bounds
abbrev pub Keeps : Tree → List NumberedEdge → Type 0
Keeps tree walk = (s : Span) → Contains tree.spans s → most_in s walk ≤ s.bound

module _ (words : Words) (st : Stated) (flow : Flow) (tree : Tree) where
  -- the edge of the number is that of the step, and leaves the place where the run is
  pub record IsNext (x : Follower) (s : State) (i : Input) (stepped : Stepped) (after : State)
      (k : ℕ) : Type 0 where
    pub known : k < length flow.edges
    pub is_edge_of : IsEdgeOf words st flow.profile s i stepped after (step_at flow.edges k)
    pub from : (edge_at tree.edges k).from ≡ x.number

  -- a step along an edge: what held of any walk now holds of it with the edge after it
  pub record Goes (old new : Follower) (s : State) (i : Input) (after : State) : Type 0 where
    pub edge : ℕ
    pub stepped : Stepped
    pub next : IsNext old s i stepped after edge
    pub number_is : new.number ≡ (edge_at tree.edges edge).to
    pub steps_are : new.steps ≡ old.steps + 1
    pub ticks_are : new.ticks ≡ old.ticks + stepped.ticks
    pub tally_is : new.by_place.items
        ≡ counted old.by_place.items (slice_index tree.order old.number)
        (is_same_label (step_at flow.edges edge).label Do) stepped.ticks
    pub small : stepped.ticks < 2 ^ 16
    pub machine : IsMachineFor flow after
    pub room : length new.turns.items ≡ length flow.places + 1
    pub adds : (walk : List NumberedEdge) → AreTurnsAfter tree.spans old.turns.items old.number walk
        → AreTurnsAfter tree.spans new.turns.items new.number (walk ++ edge_at tree.edges edge ∷ [])

  -- no step along an edge stays within the bounds
  abbrev pub CannotGo : Follower → State → Input → Type 0
  CannotGo x s i =
      (stepped : Stepped) (after : State) (k : ℕ) → IsNext x s i stepped after k → (walk : List NumberedEdge)
      → AreTurnsAfter tree.spans x.turns.items x.number walk
      → Keeps tree (walk ++ edge_at tree.edges k ∷ []) → ⊥

  -- why not: what the step does, or the instance to whose header its edge leads
  abbrev pub IsWhy : Follower → State → Input → State → Unkept → Type 0
  IsWhy x s i after NotAtEntry = ⊥
  IsWhy x s i after (unkept.Stray stray) =
      Strays words st flow (place_in flow tree x.number) s i after stray
  IsWhy x s i after (TurnedBack span) =
      (stepped : Stepped) × (k : ℕ) × IsNext x s i stepped after k × Contains tree.spans span
      × ((edge_at tree.edges k).to ≡ span.header)
  IsWhy x s i after Unfinished = ⊥

  pub record Halts (x : Follower) (s : State) (i : Input) (after : State) (why : Unkept) : Type 0 where
    pub cannot : CannotGo x s i
    pub is : IsWhy x s i after why

  -- a run that strays changes nothing of what is followed
  abbrev pub Stays : Follower → Follower → Unkept → Type 0
  Stays old new (unkept.Stray stray) = new ≡ old
  Stays old new other = Unit {0}

  -- the same, with what the step did, if one was made
  pub record HaltsBy (old new : Follower) (s : State) (i : Input) (after : State) (halt : Halt) : Type 0 where
    pub halts : Halts old s i after halt.why
    pub step : IsMade s i after halt.stepped
    pub stays : Stays old new halt.why
