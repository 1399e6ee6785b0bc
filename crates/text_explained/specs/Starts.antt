-- When words begin at the latest.
use Rattle.std.specs.Prelude.{◌≡◌, ℕ, ◌≤◌, true, max, if◌then◌else◌, List, map, filter, fold, Option}
use Rattle.std.specs.Prelude.{Some, None}
use Rattle.std.specs.List.{zip}
use Rattle.walks.specs.Walk.{Leads, cost_of}
use Rattle.control_flow.specs.Flow.{Flow, HasEdge, edge_shape}
use Rattle.control_flow.specs.declared.edges.Edge.{Edge}
use Rattle.control_flow.specs.declared.places.Place.{Place}
use Rattle.loop_bounds.specs.Tree.{Tree}
use Rattle.longest_walk.specs.Longest.{KeepsTree}
use Rattle.text_explained.specs.Taken.{is_at}

-- ## Numbers

-- the starts of those of the places that are at the address, whatever the calls
abbrev pub starts_at : List Place → List ℕ → ℕ → List ℕ
starts_at places starts a = map (λ e. e.1) (filter (λ e. is_at a e.0) (zip places starts))

-- a number more
abbrev pub later : Option ℕ → ℕ → Option ℕ
later None n = Some n
later (Some m) n = Some (max m n)

-- the greatest of some numbers; None where there are none
abbrev pub greatest_of : List ℕ → Option ℕ
greatest_of numbers = fold later None numbers

-- the greatest of the starts of the places at the address; None where no place is
abbrev pub latest_at : List Place → List ℕ → ℕ → Option ℕ
latest_at places starts a = greatest_of (starts_at places starts a)

-- a place more, with its start
abbrev pub Begins : Place → ℕ → (old new : ℕ → Option ℕ) → Type 0
Begins place start old new = (a : ℕ) → new a ≡ (if is_at a place then later (old a) start else old a)

-- ## Walks

-- a walk from the entry that keeps the bounds of the loops reaches the address after so many ticks
pub record ReachesAt (flow : Flow) (tree : Tree) (a n : ℕ) : Type 0 where
  pub place : Place
  pub there : is_at a place ≡ true
  pub walk : List Edge
  pub leads : Leads edge_shape (HasEdge flow) flow.entry walk place
  pub kept : KeepsTree tree walk
  pub costs : cost_of edge_shape walk ≡ n

-- one comes after so many ticks and none later; None where none comes there
abbrev pub IsLatestStart : Flow → Tree → ℕ → Option ℕ → Type 0
IsLatestStart flow tree a None = (n : ℕ) → ReachesAt flow tree a n → ⊥
IsLatestStart flow tree a (Some ticks) =
    ReachesAt flow tree a ticks × ((n : ℕ) → ReachesAt flow tree a n → n ≤ ticks)
