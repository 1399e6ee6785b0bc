-- What the greatest walk through a flow graph and its tree of loop instances is.
use Rattle.std.specs.Prelude.{◌≡◌, ◌≢◌, ℕ, ◌≤◌, true, List, [], All, AllPairs, Contains}
use Rattle.std.specs.List.{AllPass, AllZip}
use Rattle.walks.specs.Walk.{Leads, cost_of}
use Rattle.walks.specs.Greatest.{KeepsBounds, IsGreatest, TooLarge, is_inside}
use Rattle.control_flow.specs.declared.places.Place.{Place}
use Rattle.control_flow.specs.declared.places.Place.TheVariants.{Exit}
use Rattle.control_flow.specs.declared.edges.Edge.{Edge}
use Rattle.control_flow.specs.Flow.{Flow, edge_shape, HasEdge}
use Rattle.loop_bounds.specs.Bounds.{IsCompleteWalk}
use Rattle.loop_bounds.specs.Instance.{Instance, is_header, place_loops}
use Rattle.loop_bounds.specs.Tree.{Tree}
use Rattle.longest_walk.specs.Folded.{IsCount, Opened, most_nested, open_items, unfolded}
use Rattle.longest_walk.specs.Rows.{AreLeast, AreRowsOf, RowsFit, RowsHold, potentials_of}
use Rattle.numbered_walks.specs.declared.fault.WalkFault.{WalkFault}
use Rattle.numbered_walks.specs.declared.fault.WalkFault.TheVariants.{Memory, NoCompleteWalk, BoundTooLarge}
use Rattle.longest_walk.specs.declared.folded.Item.{Item}
use Rattle.longest_walk.specs.declared.folded.Longest.{Longest}

-- the walk keeps the bound of each instance of the tree
abbrev pub KeepsTree : Tree → List Edge → Type 0
KeepsTree tree walk = KeepsBounds edge_shape place_loops (Contains tree.instances) walk

-- some walk from the entry, wherever it ends, keeps the bounds and costs 2^63 ticks or more
abbrev pub TreeTooLarge : Flow → Tree → Type 0
TreeTooLarge flow tree = TooLarge edge_shape (HasEdge flow) (KeepsTree tree) flow.entry Exit

-- ## The walk

-- rounds of one instance: from its header to its header, among its members
pub record IsBody (flow : Flow) (tree : Tree) (body : List Edge) : Type 0 where
  pub some : body ≢ []
  pub instance : Instance
  pub in_tree : Contains tree.instances instance
  pub header : Place
  pub header_is : is_header instance header ≡ true
  pub turns : Leads edge_shape (HasEdge flow) header body header
  pub stays : AllPass (is_inside edge_shape place_loops instance) body

-- what a certificate asks of repeats: each is rounds of one instance, taken so many times as it allows, and
-- they are nested no deeper than this
pub record AreRepeats (flow : Flow) (tree : Tree) (levels : ℕ) (o : Opened) : Type 0 where
  pub bodies : All (IsBody flow tree) o.bodies
  pub counts : All IsCount o.counts
  pub shallow : o.depth ≤ levels

-- one round of an instance, so many times as a stay may take one
pub record AreAllRounds (flow : Flow) (tree : Tree) (count : ℕ) (body : List Edge) : Type 0 where
  pub body_is : IsBody flow tree body
  pub count_is : count ≡ body_is.instance.bound

-- no two of the edges leave one place
abbrev pub LeaveOnce : List Edge → Type 0
LeaveOnce edges = AllPairs (λ d e. d.from ≢ e.from) edges

-- Nothing is written out that a repeat can say: each repeat takes all rounds of its instance, outside of
-- repeats neither the walk nor a body leaves a place twice, and no body is repeats alone.
pub record IsFolded (flow : Flow) (tree : Tree) (items : List Item) : Type 0 where
  pub all_rounds : AllZip (AreAllRounds flow tree) (open_items items).counts (open_items items).bodies
  pub walk_once : LeaveOnce (open_items items).outside
  pub bodies_once : All LeaveOnce (open_items items).bodies_outside
  pub bodies_some : All (λ edges. edges ≢ []) (open_items items).bodies_outside

-- a complete walk that keeps the bounds and costs so much
pub record IsWalkOf (flow : Flow) (tree : Tree) (cost : ℕ) (items : List Item) : Type 0 where
  pub complete : IsCompleteWalk flow (unfolded items)
  pub kept : KeepsTree tree (unfolded items)
  pub costs : cost_of edge_shape (unfolded items) ≡ cost
  pub repeats : AreRepeats flow tree most_nested (open_items items)
  pub folded : IsFolded flow tree items

-- ## The whole answer

-- the bound is the greatest cost of a complete walk that keeps the bounds, the folded walk is such a walk of
-- that cost, and the numbers are the least that meet all rows
pub record IsLongest (flow : Flow) (tree : Tree) (l : Longest) : Type 0 where
  pub greatest : IsGreatest edge_shape (HasEdge flow) (KeepsTree tree) flow.entry Exit l.bound
  pub walk_is : IsWalkOf flow tree l.bound l.walk
  pub none_too_large : TreeTooLarge flow tree → ⊥
  pub rows_are : AreRowsOf flow tree l.potentials.places l.potentials.instances
  pub rows_hold : RowsHold flow tree (potentials_of l.bound l.potentials.places l.potentials.instances)
  pub rows_fit : RowsFit flow tree (potentials_of l.bound l.potentials.places l.potentials.instances)
  pub least : AreLeast flow tree (potentials_of l.bound l.potentials.places l.potentials.instances)
  pub profile : l.profile ≡ flow.profile

-- when each refusal comes: no walk leads to Exit; or one does, and some walk that keeps the bounds costs too
-- much
abbrev pub IsWalkFault : Flow → Tree → WalkFault → Type 0
IsWalkFault flow tree Memory = Unit {0}
IsWalkFault flow tree NoCompleteWalk = (walk : List Edge) → IsCompleteWalk flow walk → ⊥
IsWalkFault flow tree BoundTooLarge = ((walk : List Edge) × IsCompleteWalk flow walk) × TreeTooLarge flow tree
