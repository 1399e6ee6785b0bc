-- What the depth-first search knows between two of its steps.
use Rattle.std.specs.Prelude.{◌≡◌, ℕ, ◌+◌, ◌-◌, ◌*◌, ◌<◌, ◌≤◌, ◌⊎◌, List, [], ◌∷◌, length, replicate, sum}
use Rattle.std.specs.Prelude.{Contains, slice_index, slice_index_or, slice_set}
use Rattle.numbered_walks.specs.declared.span.NumberedEdge.{NumberedEdge}
use Rattle.loop_bounds.specs.declared.order.Colour.{Colour}
use Rattle.loop_bounds.specs.declared.order.Colour.TheVariants.{White, Grey, Black}
use Rattle.loop_bounds.specs.declared.order.Search.{Search}
use Rattle.loop_bounds.specs.Edges.{exit_of}

abbrev pub colour_at : List Colour → ℕ → Colour
colour_at colours v = slice_index_or colours v White

abbrev pub IsPlaced : List ℕ → ℕ → Type 0
IsPlaced order v = (k : ℕ) × (k < length order) × (slice_index order k ≡ v)

-- the black nodes are in the order, each after all to which it has an edge
pub record IsPost (nodes : ℕ) (edges : List NumberedEdge) (colours : List Colour)
    (order : List ℕ) : Type 0 where
  pub black : (v : ℕ) → colour_at colours v ≡ Black → IsPlaced order v
  pub placed : (k : ℕ) → k < length order → colour_at colours (slice_index order k) ≡ Black
  pub inside : (k : ℕ) → k < length order → slice_index order k < nodes
  pub forward : (k : ℕ) (e : NumberedEdge) → k < length order → Contains edges e
      → e.from ≡ slice_index order k → (m : ℕ) × (m < k) × (slice_index order m ≡ e.to)
  pub distinct : (j m : ℕ) → m < j → j < length order → slice_index order m ≡ slice_index order j → ⊥

-- the node is black, or comes next on the path after the place p
abbrev pub IsSeen : List Colour → List ℕ → ℕ → ℕ → Type 0
IsSeen colours path p v =
    (colour_at colours v ≡ Black) ⊎ ((p + 1 < length path) × (v ≡ slice_index path (p + 1)))

-- each node's next edge is one of its own, or it has followed all
pub record AreRanged (firsts next : List ℕ) : Type 0 where
  pub low : (v : ℕ) → v < exit_of firsts → slice_index firsts v ≤ slice_index next v
  pub high : (v : ℕ) → v < exit_of firsts → slice_index next v ≤ slice_index firsts (v + 1)
  pub last : slice_index next (exit_of firsts) ≡ slice_index firsts (exit_of firsts)

-- the grey nodes are a walk, each along the edge that the one before it has followed last
pub record IsStacked (firsts : List ℕ) (edges : List NumberedEdge) (colours : List Colour)
    (order path next : List ℕ) : Type 0 where
  pub whole : length colours ≡ length firsts
  pub wide : length next ≡ length firsts
  pub ranged : AreRanged firsts next
  pub post : IsPost (length firsts) edges colours order
  pub inside : (j : ℕ) → j < length path → slice_index path j < exit_of firsts
  pub grey : (j : ℕ) → j < length path → colour_at colours (slice_index path j) ≡ Grey
  pub held : (u : ℕ) → colour_at colours u ≡ Grey → IsPlaced path u
  pub apart : (j m : ℕ) → m < j → j < length path → slice_index path m ≡ slice_index path j → ⊥
  pub linked : (j : ℕ) → j + 1 < length path
      → (e : NumberedEdge) × Contains edges e × (e.from ≡ slice_index path j)
      × (e.to ≡ slice_index path (j + 1))
  pub exit_black : colour_at colours (exit_of firsts) ≡ Black
  pub fresh : (v : ℕ) → colour_at colours v ≡ White → slice_index next v ≡ slice_index firsts v
  pub done : (p j : ℕ) (d : NumberedEdge) → p < length path → slice_index firsts (slice_index path p) ≤ j
      → j < slice_index next (slice_index path p) → IsSeen colours path p (slice_index_or edges j d).to

abbrev pub IsSearching : List ℕ → List NumberedEdge → Search → Type 0
IsSearching firsts edges search =
    IsStacked firsts edges search.colours.items search.order.items search.path.items search.next.items

-- between visits no node is grey, and the nodes below the limit are black
pub record IsSearched (firsts : List ℕ) (edges : List NumberedEdge) (search : Search)
    (limit : ℕ) : Type 0 where
  pub searching : IsSearching firsts edges search
  pub idle : search.path.items ≡ []
  pub below : (v : ℕ) → v < limit → colour_at search.colours.items v ≡ Black

-- while a node and all to which it leads are visited, that node and those before it are met
pub record IsVisiting (firsts : List ℕ) (edges : List NumberedEdge) (search : Search)
    (node : ℕ) : Type 0 where
  pub searching : IsSearching firsts edges search
  pub met : (v : ℕ) → v < node + 1 → colour_at search.colours.items v ≡ White → ⊥

-- the steps that are left are fewer than this
abbrev pub steps_left : List ℕ → List NumberedEdge → Search → ℕ
steps_left firsts edges search =
    2 * (length firsts * length edges - sum search.next.items) + length search.path.items

-- the exit alone is in the order, and no other node is met
pub record IsBegun (firsts : List ℕ) (search : Search) : Type 0 where
  pub colours : search.colours.items ≡ slice_set (replicate (length firsts) White) (exit_of firsts) Black
  pub next : search.next.items ≡ firsts
  pub path : search.path.items ≡ []
  pub order : search.order.items ≡ exit_of firsts ∷ []

-- the node at hand is the last of the path, and k is the edge that it follows next
pub record IsAtHand (path next : List ℕ) (top node k : ℕ) : Type 0 where
  pub top_is : top + 1 ≡ length path
  pub node_is : node ≡ slice_index path top
  pub k_is : k ≡ slice_index next node

-- one edge more is followed, or the path is shorter; and no node is white again
pub record IsStep (old new : Search) : Type 0 where
  pub nearer :
      ((sum new.next.items ≡ sum old.next.items + 1) × (length new.path.items ≤ length old.path.items + 1))
      ⊎ ((sum new.next.items ≡ sum old.next.items) × (length new.path.items < length old.path.items))
  pub met : (v : ℕ) → colour_at new.colours.items v ≡ White → colour_at old.colours.items v ≡ White
