-- A tree as it is stored.
use Rattle.std.specs.Prelude.{◌≡◌, ℕ, ◌<◌, List, length, map, slice_index_or}
use Rattle.control_flow.specs.declared.places.Place.{Place}
use Rattle.control_flow.specs.declared.edges.Edge.{Edge}
use Rattle.control_flow.specs.Flow.{Flow}
use Rattle.numbered_walks.specs.declared.span.NumberedEdge.{NumberedEdge}
use Rattle.loop_bounds.specs.declared.tree.LoopTree.TheInside.{Inside}
use Rattle.loop_bounds.specs.Extents.{found_instance}
use Rattle.loop_bounds.specs.Tree.{Tree, NumbersEdge}

abbrev pub tree_of : Inside → Tree
tree_of tree =
    record {
      instances = map (found_instance tree.apart.items) tree.instances.items;
      spans = tree.spans.items;
      order = tree.order.items;
      edges = tree.edges.items;
      apart = tree.apart.items;
    }

-- the edges before the limit are numbered
pub record AreNumberedUpto (flow : Flow) (place_of : ℕ → Place) (exit : ℕ) (edges : List NumberedEdge)
    (limit : ℕ) : Type 0 where
  pub same : length edges ≡ limit
  pub each : (k : ℕ) (e : Edge) (n : NumberedEdge) → k < limit
      → NumbersEdge place_of exit (slice_index_or flow.edges k e) (slice_index_or edges k n)
