-- The drawing of a flow graph, with what a greatest walk takes, in the DOT language of Graphviz.
use Rattle.std.specs.Prelude.{◌≡◌, ℕ, ◌&&◌, if◌then◌else◌, List, [], ◌++◌, length, codes, Vec, Option}
use Rattle.std.specs.Prelude.{Some, None, slice_index}
use Rattle.std.specs.Global.{Global}
use Rattle.std.specs.List.{flat_map, range_with_len, slice_get}
use Rattle.asm_text.specs.Hex.{hex8}
use Rattle.control_flow.specs.Flow.{Flow}
use Rattle.control_flow.specs.Places.{place_address}
use Rattle.longest_walk.specs.Built.{step_at}
use Rattle.longest_walk.specs.Folded.{unfolded}
use Rattle.longest_walk.specs.declared.folded.Longest.{Longest}
use Rattle.loop_bounds.specs.Tree.{Tree, place_in}
use Rattle.numbered_walks.specs.Index.{edge_at}
use Rattle.sources.specs.Lines.{line_of}
use Rattle.sources.specs.declared.read.Source.{Source}
use Rattle.walk_counts.specs.Counts.{AreCounts}
use Rattle.text_graph.specs.Chains.{first_in, last_in}
use Rattle.text_graph.specs.Clusters.{closed, opened}
use Rattle.text_graph.specs.Labels.{AreLabels}
use Rattle.text_graph.specs.Pieces.{edge_end, escaped, heading, name, node_end}
use Rattle.text_graph.specs.Scene.{Scene, is_drawn}
use Rattle.text_graph.specs.Stretches.{is_begin, leaving, passes, stretch_from, stretch_ticks}
use Rattle.text_graph.specs.declared.extent.Extent.{Extent}

abbrev pub label_of : Option (Vec ℕ Global) → List ℕ
label_of None = []
label_of (Some label) = label.items

module _ (scene : Scene) where
  -- how often the walk passes the number, and its ticks in a stretch
  abbrev pub passed : ℕ → ℕ
  passed n = passes scene.flow scene.tree scene.counts n

  abbrev pub ticks_in : List ℕ → ℕ
  ticks_in numbers = stretch_ticks scene.flow scene.tree scene.counts numbers

  -- the address of a number and its label
  abbrev pub row : ℕ → List ℕ
  row n =
      hex8 (place_address (place_in scene.flow scene.tree n))
      ++ (codes "  "
      ++ (escaped (label_of (slice_get scene.labels (slice_index scene.tree.order n))) ++ codes "\\l"))

  -- those of a stretch, and what the walk takes there; the node has the name of its first number
  abbrev pub node : List ℕ → List ℕ
  node numbers =
      name (first_in numbers)
      ++ (codes " [label=\""
      ++ (flat_map row numbers ++ node_end (passed (first_in numbers)) (ticks_in numbers) scene.bound))

  -- an edge that leaves the stretch that begins with a number
  abbrev pub edge : (first k : ℕ) → List ℕ
  edge first k =
      name first
      ++ (codes " -> "
      ++ (name (edge_at scene.tree.edges k).to
      ++ edge_end (step_at scene.flow.edges k).label (slice_index scene.counts k)
      (step_at scene.flow.edges k).cost))

  abbrev pub drawn_edge : (first k : ℕ) → List ℕ
  drawn_edge first k =
      if is_drawn scene.extent (slice_index scene.counts k) then edge first k else []

  -- the node, inside its clusters, and the edges that leave its last number
  abbrev pub stretch : List ℕ → List ℕ
  stretch numbers =
      opened scene (first_in numbers)
      ++ (node numbers
      ++ (closed scene (first_in numbers)
      ++ (codes "\n"
      ++ flat_map (drawn_edge (first_in numbers)) (leaving scene.flow scene.tree (last_in numbers)))))

  -- the stretch that begins with a number, if one does
  abbrev pub begun : ℕ → List ℕ
  begun n =
      if is_begin scene.flow scene.tree n && is_drawn scene.extent (passed n)
      then stretch (stretch_from scene.flow scene.tree n)
      else []

  abbrev pub drawing_text : List ℕ
  drawing_text =
      heading
      ++ (flat_map begun (range_with_len 0 (length scene.flow.places))
      ++ (name (length scene.flow.places) ++ codes " [label=\"Exit\", shape=oval];\n}\n"))

-- the drawing of a graph with what a greatest walk takes, or of this alone, with the lines of a source
pub record IsDrawing (source : Source) (flow : Flow) (tree : Tree) (longest : Longest) (extent : Extent)
    (text : List ℕ) : Type 0 where
  pub counts : List ℕ
  pub are_counts : AreCounts flow.edges (unfolded longest.walk) counts
  pub labels : List (Vec ℕ Global)
  pub labels_are : AreLabels source flow.places labels
  pub scene : Scene
  pub scene_is : scene
      ≡ record {
        flow = flow;
        tree = tree;
        counts = counts;
        labels = labels;
        line = line_of source;
        bound = longest.bound;
        extent = extent;
      }
  pub text_is : text ≡ drawing_text scene
