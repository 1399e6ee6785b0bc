-- Frames of a drawing, which are clusters: one for each list of calls, and one for each instance of a loop. A
-- cluster that is named again is the same one, and keeps its label (a choice of what the DOT language of
-- Graphviz offers).
use Rattle.std.specs.Prelude.{ℕ, ◌+◌, ◌==◌, max, min, if◌then◌else◌, List, [], ◌∷◌, ◌++◌, length, take}
use Rattle.std.specs.Prelude.{Option, Some, None}
use Rattle.std.specs.Prelude.{replicate, reverse, slice_index, sum_by, codes, decimal}
use Rattle.std.specs.List.{flat_map}
use Rattle.asm_text.specs.Hex.{hex8}
use Rattle.control_flow.specs.Places.{place_address}
use Rattle.loop_bounds.specs.Tree.{place_in}
use Rattle.numbered_walks.specs.Index.{edge_at}
use Rattle.numbered_walks.specs.declared.span.Span.{Span}
use Rattle.walk_counts.specs.Counts.{capped}
use Rattle.text_graph.specs.Labels.{name_by}
use Rattle.text_graph.specs.Pieces.{shared}
use Rattle.text_graph.specs.Scene.{Scene}
use Rattle.text_graph.specs.Stretches.{between, caller_of, calls_in, is_call, leaving, loops_of}
use Rattle.text_graph.specs.Stretches.{stretch_ticks}

-- the name of a routine's cluster goes on with its calls
abbrev pub call_names : List ℕ → List ℕ
call_names calls = flat_map (λ a. codes "_" ++ hex8 a) calls

-- the numbers of a loop's members
abbrev pub members : Span → List ℕ
members s = between s.header (s.last + 1)

-- what the walk takes in a loop, if it comes there
abbrev pub loop_taken : (turns ticks bound : ℕ) → List ℕ
loop_taken turns ticks bound =
    if ticks == 0 then [] else codes ", turns " ++ (decimal turns ++ (codes ", " ++ shared ticks bound))

module _ (scene : Scene) where
  -- the label of the word at an address, else the address
  abbrev pub name_at : ℕ → List ℕ
  name_at a = name_by (scene.line a) a

  -- ## Calls

  -- the routine that begins with a number, by the name of its first word
  abbrev pub routine_name : ℕ → List ℕ
  routine_name n = name_at (place_address (place_in scene.flow scene.tree n)) ++ codes ", "

  -- the routine into which an edge leads, if it leads into one
  abbrev pub called_name : ℕ → List ℕ
  called_name k =
      if is_call scene.flow scene.tree (edge_at scene.tree.edges k)
      then routine_name (edge_at scene.tree.edges k).to else []

  -- the routines that a place calls: a stated call may have several
  abbrev pub routine_names : (caller : ℕ) → List ℕ
  routine_names caller = flat_map called_name (leaving scene.flow scene.tree caller)

  -- what stands at the frame of a call: the routines by name, and where the call is
  abbrev pub call_label : (caller at : ℕ) → List ℕ
  call_label caller at =
      codes "label=\"routine "
      ++ (routine_names caller ++ (codes "called at " ++ (hex8 at ++ codes "\"; ")))

  abbrev pub call_label_if : (caller : Option ℕ) → (at : ℕ) → List ℕ
  call_label_if None at = []
  call_label_if (Some caller) at = call_label caller at

  -- at the innermost frame the node that begins with a routine says it
  abbrev pub call_label_by : (first : ℕ) → (calls : List ℕ) → (depth : ℕ) → List ℕ
  call_label_by first calls depth =
      if depth + 1 == length calls
      then call_label_if (caller_of scene.flow scene.tree first) (slice_index calls depth) else []

  -- the cluster of a call around the node of a number, by the calls down to it
  abbrev pub call_text : (first : ℕ) → (calls : List ℕ) → (depth : ℕ) → List ℕ
  call_text first calls depth =
      codes "subgraph cluster_call"
      ++ (call_names (take (depth + 1) calls) ++ (codes " { " ++ call_label_by first calls depth))

  -- those of the calls from one on, before another
  abbrev pub call_texts : (first : ℕ) → (calls : List ℕ) → (from to : ℕ) → List ℕ
  call_texts first calls from to = flat_map (call_text first calls) (between from to)

  -- ## Loops

  -- how often the walk takes an edge that leads back to a loop's header
  abbrev pub back_count : Span → ℕ → ℕ
  back_count s k = if (edge_at scene.tree.edges k).to == s.header then slice_index scene.counts k else 0

  -- how often it goes back to the header from a member
  abbrev pub turns_from : Span → ℕ → ℕ
  turns_from s n = capped (sum_by (back_count s) (leaving scene.flow scene.tree n))

  -- and from all members
  abbrev pub turns : Span → ℕ
  turns s = capped (sum_by (turns_from s) (members s))

  -- the ticks of the walk's edges from the members
  abbrev pub loop_ticks : Span → ℕ
  loop_ticks s = stretch_ticks scene.flow scene.tree scene.counts (members s)

  -- what stands at the frame of a loop: its header by name, and what the walk takes in it
  abbrev pub loop_label : Span → List ℕ
  loop_label s =
      codes "label=\"loop "
      ++ (name_at (place_address (place_in scene.flow scene.tree s.header))
      ++ (loop_taken (turns s) (loop_ticks s) scene.bound ++ codes "\"; "))

  -- the node that begins with the header says it
  abbrev pub loop_label_by : (first : ℕ) → Span → List ℕ
  loop_label_by first s = if first == s.header then loop_label s else []

  -- the cluster of a loop, by its header's number: no two loops of a tree have one header, so none share a
  -- name
  abbrev pub loop_text : (first : ℕ) → Span → List ℕ
  loop_text first s =
      codes "subgraph cluster_loop_" ++ (decimal s.header ++ (codes " { " ++ loop_label_by first s))

  -- ## Both

  -- how many of these calls a loop is inside of
  abbrev pub depth_in : List ℕ → Span → ℕ
  depth_in calls s = min (length (calls_in scene.flow scene.tree s.header)) (length calls)

  -- the clusters inside so many calls: of the loops, the outermost first, each after the calls that it is
  -- inside of, and of the other calls
  abbrev pub clusters : (first : ℕ) → (calls : List ℕ) → (inside : ℕ) → List Span → List ℕ
  clusters first calls inside [] = call_texts first calls inside (length calls)
  clusters first calls inside (s ∷ loops) =
      call_texts first calls inside (depth_in calls s)
      ++ (loop_text first s ++ clusters first calls (max inside (depth_in calls s)) loops)

  -- what is around the node of a number
  abbrev pub opened : ℕ → List ℕ
  opened n =
      clusters n (calls_in scene.flow scene.tree n) 0 (reverse (loops_of scene.flow scene.tree n))

  abbrev pub closed : ℕ → List ℕ
  closed n =
      replicate
      (length (calls_in scene.flow scene.tree n) + length (loops_of scene.flow scene.tree n)) 125
