-- Walks along ways, and the items that follow them.
use Rattle.std.proofs.Common.{◌≡◌, ◌≢◌, ◌∙◌, ℕ, ◌+◌, ◌<◌, ◌≤◌, true, false, List, [], ◌∷◌, ◌++◌, ⊎_elim, Option, Some, None, All, Contains, length, refl, sym, ap, subst, arith, append-nil, append_assoc}
use Rattle.std.proofs.lemmas.Bool.{cases_Bool}
use Rattle.std.specs.Prelude.{reverse}
use Rattle.std.proofs.lemmas.List.{map-append, reverse-append}
use Rattle.std.proofs.lemmas.List.Elements.{All-nil, All-cons, All-weaker}
use Rattle.control_flow.specs.Flow.{Flow}
use Rattle.numbered_walks.specs.declared.span.NumberedEdge.{NumberedEdge}
use Rattle.numbered_walks.specs.declared.span.Span.{Span}
use Rattle.numbered_walks.specs.declared.tables.Tables.{Tables}
use Rattle.numbered_walks.specs.declared.index.Index.{Index}
use Rattle.numbered_walks.specs.Ordered.{IsOrdered}
use Rattle.numbered_walks.specs.Index.{edge_at, edges_of}
use Rattle.numbered_walks.specs.Tables.{is_header_in}
use Rattle.numbered_walks.specs.Found.{IsEntering}
use Rattle.numbered_walks.specs.Reach.{InTree, IsPathTo, holds_in, start_of}
use Rattle.numbered_walks.proofs.Passing.{header_found}
use Rattle.numbered_walks.proofs.Grouping.{edge_at-in}
use Rattle.numbered_walks.proofs.Members.{begins_in, member_header}
use Rattle.numbered_walks.proofs.Paths as P
use Rattle.loop_bounds.specs.Tree.{Tree}
use Rattle.longest_walk.specs.Folded.{Opened, joined, one_edge}
use Rattle.longest_walk.specs.Built.{step_at}
use Rattle.longest_walk.specs.Ways.{AreSearched, HasRounds, IsAlong, IsFollowed, IsRounds, IsWay, level_in, opened_edge, opened_rounds, opened_way, rounds_at, depth_at}
use Rattle.longest_walk.specs.declared.rounds.Rounds.{Rounds}
use Rattle.longest_walk.proofs.Along.{along_append, along_edge, along_none, along_room, along_weaker}
use Rattle.longest_walk.proofs.Levels.{deep_some, level_below}

-- ## Ways of numbers

module _ (exit : ℕ) (edges : List NumberedEdge) (spans : List Span) (c : Tables) (order : IsOrdered exit edges spans) where
  -- a number of the context is its start or a later one
  pub starts_low : (context : Option Span) (p : ℕ) → holds_in context p ≡ true → start_of context ≤ p
  starts_low None p inside = omega arith
  starts_low (Some s) p inside = member_header s p inside

  pub way_inside : (context : Option Span) (from to : ℕ) (ks : List ℕ) → IsWay edges spans c context from ks to → All (λ k. (k < length edges) × ((edge_at edges k).to ≤ exit)) ks
  way_inside context from to [] way = All-nil (λ k. (k < length edges) × ((edge_at edges k).to ≤ exit))
  way_inside context from to (k ∷ ks) way =
      All-cons (λ k. (k < length edges) × ((edge_at edges k).to ≤ exit)) k ks (way.1.inside, (order.places (edge_at edges k) (edge_at-in edges k way.1.inside)).1) (way_inside context (edge_at edges k).to to ks way.4)

  -- a way, one edge further back
  pub way_back : (context : Option Span) → InTree spans context → (here to k : ℕ) (ks : List ℕ) → (here ≢ start_of context) → holds_in context here ≡ true → IsEntering edges spans c here k → IsWay edges spans c context here (reverse ks) to
      → (holds_in context (edge_at edges k).from ≡ true) × ((edge_at edges k).from ≤ exit) × IsWay edges spans c context (edge_at edges k).from (reverse (ks ++ k ∷ [])) to
  way_back context in_tree here to k ks differ inside by way =
      let e = edge_at edges k in
      let in_graph : Contains edges e = edge_at-in edges k by.inside in
      let low : start_of context < here = omega (arith, starts_low context here inside, differ) in
      let goes_in : holds_in context e.to ≡ true = subst (λ (x : ℕ). holds_in context x ≡ true) (sym by.ends) inside in
      let later : start_of context < e.to = omega (arith, by.ends) in
      let longer : k ∷ reverse ks ≡ reverse (ks ++ k ∷ []) = sym (reverse-append ks (k ∷ [])) in (
        begins_in exit edges spans order context in_tree e in_graph goes_in later,
        omega (arith, (order.places e in_graph).0),
        subst (λ (l : List ℕ). IsWay edges spans c context e.from l to) longer
            (refl, subst (λ (x : ℕ). IsEntering edges spans c x k) (sym by.ends) by, goes_in, later, subst (λ (x : ℕ). IsWay edges spans c context x (reverse ks) to) (sym by.ends) way),
      )

-- ## Items along ways

module _ (flow : Flow) (tree : Tree) (index : Index) (c : Tables) (g : AreSearched flow tree index c) where
  abbrev exit : ℕ
  exit = length flow.places

  edges_more : (ks ls : List ℕ) → edges_of tree.edges (ks ++ ls) ≡ edges_of tree.edges ks ++ edges_of tree.edges ls
  edges_more ks ls = map-append (edge_at tree.edges) ks ls

  inside_flow : (k : ℕ) → k < length tree.edges → k < length flow.edges
  inside_flow k lt = omega (arith, g.tree_is.numbered.same)

  pub from_low : (k : ℕ) → k < length tree.edges → (edge_at tree.edges k).from ≤ exit
  from_low k lt = omega (arith, (g.tree_is.ordered.places (edge_at tree.edges k) (edge_at-in tree.edges k lt)).0)

  -- what the code asks of a way
  pub way_known : (many : ℕ) → many ≡ exit + 1 → (context : Option Span) (from to : ℕ) (ks : List ℕ) → IsWay tree.edges tree.spans c context from ks to → All (λ k. (k < length flow.edges) × (k < length tree.edges) × ((edge_at tree.edges k).to < many)) ks
  way_known many whole context from to ks way = All-weaker (λ k. (k < length tree.edges) × ((edge_at tree.edges k).to ≤ exit)) (λ k. (k < length flow.edges) × (k < length tree.edges) × ((edge_at tree.edges k).to < many))
      (λ k h. (inside_flow k h.0, h.0, omega (arith, h.1, whole))) ks (way_inside exit tree.edges tree.spans c g.tree_is.ordered context from to ks way)

  -- one edge further, and all rounds of the instance that it enters
  follow_edge : (table : List (Option Rounds)) (context : Option Span) → InTree tree.spans context → HasRounds flow tree c context table → (from k : ℕ) (items : List Opened) → IsFollowed flow tree c context from items → (edge_at tree.edges k).from ≡ from → IsEntering tree.edges tree.spans c (edge_at tree.edges k).to k → holds_in context (edge_at tree.edges k).to ≡ true → start_of context < (edge_at tree.edges k).to
      → IsFollowed flow tree c context (edge_at tree.edges k).to (items ++ opened_edge flow tree table k)
  follow_edge table context here has from k items f at by inside later =
      let e = edge_at tree.edges k in
      let level = level_in tree.spans context in
      let path : IsPathTo tree.edges tree.spans c context e.from (edges_of tree.edges f.numbers) = subst (λ (x : ℕ). IsPathTo tree.edges tree.spans c context x (edges_of tree.edges f.numbers)) (sym at) f.path in
      let one : IsAlong flow tree c level (k ∷ []) (joined (one_edge (step_at flow.edges k) ∷ [])) = along_edge flow tree c level k (along_room flow tree c level f.numbers (joined items) f.along) (inside_flow k by.inside) in
      ⊎_elim
      (λ header.
      let found = header_found tree.spans e.to header in
      let s = found.0 in
      let all : IsRounds flow tree c s (rounds_at table s.header) = has.known s found.1 (subst (λ (x : ℕ). holds_in context x ≡ true) found.2 inside) (omega (arith, found.2)) in
      let low : level ≤ depth_at tree.spans s.header = level_below exit tree.edges tree.spans g.tree_is.ordered context here s found.1 (subst (λ (x : ℕ). holds_in context x ≡ true) found.2 inside) (omega (arith, found.2)) in
      let entry : rounds_at table e.to ≡ rounds_at table s.header = ap (rounds_at table) found.2 in
      let rounds : IsAlong flow tree c level all.numbers (joined (opened_rounds (rounds_at table e.to))) =
      along_weaker flow tree c level (depth_at tree.spans s.header) all.numbers _ low (subst (λ (o : Option Rounds). IsAlong flow tree c (depth_at tree.spans s.header) all.numbers (joined (opened_rounds o))) (sym entry) all.along) in
      let more : IsPathTo tree.edges tree.spans c context e.to ((edges_of tree.edges f.numbers ++ e ∷ []) ++ edges_of tree.edges all.numbers) =
      P.enter exit tree.edges tree.spans c g.tree_is.ordered g.found context here e.to k by inside later s found.1 found.2 (edges_of tree.edges all.numbers) (edges_of tree.edges f.numbers) all.rounds path in
      record {
        numbers = f.numbers ++ (k ∷ all.numbers);
        path = subst (IsPathTo tree.edges tree.spans c context e.to) (append_assoc (edges_of tree.edges f.numbers) (e ∷ []) (edges_of tree.edges all.numbers) ∙ sym (edges_more f.numbers (k ∷ all.numbers))) more;
        along = along_append flow tree c level f.numbers (k ∷ all.numbers) items (opened_edge flow tree table k) f.along
            (along_append flow tree c level (k ∷ []) all.numbers (one_edge (step_at flow.edges k) ∷ []) (opened_rounds (rounds_at table e.to)) one rounds);
      })
      (λ plain.
      let none : [] ≡ opened_rounds (rounds_at table e.to) = ap opened_rounds (sym (has.plain e.to plain)) in
      let more : IsPathTo tree.edges tree.spans c context e.to (edges_of tree.edges f.numbers ++ e ∷ []) = P.step exit tree.edges tree.spans c g.tree_is.ordered g.found context here e.to k by inside later plain (edges_of tree.edges f.numbers) path in
      record {
        numbers = f.numbers ++ k ∷ [];
        path = subst (IsPathTo tree.edges tree.spans c context e.to) (sym (edges_more f.numbers (k ∷ []))) more;
        along = subst (λ (os : List Opened). IsAlong flow tree c level (f.numbers ++ k ∷ []) (joined (items ++ (one_edge (step_at flow.edges k) ∷ os)))) none
            (along_append flow tree c level f.numbers (k ∷ []) items (one_edge (step_at flow.edges k) ∷ []) f.along one);
      })
      (cases_Bool (is_header_in tree.spans e.to))

  pub follow_way : (table : List (Option Rounds)) (context : Option Span) → InTree tree.spans context → HasRounds flow tree c context table → (from to : ℕ) (ks : List ℕ) (items : List Opened) → IsFollowed flow tree c context from items → IsWay tree.edges tree.spans c context from ks to → IsFollowed flow tree c context to (items ++ opened_way flow tree table ks)
  follow_way table context here has from to [] items f way =
      subst (IsFollowed flow tree c context to) (sym (append-nil items)) (subst (λ (x : ℕ). IsFollowed flow tree c context x items) way f)
  follow_way table context here has from to (k ∷ ks) items f way =
      let e = edge_at tree.edges k in
      subst (IsFollowed flow tree c context to) (append_assoc items (opened_edge flow tree table k) (opened_way flow tree table ks))
      (follow_way table context here has e.to to ks (items ++ opened_edge flow tree table k) (follow_edge table context here has from k items f way.0 way.1 way.2 way.3) way.4)

  -- ## Where walks begin

  -- at a header
  pub follow_header : (s : Span) → Contains tree.spans s → IsFollowed flow tree c (Some s) s.header []
  follow_header s s_in = record {
    numbers = [];
    path = P.at_header exit tree.edges tree.spans c g.tree_is.ordered g.found s s_in;
    along = along_none flow tree c (level_in tree.spans (Some s)) (omega (arith, g.tree_is.ordered.shallow s.header));
  }

  -- at the entry, after all rounds of an instance that begins there
  pub follow_entry : (table : List (Option Rounds)) → ((s : Span) → Contains tree.spans s → IsRounds flow tree c s (rounds_at table s.header)) → ((p : ℕ) → is_header_in tree.spans p ≡ false → rounds_at table p ≡ None) → IsFollowed flow tree c None 0 (opened_rounds (rounds_at table 0))
  follow_entry table known plain_at = ⊎_elim
      (λ header.
      let found = header_found tree.spans 0 header in
      let s = found.0 in
      let all : IsRounds flow tree c s (rounds_at table s.header) = known s found.1 in
      let entry : rounds_at table s.header ≡ rounds_at table 0 = ap (rounds_at table) (sym found.2) in
      record {
        numbers = all.numbers;
        path = P.entry_rounds exit tree.edges tree.spans c g.tree_is.ordered g.found s found.1 found.2 (edges_of tree.edges all.numbers) all.rounds;
        along = along_weaker flow tree c 1 (depth_at tree.spans s.header) all.numbers _ (deep_some exit tree.edges tree.spans g.tree_is.ordered s found.1)
            (subst (λ (o : Option Rounds). IsAlong flow tree c (depth_at tree.spans s.header) all.numbers (joined (opened_rounds o))) entry all.along);
      })
      (λ plain. subst (λ (os : List Opened). IsFollowed flow tree c None 0 os) (ap opened_rounds (sym (plain_at 0 plain)))
      (record {
        numbers = [];
        path = P.at_entry exit tree.edges tree.spans c g.tree_is.ordered g.found plain;
        along = along_none flow tree c 1 (omega arith);
      }))
      (cases_Bool (is_header_in tree.spans 0))
