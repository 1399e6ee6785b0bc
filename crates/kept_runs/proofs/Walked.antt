-- The walk of a run that is followed, by places and by numbers.
use Rattle.std.proofs.Common.{◌≡◌, ℕ, ◌<◌, ◌≤◌, List, [], ◌∷◌, ◌++◌, length, sym, subst, arith}
use Rattle.std.specs.Prelude.{Contains}
use Rattle.std.proofs.lemmas.List.Elements.{All-append, All-cons, All-nil, Contains-get_or}
use Rattle.image.specs.Image.{Words}
use Rattle.statement.specs.Stated.{Stated}
use Rattle.arm2_exec.specs.State.{State}
use Rattle.arm2_exec.specs.declared.machine.Input.{Input}
use Rattle.arm2_exec.specs.declared.machine.Stepped.{Stepped}
use Rattle.walks.specs.Walk.{Leads}
use Rattle.walks.specs.Stretch.{Keeps}
use Rattle.walks.specs.Greatest as G
use Rattle.walks.proofs.Joins.{keeps_from_most, most_from_keeps}
use Rattle.walks.proofs.Leading.{Leads-append}
use Rattle.control_flow.specs.Flow.{Flow, HasEdge, IsWellFormed, edge_shape}
use Rattle.control_flow.specs.declared.edges.Edge.{Edge}
use Rattle.control_flow.specs.declared.places.Place.{Place}
use Rattle.numbered_walks.specs.declared.span.NumberedEdge.{NumberedEdge}
use Rattle.numbered_walks.specs.declared.span.Span.{Span}
use Rattle.numbered_walks.specs.Index.{edge_at, edges_of}
use Rattle.numbered_walks.specs.Ordered as O
use Rattle.numbered_walks.specs.Ordered.{ends_at_header, is_inside, number_shape}
use Rattle.numbered_walks.specs.Reach.{most_in}
use Rattle.loop_bounds.specs.Instance.{place_loops}
use Rattle.loop_bounds.specs.Tree.{IsTree, Tree, place_in}
use Rattle.longest_walk.specs.Built.{step_at, steps_of}
use Rattle.longest_walk.specs.Longest.{KeepsTree}
use Rattle.longest_walk.proofs.CarryWalks.{AreNumbersOf, keeps_down, keeps_up, leads_up}
use Rattle.kept_runs.specs.declared.following.Follower.{Follower}
use Rattle.kept_runs.specs.Following.{CannotGo, Goes, IsNext}
use Rattle.kept_runs.specs.Stays.{AreTurnsAfter}
use Rattle.kept_runs.proofs.SoFar.{front_keeps, map_append, next_to}

module _ (flow : Flow) (tree : Tree) where
  -- by the numbers of its edges
  pub record Walked (x : Follower) (numbers : List ℕ) : Type 0 where
    pub inside : AreNumbersOf flow numbers
    pub leads : O.Leads tree.edges 0 (edges_of tree.edges numbers) x.number
    pub stepped : AreTurnsAfter tree.spans x.turns.items x.number (edges_of tree.edges numbers)

module _ (words : Words) (st : Stated) (flow : Flow) (tree : Tree) (well : IsWellFormed flow) (t : IsTree flow tree) where
  module _ (x : Follower) (numbers : List ℕ) (walked : Walked flow tree x numbers) where
    pub walked_leads : Leads edge_shape (HasEdge flow) flow.entry (steps_of flow.edges numbers) (place_in flow tree x.number)
    walked_leads =
        subst (λ (p : Place). Leads edge_shape (HasEdge flow) p (steps_of flow.edges numbers) (place_in flow tree x.number)) t.entry_first
        (leads_up flow tree well t numbers 0 x.number walked.inside walked.leads)

    pub walked_kept : KeepsTree tree (steps_of flow.edges numbers)
    walked_kept =
        keeps_up flow tree well t numbers walked.inside
        (λ s s_in. keeps_from_most (is_inside s) (ends_at_header s) s.bound (edges_of tree.edges numbers) (walked.stepped.kept s s_in))

    module _ (k : ℕ) (k_in : k < length flow.edges) where
      inside_on : AreNumbersOf flow (numbers ++ k ∷ [])
      inside_on = All-append (λ j. j < length flow.edges) numbers (k ∷ []) walked.inside (All-cons (λ j. j < length flow.edges) k [] k_in (All-nil (λ j. j < length flow.edges)))

      pub up_on : steps_of flow.edges (numbers ++ k ∷ []) ≡ steps_of flow.edges numbers ++ step_at flow.edges k ∷ []
      up_on = map_append (step_at flow.edges) numbers (k ∷ [])

      down_on : edges_of tree.edges (numbers ++ k ∷ []) ≡ edges_of tree.edges numbers ++ edge_at tree.edges k ∷ []
      down_on = map_append (edge_at tree.edges) numbers (k ∷ [])

      pub keeps_on : KeepsTree tree (steps_of flow.edges numbers ++ step_at flow.edges k ∷ []) → (s : Span) → Contains tree.spans s → most_in s (edges_of tree.edges numbers ++ edge_at tree.edges k ∷ []) ≤ s.bound
      keeps_on keeps s s_in =
          let kept : O.KeepsBounds tree.spans (edges_of tree.edges (numbers ++ k ∷ [])) =
          keeps_down flow tree well t (numbers ++ k ∷ []) inside_on (subst (λ (v : List Edge). KeepsTree tree v) (sym up_on) keeps) in
          most_from_keeps (is_inside s) (ends_at_header s) s.bound (edges_of tree.edges numbers ++ edge_at tree.edges k ∷ [])
          (subst (λ (v : List NumberedEdge). Keeps (is_inside s) (ends_at_header s) s.bound v) down_on (kept s s_in))

    -- no walk that keeps the bounds goes on by an edge that does not
    pub none_on : (s : State) (i : Input) (stepped : Stepped) (after : State) (k : ℕ) (rest : List Edge) → CannotGo words st flow tree x s i → IsNext words st flow tree x s i stepped after k
        → KeepsTree tree (steps_of flow.edges numbers ++ step_at flow.edges k ∷ rest) → ⊥
    none_on s i stepped after k rest cannot next keeps =
        let front : List Edge = steps_of flow.edges numbers ++ step_at flow.edges k ∷ [] in
        let whole : steps_of flow.edges numbers ++ step_at flow.edges k ∷ rest ≡ (steps_of flow.edges numbers ++ step_at flow.edges k ∷ []) ++ rest = sym (next_to (steps_of flow.edges numbers) (step_at flow.edges k) rest) in
        let kept : KeepsTree tree (steps_of flow.edges numbers ++ step_at flow.edges k ∷ []) = λ j in_tree.
        front_keeps (G.is_inside edge_shape place_loops j) (G.ends_at_header edge_shape place_loops j) j.bound (steps_of flow.edges numbers ++ step_at flow.edges k ∷ []) rest
        (subst (λ (v : List Edge). G.KeepsBound edge_shape place_loops j v) whole (keeps j in_tree)) in
        cannot stepped after k next (edges_of tree.edges numbers) walked.stepped (keeps_on k next.known kept)

    pub walked_more : (y : Follower) (s : State) (i : Input) (after : State) (goes : Goes words st flow tree x y s i after) → Walked flow tree y (numbers ++ goes.edge ∷ [])
    walked_more y s i after goes = record {
      inside = inside_on goes.edge goes.next.known;
      leads =
          subst (λ (v : List NumberedEdge). O.Leads tree.edges 0 v y.number) (sym (down_on goes.edge goes.next.known))
          (Leads-append number_shape (Contains tree.edges) 0 x.number y.number (edges_of tree.edges numbers) (edge_at tree.edges goes.edge ∷ []) walked.leads
          (Contains-get_or tree.edges goes.edge _ (let same = t.numbered.same in let lt = goes.next.known in omega (arith, same, lt)), goes.next.from, sym goes.number_is));
      stepped = subst (λ (v : List NumberedEdge). AreTurnsAfter tree.spans y.turns.items y.number v) (sym (down_on goes.edge goes.next.known)) (goes.adds (edges_of tree.edges numbers) walked.stepped);
    }
