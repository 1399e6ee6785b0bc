-- The verdict on a walk, from what following its lines showed.
use Rattle.std.proofs.Common.{◌≡◌, ◌∙◌, ℕ, ◌+◌, ◌<◌, ◌^◌, List, [], ◌∷◌, inr, None, length, get_or, sym, ap, subst, arith}
use Rattle.std.proofs.lemmas.List.{get_or-replicate, length-replicate}
use Rattle.std.proofs.lemmas.Option.{none-some, same_Some}
use Rattle.walks.specs.Walk.{Leads, cost_of}
use Rattle.walks.proofs.Joins.{keeps_from_most}
use Rattle.control_flow.specs.declared.places.Place.{Place}
use Rattle.control_flow.specs.declared.edges.Edge.{Edge}
use Rattle.control_flow.specs.Flow.{Flow, HasEdge, IsWellFormed, edge_shape}
use Rattle.numbered_walks.specs.declared.span.NumberedEdge.{NumberedEdge}
use Rattle.numbered_walks.specs.Index.{edges_of}
use Rattle.numbered_walks.specs.Ordered as O
use Rattle.numbered_walks.proofs.Members.{member_from, member_last}
use Rattle.loop_bounds.specs.Tree.{IsTree, Tree, place_in}
use Rattle.longest_walk.specs.Built.{steps_of}
use Rattle.longest_walk.specs.Longest.{KeepsTree}
use Rattle.longest_walk.proofs.CarryWalks.{costs_same, exit_place, keeps_up}
use Rattle.certificate.specs.declared.cert.Cert.{Cert}
use Rattle.cert_check.specs.declared.index.Index.{Index}
use Rattle.cert_check.specs.declared.walker.Walker.{Walker}
use Rattle.cert_check.specs.Followed.{Followed, followed}
use Rattle.cert_check.specs.Index.{IsIndex}
use Rattle.cert_check.specs.declared.verdict.Verdict.{Verdict}
use Rattle.cert_check.specs.declared.verdict.Objection.TheVariants.{WalkCost}
use Rattle.cert_check.specs.Verdict.{CostsBound, IsFirstOf, IsFollowed, KeepsAll, walk_objections}
use Rattle.cert_check.specs.Walking.{CanFollow, IsFresh, IsTaken, IsWalkerAfter, capped_cost, graph_span}
use Rattle.cert_check.proofs.WalkFollowing.{leads_of}

module _ (flow : Flow) (tree : Tree) (index : Index) (well : IsWellFormed flow) (t : IsTree flow tree) (indexed : IsIndex (length flow.places) tree.spans index) (x : Walker) (fresh : IsFresh (length flow.places) x) where
  abbrev exit : ℕ
  exit = length flow.places

  abbrev place : ℕ → Place
  place = place_in flow tree

  pub at_entry : place_in flow tree x.number ≡ flow.entry
  at_entry = ap place fresh.number_is ∙ t.entry_first

  pub ready : CanFollow flow tree index (graph_span flow) x
  ready = record {
    well_formed = well;
    tree_is = t;
    indexed = indexed;
    holds_inner = λ s s_in here n is.
        let shape = t.ordered.shape s s_in in
        member_from (graph_span flow) n (omega arith) (omega (arith, member_last s n is, shape.1));
    known = omega (arith, fresh.number_is);
    inside = member_from (graph_span flow) x.number (omega arith) (omega (arith, fresh.number_is));
    room = ap length fresh.turns_are ∙ length-replicate (exit + 1) 0;
  }

  after_nothing : IsWalkerAfter tree.spans x []
  after_nothing = record {
    cost_is = omega (arith, fresh.cost_is);
    turns_are = λ s s_in here.
        let shape = t.ordered.shape s s_in in
        let none : get_or x.turns.items s.header 0 ≡ 0 = ap (λ (xs : List ℕ). get_or xs s.header 0) fresh.turns_are ∙ get_or-replicate (exit + 1) s.header 0 0 (omega (arith, shape.0, shape.1)) in
        omega (arith, none);
    broken = λ s is. absurd (none-some s (sym fresh.over_is ∙ is));
    kept = λ is s s_in. omega arith;
  }

  module _ (cert : Cert) where
    module _ (y : Walker) (a : IsTaken flow tree index (graph_span flow) 16 (length cert.walk) (followed flow cert.walk) x y) where
      abbrev v : List NumberedEdge
      v = edges_of tree.edges a.numbers

      leads : Leads edge_shape (HasEdge flow) flow.entry a.walk.opened.walk (place_in flow tree y.number)
      leads = subst (λ (p : Place). Leads edge_shape (HasEdge flow) p a.walk.opened.walk (place y.number)) at_entry (leads_of flow tree index well (graph_span flow) 16 (length cert.walk) (followed flow cert.walk) x y t a)

      is_walk : (f : Followed) → IsFollowed flow tree cert.walk f → a.walk ≡ f
      is_walk f is = same_Some a.walk f (sym a.walk_is ∙ ap (followed flow cert.walk) at_entry ∙ is.followed_is)

      module _ (done : y.number ≡ length flow.places) where
        pub finished : IsFollowed flow tree cert.walk a.walk
        finished = record {
          followed_is = ap (followed flow cert.walk) (sym at_entry) ∙ a.walk_is;
          complete = subst (λ (p : Place). Leads edge_shape (HasEdge flow) flow.entry a.walk.opened.walk p) (ap place done ∙ exit_place flow tree well t) leads;
          repeats = a.repeats;
        }

        pub after_walk : IsWalkerAfter tree.spans y (edges_of tree.edges a.numbers)
        after_walk = a.adds [] after_nothing

        pub within_bounds : y.over ≡ None → KeepsAll flow tree cert
        within_bounds fine f is =
            let kept : KeepsTree tree (steps_of flow.edges a.numbers) = keeps_up flow tree well t a.numbers a.inside (λ s s_in. keeps_from_most (O.is_inside s) (O.ends_at_header s) s.bound (edges_of tree.edges a.numbers) (after_walk.kept fine s s_in)) in
            subst (λ (g : Followed). KeepsTree tree g.opened.walk) (is_walk f is) (subst (λ (w : List Edge). KeepsTree tree w) (sym a.edges_are) kept)

        pub cost_after_walk : y.cost ≡ capped_cost (cost_of edge_shape a.walk.opened.walk)
        cost_after_walk = after_walk.cost_is ∙ ap capped_cost (sym (ap (λ (w : List Edge). cost_of edge_shape w) a.edges_are ∙ costs_same flow tree well t a.numbers a.inside))

        -- of a walk within the bounds the cost alone is left to judge
        pub cost_left : (v : Verdict) → y.over ≡ None → IsFirstOf flow tree cert (WalkCost ∷ []) v → IsFirstOf flow tree cert walk_objections v
        cost_left v fine rest = inr ((a.walk, finished), inr (within_bounds fine, rest))

        pub same_cost : cert.bound < 2 ^ 64 → y.cost ≡ cert.bound → CostsBound flow tree cert
        same_cost fits same f is =
            let here : cost_of edge_shape a.walk.opened.walk ≡ cert.bound = omega (arith, cost_after_walk, same, fits) in
            subst (λ (g : Followed). cost_of edge_shape g.opened.walk ≡ cert.bound) (is_walk f is) here
