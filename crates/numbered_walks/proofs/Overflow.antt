-- A number that an edge needs is no more than what some walk to its end costs.
use Rattle.std.proofs.Common.{◌≡◌, ℕ, ◌+◌, ◌<◌, ◌≤◌, max, Bool, true, false, cond, not, ◌&&◌, List, [], ◌∷◌, ◌++◌, ⊎_elim, inl, inr, get_or, None, Contains, sum_by, refl, arith}
use Rattle.std.proofs.lemmas.Bool.{cases_Bool}
use Rattle.numbered_walks.specs.declared.span.NumberedEdge.{NumberedEdge}
use Rattle.numbered_walks.specs.declared.span.Span.{Span}
use Rattle.numbered_walks.specs.Ordered.{number_shape, Leads, cost_of, is_in, is_inside, ends_at_header}
use Rattle.walks.specs.Segments.{tail}
use Rattle.walks.proofs.Joins as J
use Rattle.walks.proofs.Segments as G
use Rattle.walks.proofs.Leading.{Leads-append, cost-append}
use Rattle.walks.proofs.SumLe.{sum_by-le_all}
use Rattle.numbered_walks.proofs.Reaching.{Reach, needed, stay}
use Rattle.numbered_walks.specs.Reach.{most_in}

one_head : (x t : Bool) → cond {A = ℕ} x (cond t 1 0 + 0) 0 ≤ 1
one_head false t = omega arith
one_head true false = omega arith
one_head true true = omega arith

left_pick : (x y : Bool) (s : ℕ) → cond {A = ℕ} (x && not y) s 0 ≤ cond (x && true) s 0
left_pick false y s = omega arith
left_pick true false s = omega arith
left_pick true true s = omega arith

-- any edge adds one turn at most
push_turn : (j : Span) (v : List NumberedEdge) (e : NumberedEdge) → most_in j (v ++ e ∷ []) ≤ most_in j v + 1
push_turn j v e =
    let joins : most_in j (v ++ e ∷ []) ≡ max (max (most_in j v) (max (cond (is_inside j e) (cond (ends_at_header j e) 1 0 + 0) 0) 0)) (tail (is_inside j) (ends_at_header j) v + cond (is_inside j e) (cond (ends_at_header j e) 1 0 + 0) 0) =
    J.most-append (is_inside j) (ends_at_header j) v (e ∷ []) in
    omega (arith, joins, one_head (is_inside j e) (ends_at_header j e), G.tail-le-most (is_inside j) (ends_at_header j) v)

module _ (edges : List NumberedEdge) (tree : List Span) (taken : Span → ℕ) (dist : ℕ → ℕ) (arr rnd : Span → ℕ) where
  pub record WalkOver (e : NumberedEdge) : Type 0 where
    pub walk : List NumberedEdge
    pub leads : Leads edges 0 walk e.to
    pub kept : (j : Span) → Contains tree j → most_in j walk ≤ j.bound
    pub cost : needed edges tree taken dist arr rnd e ≤ cost_of walk

  pub walk_over : (e : NumberedEdge) → Contains edges e → ((j : Span) → Contains tree j → taken j ≤ j.bound) → ((j : Span) → Contains tree j → is_inside j e ≡ true → ends_at_header j e ≡ true → taken j < j.bound) → Reach edges tree taken dist arr rnd None e.from → WalkOver e
  walk_over e in_graph within room r = record {
    walk = r.walk ++ e ∷ [];
    leads = Leads-append number_shape (Contains edges) 0 e.from e.to r.walk (e ∷ []) r.leads (in_graph, refl, refl);
    kept = λ j in_tree.
        let before : most_in j r.walk ≤ taken j = r.kept j in_tree in
        let few : taken j ≤ j.bound = within j in_tree in
        ⊎_elim (λ inside. ⊎_elim
        (λ turns. let more : taken j < j.bound = room j in_tree inside turns in omega (arith, push_turn j r.walk e))
        (λ other. G.push_edge (is_inside j) (ends_at_header j) j.bound r.walk e (omega arith) (inl other))
        (cases_Bool (ends_at_header j e)))
        (λ outside. G.push_edge (is_inside j) (ends_at_header j) j.bound r.walk e (omega arith) (inr outside))
        (cases_Bool (is_inside j e));
    cost =
        let left_terms = λ (j : Span). cond (is_in j e.from && not (is_in j e.to)) (stay edges tree taken dist arr rnd j) 0 in
        let all_terms = λ (j : Span). cond (is_in j e.from && true) (stay edges tree taken dist arr rnd j) 0 in
        let sums : sum_by left_terms tree ≤ sum_by all_terms tree = sum_by-le_all left_terms all_terms tree (λ k d inside. left_pick (is_in (get_or tree k d) e.from) (is_in (get_or tree k d) e.to) (stay edges tree taken dist arr rnd (get_or tree k d))) in
        omega (arith, cost-append number_shape r.walk (e ∷ []), r.cost, sums);
  }
