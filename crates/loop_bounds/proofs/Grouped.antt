-- Edges that are listed node by node.
use Rattle.std.proofs.Common.{◌≡◌, ℕ, ◌+◌, ◌-◌, ◌<◌, ◌≤◌, List, length, get_or, sym, subst, arith}
use Rattle.std.specs.Prelude.{Contains}
use Rattle.std.proofs.lemmas.List.{get_or_default}
use Rattle.control_flow.proofs.Firsts.{owner, rises_to}
use Rattle.numbered_walks.specs.declared.span.NumberedEdge.{NumberedEdge}
use Rattle.loop_bounds.specs.Edges.{IsGrouped, exit_of}

pub has_edge : (edges : List NumberedEdge) (k : ℕ) (d : NumberedEdge) → k < length edges → Contains edges (get_or edges k d)
has_edge edges k d lt = (k, lt, get_or_default edges k (get_or edges k d) d lt)

module _ (firsts : List ℕ) (edges : List NumberedEdge) (grouped : IsGrouped firsts edges) where
  pub firsts_inside : (v : ℕ) → v ≤ exit_of firsts → get_or firsts v 0 ≤ length edges
  firsts_inside v le = rises_to firsts (exit_of firsts) (length edges) grouped.rising grouped.last_all (exit_of firsts - v) v (omega arith)

  -- each edge is in the part of the node that it leaves
  pub edge_at : (k : ℕ) (d : NumberedEdge) → k < length edges → ((get_or edges k d).from < exit_of firsts) × (get_or firsts (get_or edges k d).from 0 ≤ k) × (k < get_or firsts ((get_or edges k d).from + 1) 0)
  edge_at k d lt =
      let w = owner firsts grouped.first_zero (exit_of firsts) k (let all : get_or firsts (exit_of firsts) 0 ≡ length edges = grouped.last_all in omega arith) in
      let is : (get_or edges k d).from ≡ w.0 = grouped.part w.0 k d w.1 w.2 w.3 in
      (subst (λ v. v < exit_of firsts) (sym is) w.1, subst (λ v. get_or firsts v 0 ≤ k) (sym is) w.2, subst (λ v. k < get_or firsts (v + 1) 0) (sym is) w.3)

  pub leaves : (e : NumberedEdge) → Contains edges e → e.from < exit_of firsts
  leaves e has = subst (λ (x : NumberedEdge). x.from < exit_of firsts) has.2 (edge_at has.0 e has.1).0
