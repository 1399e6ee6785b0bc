-- A list to which each node comes after all to which it has an edge.
use Rattle.std.proofs.Common.{◌≡◌, ℕ, ◌+◌, ◌<◌, ◌≤◌, List, [], ◌∷◌, ◌++◌, length, get_or, set, ◌⊎◌, inl, inr, ⊎_elim, sym, ap, ◌∙◌, subst, arith, length-append}
use Rattle.std.specs.Prelude.{Contains}
use Rattle.std.proofs.lemmas.List.{get_or_append_left, get_or-set_same, get_or-set_other}
use Rattle.std.proofs.Math.Seq.{get_or-append_seam}
use Rattle.std.proofs.lemmas.Bool.{cases_eq, cases_lt}
use Rattle.numbered_walks.specs.declared.span.NumberedEdge.{NumberedEdge}
use Rattle.loop_bounds.specs.declared.order.Colour.{Colour}
use Rattle.loop_bounds.specs.declared.order.Colour.TheVariants.{White, Grey, Black}
use Rattle.loop_bounds.specs.Edges.{IsGrouped}
use Rattle.loop_bounds.specs.Search.{colour_at, IsPlaced, IsPost}
use Rattle.loop_bounds.proofs.Grouped.{edge_at}

pub at_push : (order : List ℕ) (node k : ℕ) → k < length (order ++ node ∷ []) → ((k < length order) × (get_or (order ++ node ∷ []) k 0 ≡ get_or order k 0)) ⊎ ((k ≡ length order) × (get_or (order ++ node ∷ []) k 0 ≡ node))
at_push order node k h =
    let longer : length (order ++ node ∷ []) ≡ length order + 1 = length-append order (node ∷ []) in
    ⊎_elim
    (λ (l : k < length order). inl (l, get_or_append_left order (node ∷ []) 0 k l))
    (λ (l : length order ≤ k). let same : k ≡ length order = omega arith in inr (same, rw same (get_or-append_seam order node [] 0)))
    (cases_lt k (length order))

module _ (nodes : ℕ) (firsts : List ℕ) (edges : List NumberedEdge) (grouped : IsGrouped firsts edges) (now : List Colour) (order : List ℕ) (node : ℕ) (lt : node < length now) (inside : node < nodes) (post : IsPost nodes edges now order) (grey : colour_at now node ≡ Grey) (done : (j : ℕ) (d : NumberedEdge) → get_or firsts node 0 ≤ j → j < get_or firsts (node + 1) 0 → colour_at now (get_or edges j d).to ≡ Black) where
  apart : (k : ℕ) → k < length order → get_or order k 0 ≡ node → ⊥
  apart k l is = let b : colour_at now (get_or order k 0) ≡ Black = post.placed k l in let g : colour_at now (get_or order k 0) ≡ Grey = ap (colour_at now) is ∙ grey in let x : Grey ≡ Black = sym g ∙ b in cc

  longer : length (order ++ node ∷ []) ≡ length order + 1
  longer = length-append order (node ∷ [])

  placed_push : (v : ℕ) → IsPlaced order v → IsPlaced (order ++ node ∷ []) v
  placed_push v h = let l : h.0 < length order = h.1 in (h.0, omega (arith, longer), get_or_append_left order (node ∷ []) 0 h.0 l ∙ h.2)

  edge_black : (e : NumberedEdge) → Contains edges e → e.from ≡ node → colour_at now e.to ≡ Black
  edge_black e has from =
      let k : ℕ = has.0 in
      let l : k < length edges = has.1 in
      let is : get_or edges k e ≡ e = has.2 in
      let at = edge_at firsts edges grouped k e l in
      let low : get_or firsts node 0 ≤ k = subst (λ x. get_or firsts x 0 ≤ k) (ap (λ (x : NumberedEdge). x.from) is ∙ from) at.1 in
      let high : k < get_or firsts (node + 1) 0 = subst (λ x. k < get_or firsts (x + 1) 0) (ap (λ (x : NumberedEdge). x.from) is ∙ from) at.2 in
      subst (λ (x : NumberedEdge). colour_at now x.to ≡ Black) is (done k e low high)

  pub post_push : IsPost nodes edges (set now node Black) (order ++ node ∷ [])
  post_push = record {
    black = λ v h. ⊎_elim
        (λ (is : v ≡ node). (length order, omega (arith, longer), get_or-append_seam order node [] 0 ∙ sym is))
        (λ (plain : v ≡ node → ⊥). placed_push v (post.black v (sym (get_or-set_other now node v Black White plain) ∙ h)))
        (cases_eq v node);
    placed = λ k h. ⊎_elim
        (λ a. rw a.1 (get_or-set_other now node (get_or order k 0) Black White (apart k a.0) ∙ post.placed k a.0))
        (λ a. rw a.1 (get_or-set_same now node Black White lt))
        (at_push order node k h);
    inside = λ k h. ⊎_elim (λ a. rw a.1 (post.inside k a.0)) (λ a. rw a.1 inside) (at_push order node k h);
    forward = λ k e h has from. ⊎_elim
        (λ a. let w = post.forward k e a.0 has (from ∙ a.1) in
        let l : k < length order = a.0 in let m : w.0 < k = w.1 in
        (w.0, w.1, get_or_append_left order (node ∷ []) 0 w.0 (omega arith) ∙ w.2))
        (λ a. let w = post.black e.to (edge_black e has (from ∙ a.1)) in
        let l : w.0 < length order = w.1 in let same : k ≡ length order = a.0 in
        (w.0, omega arith, get_or_append_left order (node ∷ []) 0 w.0 l ∙ w.2))
        (at_push order node k h);
    distinct = λ j m below h same. ⊎_elim
        (λ a. let l : j < length order = a.0 in
        post.distinct j m below a.0 (sym (get_or_append_left order (node ∷ []) 0 m (omega arith)) ∙ same ∙ a.1))
        (λ a. let l : j ≡ length order = a.0 in
        apart m (omega arith) (sym (get_or_append_left order (node ∷ []) 0 m (omega arith)) ∙ same ∙ a.1))
        (at_push order node j h);
  }

-- a node that is met for the first time is not yet in the list
pub post_met : (nodes : ℕ) (edges : List NumberedEdge) (now : List Colour) (order : List ℕ) (node : ℕ) → node < length now → colour_at now node ≡ White → IsPost nodes edges now order → IsPost nodes edges (set now node Grey) order
post_met nodes edges now order node lt white post =
    let keep : (v : ℕ) → (v ≡ node → ⊥) → colour_at (set now node Grey) v ≡ colour_at now v = λ v ne. get_or-set_other now node v Grey White ne in
    record {
      black = λ v b. ⊎_elim
          (λ (same : v ≡ node). let x : Grey ≡ Black = sym (get_or-set_same now node Grey White lt) ∙ ap (colour_at (set now node Grey)) (sym same) ∙ b in cc)
          (λ (ne : v ≡ node → ⊥). post.black v (sym (keep v ne) ∙ b))
          (cases_eq v node);
      placed = λ k l.
          let was : colour_at now (get_or order k 0) ≡ Black = post.placed k l in
          keep (get_or order k 0) (λ same. let x : Black ≡ White = sym was ∙ ap (colour_at now) same ∙ white in cc) ∙ was;
      inside = post.inside;
      forward = post.forward;
      distinct = post.distinct;
    }
