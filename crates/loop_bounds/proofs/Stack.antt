-- The steps of the depth-first search.
use Rattle.std.proofs.Common.{◌≡◌, ℕ, zero, suc, ◌+◌, ◌-◌, ◌<◌, ◌≤◌, ◌≢◌, List, [], ◌∷◌, ◌++◌, length, get_or, set, take, ◌⊎◌, inl, inr, ⊎_elim, refl, sym, ap, ◌∙◌, subst, arith, length-append}
use Rattle.std.specs.Prelude.{Contains}
use Rattle.std.proofs.lemmas.List.{get_or_append_left, get_or_default, get_or_read, get_or-set_same, get_or-set_other, length-set, length-take-le, get_or-take}
use Rattle.std.proofs.Math.Seq.{get_or-append_seam}
use Rattle.std.proofs.lemmas.Bool.{cases_eq, cases_lt}
use Rattle.walks.specs.Walk.{Leads, Cycle, IsReached}
use Rattle.numbered_walks.specs.declared.span.NumberedEdge.{NumberedEdge}
use Rattle.loop_bounds.specs.declared.order.Colour.{Colour}
use Rattle.loop_bounds.specs.declared.order.Colour.TheVariants.{White, Grey, Black}
use Rattle.numbered_walks.specs.Ordered.{number_shape}
use Rattle.loop_bounds.specs.Edges.{IsGrouped, exit_of}
use Rattle.loop_bounds.specs.Search.{colour_at, IsStacked, IsSeen, AreRanged, IsAtHand}
use Rattle.loop_bounds.proofs.Grouped.{has_edge, firsts_inside}
use Rattle.loop_bounds.proofs.Post.{at_push, post_push, post_met}

pub ranged_more : (firsts next : List ℕ) (node : ℕ) → AreRanged firsts next → node < exit_of firsts → node < length next → get_or next node 0 < get_or firsts (node + 1) 0 → AreRanged firsts (set next node (get_or next node 0 + 1))
ranged_more firsts next node r lt wide less = record {
  low = λ v l. ⊎_elim
      (λ (same : v ≡ node). let a : get_or firsts v 0 ≤ get_or next v 0 = r.low v l in
      rw same (rw (get_or-set_same next node (get_or next node 0 + 1) 0 wide) (let b : get_or firsts node 0 ≤ get_or next node 0 = r.low node lt in omega arith)))
      (λ (ne : v ≡ node → ⊥). rw (get_or-set_other next node v (get_or next node 0 + 1) 0 ne) (r.low v l))
      (cases_eq v node);
  high = λ v l. ⊎_elim
      (λ (same : v ≡ node). rw same (rw (get_or-set_same next node (get_or next node 0 + 1) 0 wide) (omega arith)))
      (λ (ne : v ≡ node → ⊥). rw (get_or-set_other next node v (get_or next node 0 + 1) 0 ne) (r.high v l))
      (cases_eq v node);
  last = get_or-set_other next node (exit_of firsts) (get_or next node 0 + 1) 0 (λ same. absurd (omega arith)) ∙ r.last;
}

pub top_in_next : (firsts : List ℕ) (edges : List NumberedEdge) (colours : List Colour) (order path next : List ℕ) → IsStacked firsts edges colours order path next → 0 < length path → get_or path (length path - 1) 0 < length next
top_in_next firsts edges colours order path next s some =
    let wide : length next ≡ length firsts = s.wide in
    let lt : get_or path (length path - 1) 0 < exit_of firsts = s.inside (length path - 1) (omega arith) in
    omega arith

module _ (firsts : List ℕ) (edges : List NumberedEdge) (grouped : IsGrouped firsts edges) (colours : List Colour) (order path next : List ℕ) (s : IsStacked firsts edges colours order path next) (top node k : ℕ) (at_hand : IsAtHand path next top node k) where
  top_is : top + 1 ≡ length path
  top_is = at_hand.top_is

  node_is : node ≡ get_or path top 0
  node_is = at_hand.node_is

  k_is : k ≡ get_or next node 0
  k_is = at_hand.k_is

  top_lt : top < length path
  top_lt = omega (arith, top_is)

  pub node_in : node < exit_of firsts
  node_in = subst (λ v. v < exit_of firsts) (sym node_is) (s.inside top top_lt)

  node_grey : colour_at colours node ≡ Grey
  node_grey = ap (colour_at colours) node_is ∙ s.grey top top_lt

  in_next : node < length next
  in_next = let w : length next ≡ length firsts = s.wide in let l : node < exit_of firsts = node_in in omega arith

  in_colours : node < length colours
  in_colours = let w : length colours ≡ length firsts = s.whole in let l : node < exit_of firsts = node_in in omega arith

  k_upto : k ≤ get_or firsts (node + 1) 0
  k_upto = subst (λ x. x ≤ get_or firsts (node + 1) 0) (sym k_is) (s.ranged.high node node_in)

  k_low : get_or firsts node 0 ≤ k
  k_low = subst (λ x. get_or firsts node 0 ≤ x) (sym k_is) (s.ranged.low node node_in)

  -- the path from a place on leads to its top
  climbs : (steps j : ℕ) → j + steps ≡ top → IsReached number_shape (Contains edges) (get_or path j 0) node
  climbs zero j is = let same : j ≡ top = omega arith in ([], ap (λ x. get_or path x 0) same ∙ sym node_is)
  climbs (suc steps) j is =
      let l : j + 1 < length path = omega arith in
      let link = s.linked j l in
      let rest = climbs steps (j + 1) (omega arith) in
      (link.0 ∷ rest.0, (link.1, link.2, subst (λ v. Leads number_shape (Contains edges) v rest.0 node) (sym link.3) rest.1))

  -- no node but the top has its next edge moved
  other_next : (p : ℕ) → p < top → get_or (set next node (k + 1)) (get_or path p 0) 0 ≡ get_or next (get_or path p 0) 0
  other_next p l = get_or-set_other next node (get_or path p 0) (k + 1) 0 (λ is. s.apart top p l top_lt (is ∙ node_is))

  top_next : get_or (set next node (k + 1)) node 0 ≡ k + 1
  top_next = get_or-set_same next node (k + 1) 0 in_next

  not_exit : (v : ℕ) → v ≤ exit_of firsts → colour_at colours v ≡ White → v ≢ exit_of firsts
  not_exit v le white same = let x : White ≡ Black = sym white ∙ ap (colour_at colours) same ∙ s.exit_black in cc

  below_top : (p : ℕ) → p < length path → (p < top) ⊎ (p ≡ top)
  below_top p l = ⊎_elim (λ (m : p < top). inl m) (λ (m : top ≤ p). let same : p ≡ top = omega arith in inr same) (cases_lt p top)

  -- ## The top is done

  pub stacked_pop : k ≡ get_or firsts (node + 1) 0 → IsStacked firsts edges (set colours node Black) (order ++ node ∷ []) (take top path) next
  stacked_pop end =
      let wide : length colours ≡ length firsts = s.whole in
      let node_lt : node < exit_of firsts = node_in in
      let shorter : length (take top path) ≡ top = length-take-le top path (omega arith) in
      let now_black : colour_at (set colours node Black) node ≡ Black = get_or-set_same colours node Black White (omega arith) in
      let keep : (v : ℕ) → (v ≡ node → ⊥) → colour_at (set colours node Black) v ≡ colour_at colours v = λ v ne. get_or-set_other colours node v Black White ne in
      let at : (j : ℕ) → j < top → get_or (take top path) j 0 ≡ get_or path j 0 = λ j l. get_or-take top path j 0 l in
      let ne_top : (j : ℕ) → j < top → get_or path j 0 ≡ node → ⊥ = λ j l same. s.apart top j l top_lt (same ∙ node_is) in
      let black_stays : (v : ℕ) → colour_at colours v ≡ Black → colour_at (set colours node Black) v ≡ Black = λ v b. keep v (λ same. let x : Black ≡ Grey = sym b ∙ ap (colour_at colours) same ∙ node_grey in cc) ∙ b in
      record {
        whole = length-set colours node Black ∙ s.whole;
        wide = s.wide;
        ranged = s.ranged;
        post = post_push (length firsts) firsts edges grouped colours order node (omega arith) (omega arith) s.post node_grey
            (λ j d low high. ⊎_elim
            (λ b. b)
            (λ w. let x : top + 1 < length path = w.0 in absurd (omega arith))
            (s.done top j d top_lt (subst (λ x. get_or firsts x 0 ≤ j) node_is low) (subst (λ x. j < x) (sym end ∙ k_is ∙ ap (λ x. get_or next x 0) node_is) high)));
        inside = λ j l. let m : j < top = omega arith in rw (at j m) (s.inside j (omega arith));
        grey = λ j l. let m : j < top = omega arith in rw (at j m) (keep (get_or path j 0) (ne_top j m) ∙ s.grey j (omega arith));
        held = λ u g.
            let ne : u ≡ node → ⊥ = λ same. let x : Grey ≡ Black = sym g ∙ ap (colour_at (set colours node Black)) same ∙ now_black in cc in
            let h = s.held u (sym (keep u ne) ∙ g) in
            ⊎_elim
            (λ (m : h.0 < top). (h.0, omega arith, at h.0 m ∙ h.2))
            (λ (same : h.0 ≡ top). absurd (ne (sym h.2 ∙ ap (λ x. get_or path x 0) same ∙ sym node_is)))
            (below_top h.0 h.1);
        apart = λ j m less l same. let jl : j < top = omega arith in let ml : m < top = omega arith in
            s.apart j m less (omega arith) (sym (at m ml) ∙ same ∙ at j jl);
        linked = λ j l. let jl : j < top = omega arith in let nl : j + 1 < top = omega arith in
            let link = s.linked j (omega arith) in
            (link.0, link.1, link.2 ∙ sym (at j jl), link.3 ∙ sym (at (j + 1) nl));
        exit_black = black_stays (exit_of firsts) s.exit_black;
        fresh = λ v w. s.fresh v (sym (keep v (λ same. let x : White ≡ Black = sym w ∙ ap (colour_at (set colours node Black)) same ∙ now_black in cc)) ∙ w);
        done = λ p j d l low high.
            let m : p < top = omega arith in
            ⊎_elim
            (λ b. inl (black_stays (get_or edges j d).to b))
            (λ w. ⊎_elim
            (λ (less : p + 1 < top). inr (omega arith, w.1 ∙ sym (at (p + 1) less)))
            (λ (more : top ≤ p + 1). let same : p + 1 ≡ top = omega arith in
            inl (subst (λ v. colour_at (set colours node Black) v ≡ Black) (sym (w.1 ∙ ap (λ x. get_or path x 0) same ∙ sym node_is)) now_black))
            (cases_lt (p + 1) top))
            (s.done p j d (omega arith) (subst (λ x. get_or firsts x 0 ≤ j) (at p m) low) (subst (λ x. j < get_or next x 0) (at p m) high));
      }

  -- ## An edge of the top

  module _ (open_end : k ≡ get_or firsts (node + 1) 0 → ⊥) where
    k_less : k < get_or firsts (node + 1) 0
    k_less = let u : k ≤ get_or firsts (node + 1) 0 = k_upto in omega arith

    pub k_in : k < length edges
    k_in =
        let lt : node < exit_of firsts = node_in in
        let less : k < get_or firsts (node + 1) 0 = k_less in
        let most : get_or firsts (node + 1) 0 ≤ length edges = firsts_inside firsts edges grouped (node + 1) (omega arith) in
        omega arith

    -- the colour that is read at the edge's end
    pub end_colour : (d : NumberedEdge) (read colour : Colour) → read ≡ get_or colours (get_or edges k d).to read → read ≡ colour → colour_at colours (get_or edges k d).to ≡ colour
    end_colour d read colour is same =
        let arrived : (get_or edges k d).to ≤ exit_of firsts = grouped.arrives k d k_in in
        let some : 0 < length firsts = grouped.some in
        let wide : length colours ≡ length firsts = s.whole in
        sym (get_or_read colours (get_or edges k d).to read (omega arith) is White) ∙ same

    leaves_top : (d : NumberedEdge) → (get_or edges k d).from ≡ node
    leaves_top d = grouped.part node k d node_in k_low k_less

    ranged : AreRanged firsts (set next node (k + 1))
    ranged =
        subst (λ x. AreRanged firsts (set next node (x + 1))) (sym k_is)
        (ranged_more firsts next node s.ranged node_in in_next (subst (λ x. x < get_or firsts (node + 1) 0) k_is k_less))

    -- an edge to a grey node closes a cycle
    pub stacked_cycle : (d : NumberedEdge) → colour_at colours (get_or edges k d).to ≡ Grey → Cycle number_shape (Contains edges)
    stacked_cycle d grey =
        let at = s.held (get_or edges k d).to grey in
        let l : at.0 < length path = at.1 in
        let w = climbs (top - at.0) at.0 (omega arith) in
        record {
          place = node;
          first = get_or edges k d;
          rest = w.0;
          returns = (has_edge edges k d k_in, leaves_top d, subst (λ v. Leads number_shape (Contains edges) v w.0 node) at.2 w.1);
        }

    -- an edge to a node that is in the order
    pub stacked_skip : (d : NumberedEdge) → colour_at colours (get_or edges k d).to ≡ Black → IsStacked firsts edges colours order path (set next node (k + 1))
    stacked_skip e seen = record {
      whole = s.whole;
      wide = length-set next node (k + 1) ∙ s.wide;
      ranged = ranged;
      post = s.post;
      inside = s.inside;
      grey = s.grey;
      held = s.held;
      apart = s.apart;
      linked = s.linked;
      exit_black = s.exit_black;
      fresh = λ v white.
          get_or-set_other next node v (k + 1) 0 (λ same. let g : White ≡ Grey = sym white ∙ ap (colour_at colours) same ∙ node_grey in cc) ∙ s.fresh v white;
      done = λ p j d l low high. ⊎_elim
          (λ (m : p < top). s.done p j d l low (subst (λ n. j < n) (other_next p m) high))
          (λ (same : p ≡ top).
          let up : j < k + 1 = subst (λ n. j < n) (ap (λ x. get_or (set next node (k + 1)) x 0) (ap (λ x. get_or path x 0) same ∙ sym node_is) ∙ top_next) high in
          ⊎_elim
          (λ (less : j < k). s.done p j d l low (subst (λ n. j < n) (k_is ∙ ap (λ x. get_or next x 0) (node_is ∙ ap (λ x. get_or path x 0) (sym same))) less))
          (λ (more : k ≤ j). let at : j ≡ k = omega arith in
          let e_is : get_or edges j d ≡ get_or edges k e = ap (λ x. get_or edges x d) at ∙ get_or_default edges k d e k_in in
          inl (subst (λ (x : NumberedEdge). colour_at colours x.to ≡ Black) (sym e_is) seen))
          (cases_lt j k))
          (below_top p l);
    }

    -- an edge to a node that is met for the first time
    pub stacked_push : (d : NumberedEdge) → colour_at colours (get_or edges k d).to ≡ White → IsStacked firsts edges (set colours (get_or edges k d).to Grey) order (path ++ (get_or edges k d).to ∷ []) (set next node (k + 1))
    stacked_push e white =
        let to : ℕ = (get_or edges k e).to in
        let arrived : to ≤ exit_of firsts = grouped.arrives k e k_in in
        let to_in : to < exit_of firsts = omega (arith, not_exit to arrived white) in
        let longer : length (path ++ to ∷ []) ≡ length path + 1 = length-append path (to ∷ []) in
        let wide : length colours ≡ length firsts = s.whole in
        let new_grey : colour_at (set colours to Grey) to ≡ Grey = get_or-set_same colours to Grey White (omega arith) in
        let apart_to : (v : ℕ) → (colour_at colours v ≡ White → ⊥) → v ≡ to → ⊥ = λ v ne same. ne (ap (colour_at colours) same ∙ white) in
        let grey_apart : (v : ℕ) → colour_at colours v ≡ Grey → v ≡ to → ⊥ = λ v g. apart_to v (λ w. let x : Grey ≡ White = sym g ∙ w in cc) in
        let black_apart : (v : ℕ) → colour_at colours v ≡ Black → v ≡ to → ⊥ = λ v g. apart_to v (λ w. let x : Black ≡ White = sym g ∙ w in cc) in
        let keep : (v : ℕ) → (v ≡ to → ⊥) → colour_at (set colours to Grey) v ≡ colour_at colours v = λ v ne. get_or-set_other colours to v Grey White ne in
        let black_stays : (v : ℕ) → colour_at colours v ≡ Black → colour_at (set colours to Grey) v ≡ Black = λ v b. keep v (black_apart v b) ∙ b in
        let old_at : (j : ℕ) → j < length path → get_or (path ++ to ∷ []) j 0 ≡ get_or path j 0 = λ j l. get_or_append_left path (to ∷ []) 0 j l in
        let new_at : (j : ℕ) → j ≡ length path → get_or (path ++ to ∷ []) j 0 ≡ to = λ j same. ap (λ x. get_or (path ++ to ∷ []) x 0) same ∙ get_or-append_seam path to [] 0 in
        let back_white : (v : ℕ) → colour_at (set colours to Grey) v ≡ White → (v ≡ to → ⊥) = λ v w same. let x : Grey ≡ White = sym new_grey ∙ ap (colour_at (set colours to Grey)) (sym same) ∙ w in cc in
        let moved : (v : ℕ) → (v ≡ node → ⊥) → get_or (set next node (k + 1)) v 0 ≡ get_or next v 0 = λ v ne. get_or-set_other next node v (k + 1) 0 ne in
        let wider_seen : (p v : ℕ) → p < length path → IsSeen colours path p v → IsSeen (set colours to Grey) (path ++ to ∷ []) p v = λ p v l seen.
        ⊎_elim (λ b. inl (black_stays v b)) (λ w. let m : p + 1 < length path = w.0 in inr (omega arith, w.1 ∙ sym (old_at (p + 1) m))) seen in
        record {
          whole = length-set colours to Grey ∙ s.whole;
          wide = length-set next node (k + 1) ∙ s.wide;
          ranged = ranged;
          post = post_met (length firsts) edges colours order to (omega arith) white s.post;
          inside = λ j l. ⊎_elim (λ a. rw a.1 (s.inside j a.0)) (λ a. rw a.1 to_in) (at_push path to j l);
          grey = λ j l. ⊎_elim
              (λ a. rw a.1 (keep (get_or path j 0) (grey_apart (get_or path j 0) (s.grey j a.0)) ∙ s.grey j a.0))
              (λ a. rw a.1 new_grey)
              (at_push path to j l);
          held = λ u g. ⊎_elim
              (λ (same : u ≡ to). (length path, omega arith, new_at (length path) refl ∙ sym same))
              (λ (ne : u ≡ to → ⊥). let h = s.held u (sym (keep u ne) ∙ g) in let l : h.0 < length path = h.1 in (h.0, omega arith, old_at h.0 l ∙ h.2))
              (cases_eq u to);
          apart = λ j m less l same. ⊎_elim
              (λ a. let jl : j < length path = a.0 in s.apart j m less a.0 (sym (old_at m (omega arith)) ∙ same ∙ a.1))
              (λ a. let jl : j ≡ length path = a.0 in let ml : m < length path = omega arith in
              grey_apart (get_or path m 0) (s.grey m ml) (sym (old_at m ml) ∙ same ∙ a.1))
              (at_push path to j l);
          linked = λ j l. ⊎_elim
              (λ (m : j + 1 < length path). let link = s.linked j m in let jl : j < length path = omega arith in
              (link.0, link.1, link.2 ∙ sym (old_at j jl), link.3 ∙ sym (old_at (j + 1) m)))
              (λ (m : length path ≤ j + 1). let at : j ≡ top = omega arith in let jl : j < length path = omega arith in let up : j + 1 ≡ length path = omega arith in
              (get_or edges k e, has_edge edges k e k_in, leaves_top e ∙ node_is ∙ ap (λ x. get_or path x 0) (sym at) ∙ sym (old_at j jl), sym (new_at (j + 1) up)))
              (cases_lt (j + 1) (length path));
          exit_black = black_stays (exit_of firsts) s.exit_black;
          fresh = λ v w. let ne = back_white v w in let was : colour_at colours v ≡ White = sym (keep v ne) ∙ w in
              moved v (λ same. let x : White ≡ Grey = sym was ∙ ap (colour_at colours) same ∙ node_grey in cc) ∙ s.fresh v was;
          done = λ p j d l low high. ⊎_elim
              (λ a. ⊎_elim
              (λ (m : p < top). wider_seen p (get_or edges j d).to a.0
              (s.done p j d a.0 (subst (λ x. get_or firsts x 0 ≤ j) a.1 low) (subst (λ x. j < x) (ap (λ x. get_or (set next node (k + 1)) x 0) a.1 ∙ other_next p m) high)))
              (λ (same : p ≡ top).
              let here : get_or path p 0 ≡ node = ap (λ x. get_or path x 0) same ∙ sym node_is in
              let up : j < k + 1 = subst (λ x. j < x) (ap (λ x. get_or (set next node (k + 1)) x 0) (a.1 ∙ here) ∙ top_next) high in
              ⊎_elim
              (λ (less : j < k). wider_seen p (get_or edges j d).to a.0
              (s.done p j d a.0 (subst (λ x. get_or firsts x 0 ≤ j) a.1 low) (subst (λ x. j < x) (k_is ∙ ap (λ x. get_or next x 0) (sym here)) less)))
              (λ (more : k ≤ j). let at : j ≡ k = omega arith in
              let e_is : get_or edges j d ≡ get_or edges k e = ap (λ x. get_or edges x d) at ∙ get_or_default edges k d e k_in in
              let next_up : p + 1 ≡ length path = omega arith in
              inr (omega arith, ap (λ (x : NumberedEdge). x.to) e_is ∙ sym (new_at (p + 1) next_up)))
              (cases_lt j k))
              (below_top p a.0))
              (λ a.
              let fr : get_or next to 0 ≡ get_or firsts to 0 = s.fresh to white in
              let ne : to ≡ node → ⊥ = λ same. grey_apart node node_grey (sym same) in
              let lo : get_or firsts to 0 ≤ j = subst (λ x. get_or firsts x 0 ≤ j) a.1 low in
              let hi : j < get_or next to 0 = subst (λ x. j < x) (ap (λ x. get_or (set next node (k + 1)) x 0) a.1 ∙ moved to ne) high in
              absurd (omega arith))
              (at_push path to p l);
        }
