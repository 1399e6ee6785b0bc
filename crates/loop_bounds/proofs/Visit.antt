-- The search from its beginning to its end.
use Rattle.std.proofs.Common.{◌≡◌, ℕ, ◌+◌, ◌*◌, ◌<◌, ◌≤◌, List, [], ◌∷◌, ◌++◌, length, get_or, set, replicate, ⊎_elim, refl, sym, ap, ◌∙◌, subst, arith}
use Rattle.std.specs.Prelude.{sum}
use Rattle.std.proofs.lemmas.List.{get_or-set_same, get_or-set_other, length-set, get_or-replicate, get_or_past, length-replicate}
use Rattle.std.proofs.lemmas.List.Elements.{All-from_get_or}
use Rattle.std.proofs.lemmas.List.Sums.{sum_by-le}
use Rattle.std.proofs.lemmas.Bool.{cases_eq, cases_lt}
use Rattle.numbered_walks.specs.declared.span.NumberedEdge.{NumberedEdge}
use Rattle.loop_bounds.specs.declared.order.Colour.{Colour}
use Rattle.loop_bounds.specs.declared.order.Colour.TheVariants.{White, Grey, Black}
use Rattle.loop_bounds.specs.declared.order.Search.{Search}
use Rattle.loop_bounds.specs.Edges.{IsGrouped, exit_of}
use Rattle.loop_bounds.specs.Order.{IsOrder}
use Rattle.loop_bounds.specs.Search.{colour_at, IsStacked, IsSearching, IsSearched, IsBegun, IsStep, steps_left}
use Rattle.loop_bounds.proofs.Grouped.{firsts_inside, leaves}
use Rattle.loop_bounds.proofs.Post.{post_met}

-- ## The beginning

white_at : (n v : ℕ) → colour_at (replicate n White) v ≡ White
white_at n v = ⊎_elim
    (λ (lt : v < n). get_or-replicate n v White White lt)
    (λ (ge : n ≤ v). get_or_past (replicate n White) v White (let l : length (replicate n White) ≡ n = length-replicate n White in omega arith))
    (cases_lt v n)

module _ (firsts : List ℕ) (edges : List NumberedEdge) (grouped : IsGrouped firsts edges) where
  pub stacked_begun : IsStacked firsts edges (set (replicate (length firsts) White) (exit_of firsts) Black) (exit_of firsts ∷ []) [] firsts
  stacked_begun =
      let colours : List Colour = set (replicate (length firsts) White) (exit_of firsts) Black in
      let some : 0 < length firsts = grouped.some in
      let wide : length (replicate (length firsts) White) ≡ length firsts = length-replicate (length firsts) White in
      let black : colour_at colours (exit_of firsts) ≡ Black = get_or-set_same (replicate (length firsts) White) (exit_of firsts) Black White (omega arith) in
      let white : (v : ℕ) → (v ≡ exit_of firsts → ⊥) → colour_at colours v ≡ White = λ v ne. get_or-set_other (replicate (length firsts) White) (exit_of firsts) v Black White ne ∙ white_at (length firsts) v in
      record {
        whole = length-set (replicate (length firsts) White) (exit_of firsts) Black ∙ wide;
        wide = refl;
        ranged = record { low = λ v l. omega arith; high = λ v l. grouped.rising v l; last = refl };
        post = record {
          black = λ v h. ⊎_elim
              (λ (same : v ≡ exit_of firsts). (0, omega arith, sym same))
              (λ (ne : v ≡ exit_of firsts → ⊥). let x : White ≡ Black = sym (white v ne) ∙ h in cc)
              (cases_eq v (exit_of firsts));
          placed = λ k l. let same : k ≡ 0 = omega arith in rw same black;
          inside = λ k l. let same : k ≡ 0 = omega arith in rw same (omega arith);
          forward = λ k e l has from.
              let same : k ≡ 0 = omega arith in
              let at : e.from ≡ exit_of firsts = from ∙ ap (λ x. get_or (exit_of firsts ∷ []) x 0) same in
              let lt : e.from < exit_of firsts = leaves firsts edges grouped e has in
              absurd (omega arith);
          distinct = λ j m less l same. absurd (omega arith);
        };
        inside = λ j l. absurd (omega arith);
        grey = λ j l. absurd (omega arith);
        held = λ u g. ⊎_elim
            (λ (same : u ≡ exit_of firsts). let x : Grey ≡ Black = sym g ∙ ap (colour_at colours) same ∙ black in cc)
            (λ (ne : u ≡ exit_of firsts → ⊥). let x : White ≡ Grey = sym (white u ne) ∙ g in cc)
            (cases_eq u (exit_of firsts));
        apart = λ j m less l same. absurd (omega arith);
        linked = λ j l. absurd (omega arith);
        exit_black = black;
        fresh = λ v w. refl;
        done = λ p j d l low high. absurd (omega arith);
      }

  -- ## A visit

  module _ (colours : List Colour) (order next : List ℕ) (s : IsStacked firsts edges colours order [] next) where
    pub stacked_start : (node : ℕ) → node < exit_of firsts → colour_at colours node ≡ White → IsStacked firsts edges (set colours node Grey) order (node ∷ []) next
    stacked_start node inside white =
        let whole : length colours ≡ length firsts = s.whole in
        let new_grey : colour_at (set colours node Grey) node ≡ Grey = get_or-set_same colours node Grey White (omega arith) in
        let keep : (v : ℕ) → (v ≡ node → ⊥) → colour_at (set colours node Grey) v ≡ colour_at colours v = λ v ne. get_or-set_other colours node v Grey White ne in
        let black_stays : (v : ℕ) → colour_at colours v ≡ Black → colour_at (set colours node Grey) v ≡ Black = λ v b. keep v (λ same. let x : Black ≡ White = sym b ∙ ap (colour_at colours) same ∙ white in cc) ∙ b in
        record {
          whole = length-set colours node Grey ∙ s.whole;
          wide = s.wide;
          ranged = s.ranged;
          post = post_met (length firsts) edges colours order node (omega arith) white s.post;
          inside = λ j l. let same : j ≡ 0 = omega arith in rw same inside;
          grey = λ j l. let same : j ≡ 0 = omega arith in rw same new_grey;
          held = λ u g. ⊎_elim
              (λ (same : u ≡ node). (0, omega arith, sym same))
              (λ (ne : u ≡ node → ⊥). let h = s.held u (sym (keep u ne) ∙ g) in let l : h.0 < length {A = ℕ} [] = h.1 in absurd (omega arith))
              (cases_eq u node);
          apart = λ j m less l same. absurd (omega arith);
          linked = λ j l. absurd (omega arith);
          exit_black = black_stays (exit_of firsts) s.exit_black;
          fresh = λ v w. s.fresh v (sym (keep v (λ same. let x : White ≡ Grey = sym w ∙ ap (colour_at (set colours node Grey)) same ∙ new_grey in cc)) ∙ w);
          done = λ p j d l low high.
              let same : p ≡ 0 = omega arith in
              let fr : get_or next node 0 ≡ get_or firsts node 0 = s.fresh node white in
              let lo : get_or firsts node 0 ≤ j = subst (λ x. get_or firsts (get_or (node ∷ []) x 0) 0 ≤ j) same low in
              let hi : j < get_or next node 0 = subst (λ x. j < get_or next (get_or (node ∷ []) x 0) 0) same high in
              absurd (omega arith);
        }

  pub visit_starts : (search : Search) (node : ℕ) → IsSearched firsts edges search node → node < exit_of firsts → colour_at search.colours.items node ≡ White → IsStacked firsts edges (set search.colours.items node Grey) search.order.items (search.path.items ++ node ∷ []) search.next.items
  visit_starts search node s inside white =
      let now = subst (λ p. IsStacked firsts edges search.colours.items search.order.items p search.next.items) s.idle s.searching in
      subst (λ p. IsStacked firsts edges (set search.colours.items node Grey) search.order.items (p ++ node ∷ []) search.next.items) (sym s.idle)
      (stacked_start search.colours.items search.order.items search.next.items now node inside white)

  pub visit_met : (search : Search) (node : ℕ) → IsSearched firsts edges search node → node < exit_of firsts → (v : ℕ) → v < node + 1 → colour_at (set search.colours.items node Grey) v ≡ White → ⊥
  visit_met search node s inside v l w =
      let whole : length search.colours.items ≡ length firsts = s.searching.whole in
      ⊎_elim
      (λ (same : v ≡ node). let x : White ≡ Grey = sym w ∙ ap (colour_at (set search.colours.items node Grey)) same ∙ get_or-set_same search.colours.items node Grey White (omega arith) in cc)
      (λ (ne : v ≡ node → ⊥). let x : White ≡ Black = sym w ∙ get_or-set_other search.colours.items node v Grey White ne ∙ s.below v (omega arith) in cc)
      (cases_eq v node)

  pub search_begins : (search : Search) → IsBegun firsts search → IsSearched firsts edges search 0
  search_begins search b = record {
    searching = rw (b.colours, b.next, b.path, b.order) stacked_begun;
    idle = b.path;
    below = λ v l. absurd (omega arith);
  }

  -- ## The steps

  pub sum_upto : (colours : List Colour) (order path next : List ℕ) → IsStacked firsts edges colours order path next → sum next ≤ length firsts * length edges
  sum_upto colours order path next s =
      let wide : length next ≡ length firsts = s.wide in
      let each : (v : ℕ) → v < length next → get_or next v 0 ≤ length edges = λ v l. ⊎_elim
      (λ (lt : v < exit_of firsts).
      let a : get_or next v 0 ≤ get_or firsts (v + 1) 0 = s.ranged.high v lt in
      let b : get_or firsts (v + 1) 0 ≤ length edges = firsts_inside firsts edges grouped (v + 1) (omega arith) in
      omega arith)
      (λ (ge : exit_of firsts ≤ v).
      let same : v ≡ exit_of firsts = omega arith in
      let a : get_or next v 0 ≡ length edges = ap (λ x. get_or next x 0) same ∙ s.ranged.last ∙ grouped.last_all in
      omega arith)
      (cases_lt v (exit_of firsts)) in
      let most : sum next ≤ length next * length edges = sum_by-le (λ (x : ℕ). x) (length edges) next (All-from_get_or (λ (x : ℕ). x ≤ length edges) next 0 each) in
      subst (λ n. sum next ≤ n * length edges) wide most

  pub step_nearer : (old new : Search) → IsSearching firsts edges new → IsStep old new → steps_left firsts edges new < steps_left firsts edges old
  step_nearer old new s step =
      let most : sum new.next.items ≤ length firsts * length edges = sum_upto new.colours.items new.order.items new.path.items new.next.items s in
      ⊎_elim
      (λ w. let more : sum new.next.items ≡ sum old.next.items + 1 = w.0 in let longer : length new.path.items ≤ length old.path.items + 1 = w.1 in omega arith)
      (λ w. let same : sum new.next.items ≡ sum old.next.items = w.0 in let shorter : length new.path.items < length old.path.items = w.1 in omega arith)
      step.nearer

  -- ## The end

  pub is_order : (search : Search) → IsSearched firsts edges search (exit_of firsts) → IsOrder (length firsts) edges search.order.items
  is_order search s = record {
    all = λ v l. s.searching.post.black v (⊎_elim
        (λ (lt : v < exit_of firsts). s.below v lt)
        (λ (ge : exit_of firsts ≤ v). let same : v ≡ exit_of firsts = omega arith in ap (colour_at search.colours.items) same ∙ s.searching.exit_black)
        (cases_lt v (exit_of firsts)));
    inside = s.searching.post.inside;
    forward = s.searching.post.forward;
    distinct = s.searching.post.distinct;
  }
