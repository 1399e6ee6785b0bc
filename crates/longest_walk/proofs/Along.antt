-- Items that follow the edges of numbers, put together.
use Rattle.std.proofs.Common.{◌≡◌, ◌≢◌, ◌∙◌, ℕ, ◌+◌, ◌<◌, ◌≤◌, List, [], ◌∷◌, ◌++◌, All, Contains, length, flat_map, refl, sym, ap, subst, arith, append-nil}
use Rattle.std.specs.List.{AllZip, repeat}
use Rattle.std.proofs.lemmas.List.{map-append}
use Rattle.std.proofs.lemmas.List.Concat.{flat_map-append}
use Rattle.std.proofs.lemmas.List.Elements.{All-nil, All-cons, All-append}
use Rattle.walks.specs.declared.limits.TheConstants.{MOST_ROUNDS}
use Rattle.control_flow.specs.declared.edges.Edge.{Edge}
use Rattle.control_flow.specs.Flow.{Flow}
use Rattle.numbered_walks.specs.declared.span.Span.{Span}
use Rattle.numbered_walks.specs.declared.tables.Tables.{Tables}
use Rattle.numbered_walks.specs.Index.{edges_of}
use Rattle.numbered_walks.specs.Reach.{IsRoundOf}
use Rattle.loop_bounds.specs.Tree.{Tree}
use Rattle.longest_walk.specs.Folded.{IsCount, Opened, joined, one_edge, turned}
use Rattle.longest_walk.specs.Built.{AreAllNumbered, IsNumberedBody, IsRisingBody, step_at, steps_of}
use Rattle.longest_walk.specs.Ways.{IsAlong}
use Rattle.longest_walk.proofs.Opening.{AllZip-append, deepest-append, map-repeated, All-repeated}

module _ (flow : Flow) (tree : Tree) (c : Tables) where
  -- edges in a row, without a repeat
  along_edges : (outer : ℕ) (ks : List ℕ) (walk outside : List Edge) → outer ≤ 17 → All (λ k. k < length flow.edges) ks → walk ≡ steps_of flow.edges ks
      → IsAlong flow tree c outer ks (record { walk = walk; outside = outside; counts = []; bodies = []; bodies_outside = []; depth = 0 })
  along_edges outer ks walk outside low inside is = record {
    inside = inside;
    walk_is = is;
    bodies = All-nil (IsNumberedBody flow tree c);
    counts = All-nil IsCount;
    shallow = omega arith;
    all_rounds = tt;
    bodies_rise = All-nil (IsRisingBody flow tree);
  }

  pub along_none : (outer : ℕ) → outer ≤ 17 → IsAlong flow tree c outer [] (joined [])
  along_none outer low = along_edges outer [] [] [] low (All-nil (λ k. k < length flow.edges)) refl

  pub along_append : (outer : ℕ) (ks ls : List ℕ) (xs ys : List Opened) → IsAlong flow tree c outer ks (joined xs) → IsAlong flow tree c outer ls (joined ys) → IsAlong flow tree c outer (ks ++ ls) (joined (xs ++ ys))
  along_append outer ks ls xs ys one two = record {
    inside = All-append (λ k. k < length flow.edges) ks ls one.inside two.inside;
    walk_is = flat_map-append (λ (o : Opened). o.walk) xs ys
        ∙ ap (λ (w : List Edge). w ++ flat_map (λ (o : Opened). o.walk) ys) one.walk_is
        ∙ ap (λ (w : List Edge). steps_of flow.edges ks ++ w) two.walk_is
        ∙ sym (map-append (step_at flow.edges) ks ls);
    bodies = subst (All (IsNumberedBody flow tree c)) (sym (flat_map-append (λ (o : Opened). o.bodies) xs ys))
        (All-append (IsNumberedBody flow tree c) (flat_map (λ (o : Opened). o.bodies) xs) (flat_map (λ (o : Opened). o.bodies) ys) one.bodies two.bodies);
    counts = subst (All IsCount) (sym (flat_map-append (λ (o : Opened). o.counts) xs ys))
        (All-append IsCount (flat_map (λ (o : Opened). o.counts) xs) (flat_map (λ (o : Opened). o.counts) ys) one.counts two.counts);
    shallow = deepest-append xs ys outer 17 one.shallow two.shallow;
    all_rounds = subst (λ (ns : List ℕ). AllZip (AreAllNumbered flow tree c) ns (flat_map (λ (o : Opened). o.bodies) (xs ++ ys))) (sym (flat_map-append (λ (o : Opened). o.counts) xs ys))
        (subst (λ (bs : List (List Edge)). AllZip (AreAllNumbered flow tree c) (flat_map (λ (o : Opened). o.counts) xs ++ flat_map (λ (o : Opened). o.counts) ys) bs) (sym (flat_map-append (λ (o : Opened). o.bodies) xs ys))
        (AllZip-append (AreAllNumbered flow tree c) (flat_map (λ (o : Opened). o.counts) xs) (flat_map (λ (o : Opened). o.counts) ys) (flat_map (λ (o : Opened). o.bodies) xs) (flat_map (λ (o : Opened). o.bodies) ys) one.all_rounds two.all_rounds));
    bodies_rise = subst (All (IsRisingBody flow tree)) (sym (flat_map-append (λ (o : Opened). o.bodies_outside) xs ys))
        (All-append (IsRisingBody flow tree) (flat_map (λ (o : Opened). o.bodies_outside) xs) (flat_map (λ (o : Opened). o.bodies_outside) ys) one.bodies_rise two.bodies_rise);
  }

  pub along_edge : (outer k : ℕ) → outer ≤ 17 → k < length flow.edges → IsAlong flow tree c outer (k ∷ []) (joined (one_edge (step_at flow.edges k) ∷ []))
  along_edge outer k low inside =
      let e = step_at flow.edges k in
      along_edges outer (k ∷ []) (e ∷ []) (e ∷ []) low (All-cons (λ k. k < length flow.edges) k [] inside (All-nil (λ k. k < length flow.edges))) refl

  pub along_weaker : (outer more : ℕ) (ks : List ℕ) (o : Opened) → outer ≤ more → IsAlong flow tree c more ks o → IsAlong flow tree c outer ks o
  along_weaker outer more ks o low a = record {
    inside = a.inside;
    walk_is = a.walk_is;
    bodies = a.bodies;
    counts = a.counts;
    shallow = omega (arith, a.shallow);
    all_rounds = a.all_rounds;
    bodies_rise = a.bodies_rise;
  }

  pub along_room : (outer : ℕ) (ks : List ℕ) (o : Opened) → IsAlong flow tree c outer ks o → outer ≤ 17
  along_room outer ks o a = omega (arith, a.shallow)

  -- a round, as often as its bound says
  pub along_repeat : (s : Span) → Contains tree.spans s → s.bound ≤ MOST_ROUNDS → (outer : ℕ) (ks : List ℕ) (o : Opened) → ks ≢ [] → 0 < s.bound → IsRoundOf tree.edges tree.spans c s (edges_of tree.edges ks) → IsAlong flow tree c (outer + 1) ks o → IsRisingBody flow tree o.outside → IsAlong flow tree c outer (repeat s.bound ks) (joined (turned s.bound o ∷ []))
  along_repeat s s_in small outer ks o some more round a rising =
      let body : IsNumberedBody flow tree c o.walk = record { span = s; in_tree = s_in; numbers = ks; inside = a.inside; body_is = a.walk_is; some = some; round = round } in
      record {
        inside = All-repeated (λ k. k < length flow.edges) s.bound ks a.inside;
        walk_is = append-nil (repeat s.bound o.walk) ∙ ap (repeat s.bound) a.walk_is ∙ sym (map-repeated (step_at flow.edges) s.bound ks);
        bodies = subst (All (IsNumberedBody flow tree c)) (sym (append-nil (o.walk ∷ o.bodies)))
            (All-cons (IsNumberedBody flow tree c) o.walk o.bodies body a.bodies);
        counts = subst (All IsCount) (sym (append-nil (s.bound ∷ o.counts))) (All-cons IsCount s.bound o.counts (more, small) a.counts);
        shallow = omega (arith, a.shallow);
        all_rounds = subst (λ (ns : List ℕ). AllZip (AreAllNumbered flow tree c) ns ((o.walk ∷ o.bodies) ++ [])) (sym (append-nil (s.bound ∷ o.counts)))
            (subst (AllZip (AreAllNumbered flow tree c) (s.bound ∷ o.counts)) (sym (append-nil (o.walk ∷ o.bodies))) (record { body_is = body; count_is = refl }, a.all_rounds));
        bodies_rise = subst (All (IsRisingBody flow tree)) (sym (append-nil (o.outside ∷ o.bodies_outside))) (All-cons (IsRisingBody flow tree) o.outside o.bodies_outside rising a.bodies_rise);
      }
