-- The edges of a list that are in no repeat: each begins at a later number than the one before it.
use Rattle.std.proofs.Common.{◌≡◌, ◌≢◌, ◌∙◌, ℕ, ◌+◌, ◌≤◌, List, [], ◌∷◌, ◌++◌, Option, None, Some, flat_map, refl, sym, ap, subst, arith, append-nil}
use Rattle.std.proofs.lemmas.List.{map-append}
use Rattle.std.proofs.lemmas.List.Concat.{flat_map-append}
use Rattle.control_flow.specs.declared.edges.Edge.{Edge}
use Rattle.control_flow.specs.Flow.{Flow}
use Rattle.numbered_walks.specs.declared.span.Span.{Span}
use Rattle.numbered_walks.specs.declared.tables.Tables.{Tables}
use Rattle.numbered_walks.specs.declared.index.Index.{Index}
use Rattle.numbered_walks.specs.Index.{edge_at}
use Rattle.numbered_walks.specs.Found.{IsTurning}
use Rattle.loop_bounds.specs.Tree.{Tree}
use Rattle.longest_walk.specs.Folded.{Opened, joined, one_edge}
use Rattle.longest_walk.specs.Built.{AreRising, IsRisingBody, Rise, step_at, steps_of}
use Rattle.longest_walk.specs.Ways.{AreSearched, IsWay, opened_edge, opened_rounds, opened_way, rounds_at}
use Rattle.longest_walk.specs.declared.rounds.Rounds.{Rounds}

some-push : {A : Type 0} (xs : List A) (x : A) → xs ++ x ∷ [] ≢ []
some-push [] x is = cc
some-push (y ∷ xs) x is = cc

-- ## The edges of a way

abbrev pub outside_of : List Opened → List Edge
outside_of items = flat_map (λ (o : Opened). o.outside) items

none_outside : (r : Option Rounds) → outside_of (opened_rounds r) ≡ []
none_outside None = refl
none_outside (Some r) = refl

pub outside_way : (flow : Flow) (tree : Tree) (table : List (Option Rounds)) (ks : List ℕ) → outside_of (opened_way flow tree table ks) ≡ steps_of flow.edges ks
outside_way flow tree table [] = refl
outside_way flow tree table (k ∷ ks) =
    flat_map-append (λ (o : Opened). o.outside) (opened_edge flow tree table k) (opened_way flow tree table ks)
    ∙ ap (λ (w : List Edge). (step_at flow.edges k ∷ w) ++ outside_of (opened_way flow tree table ks)) (none_outside (rounds_at table (edge_at tree.edges k).to))
    ∙ ap (λ (w : List Edge). step_at flow.edges k ∷ w) (outside_way flow tree table ks)

-- ## They rise

module _ (flow : Flow) (tree : Tree) (index : Index) (c : Tables) (g : AreSearched flow tree index c) where
  rise_lower : (low high : ℕ) (ks : List ℕ) → low ≤ high → Rise flow tree high ks → Rise flow tree low ks
  rise_lower low high [] le r = tt
  rise_lower low high (k ∷ ks) le r = (r.0, omega (arith, r.1), r.2)

  way_rises : (context : Option Span) (from to : ℕ) (ks ls : List ℕ) → IsWay tree.edges tree.spans c context from ks to → Rise flow tree to ls → Rise flow tree from (ks ++ ls)
  way_rises context from to [] ls way r = subst (λ (x : ℕ). Rise flow tree x ls) (sym way) r
  way_rises context from to (k ∷ ks) ls way r =
      let e = edge_at tree.edges k in (
        omega (arith, way.1.inside, g.tree_is.numbered.same),
        omega (arith, way.0),
        rise_lower (e.from + 1) e.to (ks ++ ls) (omega (arith, way.1.up)) (way_rises context e.to to ks ls way.4 r),
      )

  -- a way, and a back edge from its end
  pub round_rises : (s : Span) (k : ℕ) → IsTurning tree.edges tree.spans c s k → (table : List (Option Rounds)) (way : List ℕ) → IsWay tree.edges tree.spans c (Some s) s.header way (edge_at tree.edges k).from → IsRisingBody flow tree (joined (opened_way flow tree table way ++ one_edge (step_at flow.edges k) ∷ [])).outside
  round_rises s k by table way is_way =
      let back = one_edge (step_at flow.edges k) ∷ [] in
      let split = flat_map-append (λ (o : Opened). o.outside) (opened_way flow tree table way) back in
      record {
        some = λ none. some-push (outside_of (opened_way flow tree table way)) (step_at flow.edges k) (sym split ∙ none);
        rising = record {
          least = s.header;
          numbers = way ++ k ∷ [];
          edges_are = split
              ∙ ap (λ (w : List Edge). w ++ step_at flow.edges k ∷ []) (outside_way flow tree table way)
              ∙ sym (map-append (step_at flow.edges) way (k ∷ []));
          rise = way_rises (Some s) s.header (edge_at tree.edges k).from way (k ∷ []) is_way (omega (arith, by.inside, g.tree_is.numbered.same), omega arith, tt);
        };
      }

  -- the rounds at the entry, and a way
  pub walk_rises : (exit : ℕ) (r : Option Rounds) (table : List (Option Rounds)) (way : List ℕ) → IsWay tree.edges tree.spans c None 0 way exit → AreRising flow tree (joined (opened_rounds r ++ opened_way flow tree table way)).outside
  walk_rises exit r table way is_way = record {
    least = 0;
    numbers = way ++ [];
    edges_are = flat_map-append (λ (o : Opened). o.outside) (opened_rounds r) (opened_way flow tree table way)
        ∙ ap (λ (w : List Edge). w ++ outside_of (opened_way flow tree table way)) (none_outside r)
        ∙ outside_way flow tree table way
        ∙ ap (steps_of flow.edges) (sym (append-nil way));
    rise = way_rises None 0 exit way [] is_way tt;
  }
