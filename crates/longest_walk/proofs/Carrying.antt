-- What is found over numbers holds over places: the whole answer, and the refusals.
use Rattle.std.proofs.Common.{◌≡◌, ◌≢◌, ℕ, ◌≤◌, List, [], ◌∷◌, length, map, None, refl, sym, ap, ◌∙◌, subst, arith}
use Rattle.std.specs.List.{AllPass}
use Rattle.std.proofs.lemmas.Bool.{eq-eqb}
use Rattle.std.proofs.lemmas.List.Elements.{All-weaker}
use Rattle.std.proofs.lemmas.List.Sums.{AllPass-from_list_all}
use Rattle.walks.specs.Walk.{Leads, cost_of}
use Rattle.walks.specs.Greatest as G
use Rattle.control_flow.specs.declared.places.Place.{Place}
use Rattle.control_flow.specs.declared.places.Place.TheVariants.{Exit}
use Rattle.control_flow.specs.declared.edges.Edge.{Edge}
use Rattle.control_flow.specs.Flow.{Flow, IsWellFormed, edge_shape, HasEdge}
use Rattle.numbered_walks.specs.declared.span.NumberedEdge.{NumberedEdge}
use Rattle.numbered_walks.specs.declared.tables.Tables.{Tables}
use Rattle.numbered_walks.specs.declared.fault.WalkFault.{WalkFault}
use Rattle.numbered_walks.specs.declared.fault.WalkFault.TheVariants.{Memory, NoCompleteWalk, BoundTooLarge}
use Rattle.numbered_walks.specs.Index.{edge_at, edges_of}
use Rattle.numbered_walks.specs.Found.{AreFound}
use Rattle.numbered_walks.specs.Ordered as O
use Rattle.numbered_walks.specs.Reach.{Reach, Round}
use Rattle.numbered_walks.specs.Tables.{arrival_of, distance_of, round_of}
use Rattle.numbered_walks.proofs.Finishing.{reach_costs, reach_keeps, total-exit}
use Rattle.loop_bounds.specs.Instance.{place_loops}
use Rattle.loop_bounds.specs.Tree.{IsTree, Tree, place_in}
use Rattle.longest_walk.specs.Built.{AreAllNumbered, AreInstanceRowsAt, ArePlaceRowsAt, IsBuilt, IsNumberedBody, IsRisingBody, step_at, steps_of}
use Rattle.longest_walk.specs.Longest.{AreAllRounds, IsBody, IsLongest, IsWalkFault, IsWalkOf, KeepsTree, LeaveOnce}
use Rattle.longest_walk.specs.declared.folded.Item.{Item}
use Rattle.longest_walk.specs.declared.folded.Longest.{Longest}
use Rattle.longest_walk.proofs.CarryKeeps.{pass_back}
use Rattle.longest_walk.proofs.CarryOnce.{rising_once}
use Rattle.longest_walk.proofs.CarryPotentials.{least, rows_fit, rows_hold}
use Rattle.longest_walk.proofs.CarryWalks.{agree_all, costs_same, exit_place, greatest_up, instance_of, keeps_up, leads_up, too_large_down}
use Rattle.image.proofs.ZipLemmas.{AllZip-weaker}

some_mapped : {X Y : Type 0} (f : X → Y) (xs : List X) → xs ≢ [] → map f xs ≢ []
some_mapped f [] some is = some refl
some_mapped f (x ∷ xs) some is = cc

module _ (flow : Flow) (tree : Tree) (well : IsWellFormed flow) (t : IsTree flow tree) where
  abbrev exit : ℕ
  exit = length flow.places

  abbrev place : ℕ → Place
  place = place_in flow tree

  module _ (c : Tables) (found : AreFound (length flow.places) tree.edges tree.spans c) where
    -- a walk to Exit with all its rounds costs the bound
    path_costs : (r : Reach tree.edges tree.spans (λ s. s.bound) (distance_of c) (arrival_of c) (round_of c) None exit) → O.cost_of r.walk ≡ c.bound
    path_costs r = reach_costs exit tree.edges tree.spans c t.ordered found.passed found.closes exit r ∙ total-exit exit tree.edges tree.spans c t.ordered found.passed found.closes

    path_kept : (r : Reach tree.edges tree.spans (λ s. s.bound) (distance_of c) (arrival_of c) (round_of c) None exit) → O.KeepsBounds tree.spans r.walk
    path_kept r = reach_keeps exit tree.edges tree.spans c t.ordered found.passed found.closes exit r

    -- the edges of a round are those of rounds of an instance
    body_up : (body : List Edge) → IsNumberedBody flow tree c body → IsBody flow tree body
    body_up body b =
        let i = instance_of flow tree well t b.span b.in_tree in
        let r : Round tree.edges tree.spans (λ s. s.bound) (distance_of c) (arrival_of c) (round_of c) b.span = b.round.0 in
        let shape = t.ordered.shape b.span b.in_tree in
        let inside : b.span.header ≤ exit = omega (arith, shape.0, shape.1) in
        let leads : O.Leads tree.edges b.span.header (edges_of tree.edges b.numbers) b.span.header = subst (λ (w : List NumberedEdge). O.Leads tree.edges b.span.header w b.span.header) b.round.1 r.leads in
        let within : AllPass (O.is_inside b.span) (edges_of tree.edges b.numbers) = subst (λ (w : List NumberedEdge). AllPass (O.is_inside b.span) w) b.round.1 (AllPass-from_list_all (O.is_inside b.span) r.walk r.within) in
        let stays : AllPass (G.is_inside edge_shape place_loops i.instance) (steps_of flow.edges b.numbers) =
        pass_back (step_at flow.edges) (edge_at tree.edges) (G.is_inside edge_shape place_loops i.instance) (G.ends_at_header edge_shape place_loops i.instance) (O.is_inside b.span) (O.ends_at_header b.span) b.numbers (agree_all flow tree well t i.instance b.span i.span_is b.numbers b.inside) within in
        record {
          some = λ none. some_mapped (step_at flow.edges) b.numbers b.some (sym b.body_is ∙ none);
          instance = i.instance;
          in_tree = i.in_tree;
          header = place b.span.header;
          header_is = i.span_is.headers b.span.header inside ∙ eq-eqb b.span.header b.span.header refl;
          turns = subst (λ (w : List Edge). Leads edge_shape (HasEdge flow) (place b.span.header) w (place b.span.header)) (sym b.body_is) (leads_up flow tree well t b.numbers b.span.header b.span.header b.inside leads);
          stays = subst (λ (w : List Edge). AllPass (G.is_inside edge_shape place_loops i.instance) w) (sym b.body_is) stays;
        }

    rounds_up : (count : ℕ) (body : List Edge) → AreAllNumbered flow tree c count body → AreAllRounds flow tree count body
    unfolding body_up
    rounds_up count body a = record { body_is = body_up body a.body_is; count_is = a.count_is ∙ (instance_of flow tree well t a.body_is.span a.body_is.in_tree).span_is.bound }

    -- what is built is a greatest walk
    pub walk_up : (items : List Item) (bound : ℕ) → bound ≡ c.bound → IsBuilt flow tree c items → IsWalkOf flow tree bound items
    walk_up items bound bound_is b =
        let r : Reach tree.edges tree.spans (λ s. s.bound) (distance_of c) (arrival_of c) (round_of c) None exit = b.path.0 in
        let walk_is : r.walk ≡ edges_of tree.edges b.numbers = b.path.1 in
        let leads : Leads edge_shape (HasEdge flow) (place 0) (steps_of flow.edges b.numbers) (place exit) = leads_up flow tree well t b.numbers 0 exit b.inside (subst (λ (w : List NumberedEdge). O.Leads tree.edges 0 w exit) walk_is r.leads) in
        let complete : Leads edge_shape (HasEdge flow) flow.entry (steps_of flow.edges b.numbers) Exit =
        subst (λ (p : Place). Leads edge_shape (HasEdge flow) p (steps_of flow.edges b.numbers) Exit) t.entry_first (subst (λ (q : Place). Leads edge_shape (HasEdge flow) (place 0) (steps_of flow.edges b.numbers) q) (exit_place flow tree well t) leads) in
        let kept : KeepsTree tree (steps_of flow.edges b.numbers) = keeps_up flow tree well t b.numbers b.inside (subst (λ (w : List NumberedEdge). O.KeepsBounds tree.spans w) walk_is (path_kept r)) in
        let costs : cost_of edge_shape (steps_of flow.edges b.numbers) ≡ bound = costs_same flow tree well t b.numbers b.inside ∙ ap (λ (w : List NumberedEdge). O.cost_of w) (sym walk_is) ∙ path_costs r ∙ sym bound_is in
        record {
          complete = subst (λ (w : List Edge). Leads edge_shape (HasEdge flow) flow.entry w Exit) (sym b.walk_is) complete;
          kept = subst (λ (w : List Edge). KeepsTree tree w) (sym b.walk_is) kept;
          costs = subst (λ (w : List Edge). cost_of edge_shape w ≡ bound) (sym b.walk_is) costs;
          repeats = record {
            bodies = All-weaker (IsNumberedBody flow tree c) (IsBody flow tree) body_up _ b.bodies;
            counts = b.counts;
            shallow = b.shallow;
          };
          folded = record {
            all_rounds = AllZip-weaker (AreAllNumbered flow tree c) (AreAllRounds flow tree) rounds_up _ _ b.all_rounds;
            walk_once = rising_once flow tree well t _ b.walk_rises;
            bodies_once = All-weaker (IsRisingBody flow tree) LeaveOnce (λ edges body. rising_once flow tree well t edges body.rising) _ b.bodies_rise;
            bodies_some = All-weaker (IsRisingBody flow tree) (λ edges. edges ≢ []) (λ edges body. body.some) _ b.bodies_rise;
          };
        }

    -- the whole answer, from what was found over numbers and what was built of it
    pub carried : (l : Longest) → l.bound ≡ c.bound → l.profile ≡ flow.profile → IsBuilt flow tree c l.walk → ArePlaceRowsAt flow tree c l.potentials.places → AreInstanceRowsAt tree c l.potentials.instances → IsLongest flow tree l
    carried l bound_is profile_is built places instances = record {
      greatest = greatest_up flow tree well t l.bound (subst (λ (n : ℕ). O.IsGreatest exit tree.edges tree.spans n) (sym bound_is) found.greatest);
      walk_is = walk_up l.walk l.bound bound_is built;
      none_too_large = λ large. found.none_too_large (too_large_down flow tree well t large);
      rows_are = record { places_are = places.places_are; ascending = instances.ascending; instances_are = instances.instances_are };
      rows_hold = rows_hold flow tree well t c found l.bound bound_is l.potentials.places places l.potentials.instances instances;
      rows_fit = rows_fit flow tree well t c found l.bound bound_is l.potentials.places places l.potentials.instances instances;
      least = least flow tree well t c found l.bound bound_is l.potentials.places places l.potentials.instances instances;
      profile = profile_is;
    }

-- an answer excludes each refusal but that of memory
pub allowed : (flow : Flow) (tree : Tree) (l : Longest) → IsLongest flow tree l → (fault : WalkFault) → fault ≢ Memory → IsWalkFault flow tree fault → ⊥
allowed flow tree l is Memory other refused = other refl
allowed flow tree l is NoCompleteWalk other refused = refused is.greatest.walk is.greatest.complete
allowed flow tree l is BoundTooLarge other refused = is.none_too_large refused.1
