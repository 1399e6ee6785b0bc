-- What holds of each flow graph: it is well formed, its edges are those of its places, and its walks are the
-- handler's.
use Rattle.std.proofs.Common.{◌≡◌, ℕ, suc, ◌+◌, ◌<◌, ◌≤◌, ◌^◌, List, [], ◌∷◌, length, get_or, ◌⊎◌, inl, inr, ⊎_elim, refl, sym, ap, ◌∙◌, subst, arith, add-one}
use Rattle.std.specs.Prelude.{Contains}
use Rattle.std.proofs.lemmas.List.{get_or_read}
use Rattle.std.proofs.lemmas.List.Elements.{All-nil, Contains-get_or}
use Rattle.std.proofs.lemmas.Slice.Zip.{AllZip-long}
use Rattle.bus_ticks.specs.declared.profile.Profile.{Profile}
use Rattle.image.specs.Image.{Words}
use Rattle.walks.specs.Walk.{Leads}
use Rattle.control_flow.specs.Edges.{AreEdgesOf, IsEdge}
use Rattle.control_flow.specs.Flow.{Flow, HasEdge, IsWellFormed, edge_shape}
use Rattle.control_flow.specs.Graph.{IsFlowGraph, IsReached, start_of}
use Rattle.control_flow.specs.Places.{place_at}
use Rattle.statement.specs.Stated.{IsStated, Stated}
use Rattle.control_flow.specs.declared.edges.Edge.{Edge}
use Rattle.control_flow.specs.declared.places.Place.{Place}
use Rattle.control_flow.specs.declared.places.Place.TheVariants.{At, Exit}
use Rattle.control_flow.proofs.BuildLemmas.{reached_push}
use Rattle.control_flow.proofs.EdgeLemmas.{IsSmall, Leaves, among_edges, is_edge, leaves, no_edge_at_exit}
use Rattle.control_flow.proofs.TurnLemmas.{before, before_all, before_more, in_part, joined, length_starts, part_joined, some_part, starts_at, zip_at}

pub exit_or : (p : Place) → (p ≡ Exit) ⊎ (p ≡ Exit → ⊥)
exit_or (At calls address) = inr (λ e. cc)
exit_or Exit = inl refl

module _ (words : Words) (st : Stated) (profile : Profile) (flow : Flow) (g : IsFlowGraph words st profile flow) where
  -- ## Edges

  -- the edges of the place of a number
  pub part_of : (v : ℕ) → v < length flow.places → AreEdgesOf words st profile (place_at flow.places v) (get_or g.parts v [])
  part_of v lt = zip_at (AreEdgesOf words st profile) flow.places g.parts v Exit [] g.parts_are lt

  same_length : length flow.places ≡ length g.parts
  same_length = sym (AllZip-long (AreEdgesOf words st profile) flow.places g.parts g.parts_are)

  has_place_at : (v : ℕ) → v < length flow.places → Contains flow.places (place_at flow.places v)
  has_place_at v lt = Contains-get_or flow.places v Exit lt

  -- an edge of the graph is of some part
  pub record IsOfPart (e : Edge) : Type 0 where
    pub number : ℕ
    pub below : number < length flow.places
    pub among : Contains (get_or g.parts number []) e

  pub of_part : (e : Edge) → HasEdge flow e → IsOfPart e
  of_part e h =
      let r = some_part g.parts e (subst (λ es. Contains es e) g.edges_are h) in
      let lt : r.0 < length g.parts = r.1 in
      record { number = r.0; below = omega (arith, same_length); among = r.2 }

  -- an edge of the graph is an edge of the handler
  pub has_edge_is_edge : (e : Edge) → HasEdge flow e → IsEdge words st profile e
  has_edge_is_edge e h =
      let p = of_part e h in
      is_edge words st profile (place_at flow.places p.number) (get_or g.parts p.number []) e (part_of p.number p.below) p.among

  -- an edge of the handler from a place of the graph is an edge of the graph
  pub is_edge_has_edge : (e : Edge) → Contains flow.places e.from → IsEdge words st profile e → HasEdge flow e
  is_edge_has_edge e here is =
      let v : ℕ = here.0 in
      let lt : v < length flow.places = here.1 in
      let from : e.from ≡ place_at flow.places v = get_or_read flow.places v e.from lt (sym here.2) Exit in
      let has : Contains (get_or g.parts v []) e = among_edges words st profile (place_at flow.places v) (get_or g.parts v []) e (part_of v lt) is from in
      subst (λ es. Contains es e) (sym g.edges_are) (part_joined g.parts v e (omega (arith, same_length)) has)

  -- ## Parts

  -- an edge of the graph leaves its place
  edge_leaves : (e : Edge) → HasEdge flow e → Leaves st e.from e
  edge_leaves e h = let is = has_edge_is_edge e h in leaves words st profile e.from is.0 e is.1 is.2

  starts_in : (e : Edge) → HasEdge flow e → Contains flow.places e.from
  starts_in e h =
      let p = of_part e h in
      subst (Contains flow.places) (sym ((leaves words st profile (place_at flow.places p.number) (get_or g.parts p.number []) e (part_of p.number p.below) p.among).from)) (has_place_at p.number p.below)

  fits : (e : Edge) → HasEdge flow e → e.cost < 2 ^ 32
  fits e h = omega (arith, (edge_leaves e h).small)

  reached_in : (p : Place) → IsReached words st profile p → (p ≡ Exit) ⊎ Contains flow.places p
  reached_in p r = ⊎_elim (λ e. inl e) (λ other. inr ((g.exact p).1 (r, other))) (exit_or p)

  -- an edge of the graph ends at Exit or at a place of the graph
  pub ends_in : (e : Edge) → HasEdge flow e → (e.to ≡ Exit) ⊎ Contains flow.places e.to
  ends_in e h = reached_in e.to (reached_push words st profile e.from e ((g.exact e.from).0 (starts_in e h)).0 (has_edge_is_edge e h) refl)

  first_is : (v d : ℕ) → v ≤ length flow.places → get_or flow.firsts v d ≡ before g.parts v
  first_is v d h = ap (λ xs. get_or xs v d) g.firsts_are ∙ starts_at 0 g.parts v d (omega (arith, same_length)) ∙ omega arith

  whole : length flow.firsts ≡ length flow.places + 1
  whole = let e : length flow.firsts ≡ length g.parts + 1 = ap length g.firsts_are ∙ length_starts 0 g.parts in omega (arith, same_length)

  last_all : get_or flow.firsts (length flow.places) 0 ≡ length flow.edges
  last_all =
      first_is (length flow.places) 0 (omega arith) ∙ ap (before g.parts) same_length ∙ before_all g.parts ∙ sym (ap length g.edges_are)

  rising : (v : ℕ) → v < length flow.places → get_or flow.firsts v 0 ≤ get_or flow.firsts (v + 1) 0
  rising v lt =
      let next : get_or flow.firsts (v + 1) 0 ≡ before g.parts (v + 1) = first_is (v + 1) 0 (omega arith) in
      let more : before g.parts (v + 1) ≡ before g.parts v + length (get_or g.parts v []) = rw add-one (before_more g.parts v [] (omega (arith, same_length))) in
      omega (arith, first_is v 0 (omega arith))

  lies : (v k : ℕ) (d : Edge) → v < length flow.places → get_or flow.firsts v 0 ≤ k → k < get_or flow.firsts (v + 1) 0 → (get_or flow.edges k d).from ≡ place_at flow.places v
  lies v k d lt low high =
      let here : get_or flow.firsts v 0 ≡ before g.parts v = first_is v 0 (omega arith) in
      let next : get_or flow.firsts (v + 1) 0 ≡ before g.parts (suc v) = first_is (v + 1) 0 (omega arith) ∙ ap (before g.parts) (add-one v) in
      let has : Contains (get_or g.parts v []) (get_or (joined g.parts) k d) = in_part g.parts v k d [] (omega (arith, same_length)) (omega arith) (omega arith) in
      let has_it : Contains (get_or g.parts v []) (get_or flow.edges k d) = subst (λ es. Contains (get_or g.parts v []) (get_or es k d)) (sym g.edges_are) has in
      (leaves words st profile (place_at flow.places v) (get_or g.parts v []) (get_or flow.edges k d) (part_of v lt) has_it).from

  entry_in : Contains flow.places flow.entry
  entry_in = rw g.entry_is ((g.exact (start_of st)).1 (([], refl), λ e. cc))

  -- ## Walks

  exit_in_flow : (walk : List Edge) (q : Place) → Leads edge_shape (IsEdge words st profile) Exit walk q → Leads edge_shape (HasEdge flow) Exit walk q
  exit_in_flow [] q h = h
  exit_in_flow (e ∷ walk) q h = absurd (no_edge_at_exit words st profile e h.0 h.1)

  -- a walk of the handler from a place of the graph is a walk of the graph
  pub walk_in_flow : (p q : Place) (walk : List Edge) → Contains flow.places p → Leads edge_shape (IsEdge words st profile) p walk q → Leads edge_shape (HasEdge flow) p walk q
  walk_in_flow p q [] here h = h
  walk_in_flow p q (e ∷ walk) here h =
      let has : HasEdge flow e = is_edge_has_edge e (subst (Contains flow.places) (sym h.1) here) h.0 in (
        has,
        h.1,
        ⊎_elim
            (λ ex. subst (λ x. Leads edge_shape (HasEdge flow) x walk q) (sym ex) (exit_in_flow walk q (subst (λ x. Leads edge_shape (IsEdge words st profile) x walk q) ex h.2)))
            (λ w. walk_in_flow e.to q walk w h.2)
            (ends_in e has),
      )

  -- a walk of the graph is a walk of the handler
  pub walk_of_flow : (p q : Place) (walk : List Edge) → Leads edge_shape (HasEdge flow) p walk q → Leads edge_shape (IsEdge words st profile) p walk q
  walk_of_flow p q [] h = h
  walk_of_flow p q (e ∷ walk) h = (has_edge_is_edge e h.0, h.1, walk_of_flow e.to q walk h.2)

  -- ## Well formed

  costs_some : (e : Edge) → HasEdge flow e → 0 < e.cost
  costs_some e h = (edge_leaves e h).some

  -- a walk from a place in range ends in range
  leads_in_range : (p q : Place) (walk : List Edge) → IsStated st → IsSmall p → Leads edge_shape (IsEdge words st profile) p walk q → IsSmall q
  leads_in_range p q [] s small h = subst IsSmall h small
  leads_in_range p q (e ∷ walk) s small h = leads_in_range e.to q walk s ((leaves words st profile p h.0.0 e (subst (λ x. AreEdgesOf words st profile x h.0.0) h.1 h.0.1) h.0.2).ends s small) h.2

  pub well_formed : length flow.places ≤ 16384 → IsStated st → IsWellFormed flow
  well_formed few s = record {
    ordered = g.ordered;
    no_exit = λ h. ((g.exact Exit).0 h).1 refl;
    few = few;
    small = λ calls a h. let r = ((g.exact (At calls a)).0 h).0 in leads_in_range (start_of st) (At calls a) r.0 s (s.entry_small, omega arith, All-nil (λ c. c < 2 ^ 26)) r.1;
    starts_outside = (st.entry, g.entry_is);
    entry_in = entry_in;
    reached = λ p h. let r = ((g.exact p).0 h).0 in (r.0, walk_in_flow flow.entry p r.0 entry_in (rw g.entry_is r.1));
    starts = starts_in;
    ends = ends_in;
    costs_some = costs_some;
    costs_fit = fits;
    whole = whole;
    first_zero = first_is 0 0 (omega arith);
    last_all = last_all;
    rising = rising;
    part = lies;
  }
