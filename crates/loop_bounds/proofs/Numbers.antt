-- The edges of a flow graph and its edges between numbers: the same walks.
use Rattle.std.proofs.Common.{◌≡◌, ℕ, ◌+◌, ◌<◌, ◌≤◌, List, [], ◌∷◌, ◌++◌, length, get_or, ⊎_elim, refl, sym, ap, ◌∙◌, subst, arith, length-append}
use Rattle.std.specs.Prelude.{Contains}
use Rattle.std.proofs.lemmas.List.{get_or_default, get_or_append_left}
use Rattle.std.proofs.lemmas.List.Elements.{Contains-get_or}
use Rattle.std.proofs.Math.Seq.{get_or-append_seam}
use Rattle.std.proofs.lemmas.Bool.{cases_lt}
use Rattle.walks.specs.Walk.{Leads, Cycle, IsReached}
use Rattle.control_flow.specs.declared.places.Place.{Place}
use Rattle.control_flow.specs.declared.edges.Edge.{Edge}
use Rattle.control_flow.specs.Flow.{Flow, IsWellFormed, edge_shape, HasEdge}
use Rattle.control_flow.proofs.Firsts.{no_edge}
use Rattle.numbered_walks.specs.declared.span.NumberedEdge.{NumberedEdge}
use Rattle.numbered_walks.specs.Ordered.{number_shape}
use Rattle.numbered_walks.proofs.Members.{no_numbered_edge}
use Rattle.loop_bounds.specs.Tree.{ArePlaceNumbers, NumbersEdge, IsNumbered}
use Rattle.loop_bounds.specs.TreeParts.{AreNumberedUpto}

-- ## Numbering

pub numbering_more : (flow : Flow) (place_of : ℕ → Place) (exit : ℕ) (numbered : List NumberedEdge) (i : ℕ) (e : Edge) (n : NumberedEdge) → AreNumberedUpto flow place_of exit numbered i → i < length flow.edges → e ≡ get_or flow.edges i e → NumbersEdge place_of exit e n → AreNumberedUpto flow place_of exit (numbered ++ n ∷ []) (i + 1)
numbering_more flow place_of exit numbered i e n so_far lt e_is here =
    let same : length numbered ≡ i = so_far.same in
    record {
      same = length-append numbered (n ∷ []) ∙ ap (λ x. x + 1) same;
      each = λ k d m below. ⊎_elim
          (λ (l : k < i). rw (get_or_append_left numbered (n ∷ []) m k (omega arith)) (so_far.each k d m l))
          (λ (ge : i ≤ k).
          let here_is : k ≡ i = omega arith in
          let old : e ≡ get_or flow.edges k d = e_is ∙ get_or_default flow.edges i e d lt ∙ ap (λ x. get_or flow.edges x d) (sym here_is) in
          let new : n ≡ get_or (numbered ++ n ∷ []) k m = sym (ap (λ x. get_or (numbered ++ n ∷ []) x m) (here_is ∙ sym same) ∙ get_or-append_seam numbered n [] m) in
          subst (λ x. NumbersEdge place_of exit (get_or flow.edges k d) x) new (subst (λ x. NumbersEdge place_of exit x n) old here))
          (cases_lt k i);
    }

-- ## Edges

-- a walk of the graph has numbers
pub record HasNumberedWalk (place_of : ℕ → Place) (exit : ℕ) (is_edge : NumberedEdge → Type 0) (p : ℕ) (end : Place) : Type 0 where
  pub last : ℕ
  pub walk : List NumberedEdge
  pub last_in : last ≤ exit
  pub last_is : place_of last ≡ end
  pub leads : Leads number_shape is_edge p walk last

module _ (flow : Flow) (place_of : ℕ → Place) (numbers : ArePlaceNumbers flow place_of) (well_formed : IsWellFormed flow) (edges : List NumberedEdge) (numbered : IsNumbered flow place_of edges) where
  pub flow_edge : (n : NumberedEdge) → Contains edges n → (e : Edge) × HasEdge flow e × NumbersEdge place_of (length flow.places) e n
  flow_edge n has =
      let lt : has.0 < length edges = has.1 in
      let same : length edges ≡ length flow.edges = numbered.same in (
        get_or flow.edges has.0 no_edge,
        Contains-get_or flow.edges has.0 no_edge (omega arith),
        subst (NumbersEdge place_of (length flow.places) (get_or flow.edges has.0 no_edge)) has.2 (numbered.each has.0 no_edge n (omega arith)),
      )

  pub numbered_edge : (e : Edge) → HasEdge flow e → (n : NumberedEdge) × Contains edges n × NumbersEdge place_of (length flow.places) e n
  numbered_edge e has =
      let lt : has.0 < length flow.edges = has.1 in
      let same : length edges ≡ length flow.edges = numbered.same in (
        get_or edges has.0 no_numbered_edge,
        Contains-get_or edges has.0 no_numbered_edge (omega arith),
        subst (λ x. NumbersEdge place_of (length flow.places) x (get_or edges has.0 no_numbered_edge)) has.2 (numbered.each has.0 e no_numbered_edge lt),
      )

  pub edges_in : (n : NumberedEdge) → Contains edges n → (n.from < length flow.places) × (n.to ≤ length flow.places)
  edges_in n has = let e = flow_edge n has in (e.2.from_in, e.2.to_in)

  -- the number of a place is no other's
  pub number_once : (p q : ℕ) → p < length flow.places → q ≤ length flow.places → place_of p ≡ place_of q → p ≡ q
  number_once p q plt qle same = ⊎_elim
      (λ (l : q < length flow.places). numbers.once p q plt l same)
      (λ (ge : length flow.places ≤ q).
      let top : q ≡ length flow.places = omega arith in
      absurd (well_formed.no_exit (subst (Contains flow.places) (same ∙ ap place_of top ∙ numbers.exit) (numbers.place p plt))))
      (cases_lt q (length flow.places))

  -- ## Walks along some of the edges

  module _ (has_edge : Edge → Type 0) (is_edge : NumberedEdge → Type 0) (down : (e : Edge) → has_edge e → (n : NumberedEdge) × is_edge n × NumbersEdge place_of (length flow.places) e n) where
    pub numbered_walk : (real : List Edge) (p : ℕ) (start end : Place) → p ≤ length flow.places → place_of p ≡ start → Leads edge_shape has_edge start real end → HasNumberedWalk place_of (length flow.places) is_edge p end
    numbered_walk [] p start end inside here h = record { last = p; walk = []; last_in = inside; last_is = here ∙ h; leads = refl }
    numbered_walk (e ∷ real) p start end inside here h =
        let n = down e h.0 in
        let rest = numbered_walk real (n.0).to e.to end n.2.to_in n.2.to_is h.2 in
        record {
          last = rest.last;
          walk = n.0 ∷ rest.walk;
          last_in = rest.last_in;
          last_is = rest.last_is;
          leads = (n.1, number_once (n.0).from p n.2.from_in inside (n.2.from_is ∙ h.1 ∙ sym here), rest.leads);
        }

    pub numbered_cycle : Cycle edge_shape has_edge → Cycle number_shape is_edge
    numbered_cycle c =
        let n = down c.first c.returns.0 in
        let rest = numbered_walk c.rest (n.0).to (c.first).to c.place n.2.to_in n.2.to_is c.returns.2 in
        let back : rest.last ≡ (n.0).from = sym (number_once (n.0).from rest.last n.2.from_in rest.last_in (n.2.from_is ∙ c.returns.1 ∙ sym rest.last_is)) in
        record {
          place = (n.0).from;
          first = n.0;
          rest = rest.walk;
          returns = (n.1, refl, subst (Leads number_shape is_edge (n.0).to rest.walk) back rest.leads);
        }

  module _ (has_edge : Edge → Type 0) (is_edge : NumberedEdge → Type 0) (up : (n : NumberedEdge) → is_edge n → (e : Edge) × has_edge e × NumbersEdge place_of (length flow.places) e n) where
    pub flow_walk : (walk : List NumberedEdge) (p q : ℕ) → Leads number_shape is_edge p walk q → (real : List Edge) × Leads edge_shape has_edge (place_of p) real (place_of q)
    flow_walk [] p q h = ([], ap place_of h)
    flow_walk (n ∷ walk) p q h =
        let e = up n h.0 in
        let rest = flow_walk walk n.to q h.2 in (
          e.0 ∷ rest.0,
          (e.1, sym e.2.from_is ∙ ap place_of h.1, subst (λ x. Leads edge_shape has_edge x rest.0 (place_of q)) e.2.to_is rest.1),
        )

    pub flow_cycle : Cycle number_shape is_edge → Cycle edge_shape has_edge
    flow_cycle c =
        let e = up c.first c.returns.0 in
        let rest = flow_walk c.rest (c.first).to c.place c.returns.2 in
        record {
          place = place_of c.place;
          first = e.0;
          rest = rest.0;
          returns = (e.1, sym e.2.from_is ∙ ap place_of c.returns.1, subst (λ x. Leads edge_shape has_edge x rest.0 (place_of c.place)) e.2.to_is rest.1);
        }

  -- each number is reached
  pub numbers_reached : (entry : ℕ) → entry ≤ length flow.places → place_of entry ≡ flow.entry → (p : ℕ) → p < length flow.places → IsReached number_shape (Contains edges) entry p
  numbers_reached entry entry_in entry_is p plt =
      let real = well_formed.reached (place_of p) (numbers.place p plt) in
      let w = numbered_walk (HasEdge flow) (Contains edges) numbered_edge real.0 entry flow.entry (place_of p) entry_in entry_is real.1 in
      let same : w.last ≡ p = sym (number_once p w.last plt w.last_in (sym w.last_is)) in
      (w.walk, subst (Leads number_shape (Contains edges) entry w.walk) same w.leads)
