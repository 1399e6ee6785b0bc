-- Where the edges of each place begin, numbers from zero that do not fall, and the range of each place.
use Rattle.std.proofs.Common.{◌≡◌, ◌∙◌, ℕ, zero, suc, ◌+◌, ◌-◌, ◌<◌, ◌≤◌, List, length, get_or, ⊎_elim, refl, sym, ap, subst, arith, add-one}
use Rattle.std.specs.declared.cmp.Ordering.TheVariants.{Less, Equal, Greater}
use Rattle.std.specs.Ordering.{ordering_reverse}
use Rattle.std.proofs.lemmas.Bool.{cases_lt}
use Rattle.std.proofs.lemmas.Cmp.{tied_itself}
use Rattle.std.proofs.lemmas.Map.Keys.{Less-from_sorted}
use Rattle.control_flow.specs.declared.edges.Edge.{Edge}
use Rattle.control_flow.specs.declared.edges.Label.TheVariants.{Do}
use Rattle.control_flow.specs.declared.places.Place.{Place}
use Rattle.control_flow.specs.declared.places.Place.TheVariants.{Exit}
use Rattle.control_flow.specs.Flow.{Flow, IsEdgeRange, IsWellFormed}
use Rattle.control_flow.specs.Places.{place_at, place_cmp}
use Rattle.control_flow.proofs.PlaceLemmas.{place_total}

-- what a list of edges has past its end
abbrev pub no_edge : Edge
no_edge = record { from = Exit; label = Do; to = Exit; cost = 0 }

-- beginnings that do not fall are at most the last
pub rises_to : (firsts : List ℕ) (n top : ℕ) → ((v : ℕ) → v < n → get_or firsts v 0 ≤ get_or firsts (v + 1) 0) → get_or firsts n 0 ≡ top → (steps v : ℕ) → v + steps ≡ n → get_or firsts v 0 ≤ top
rises_to firsts n top rising last zero v is =
    let same : v ≡ n = omega arith in
    let at : get_or firsts v 0 ≡ top = ap (λ x. get_or firsts x 0) same ∙ last in
    omega arith
rises_to firsts n top rising last (suc steps) v is =
    let up : get_or firsts v 0 ≤ get_or firsts (v + 1) 0 = rising v (omega arith) in
    let rest : get_or firsts (v + 1) 0 ≤ top = rises_to firsts n top rising last steps (v + 1) (omega arith) in
    omega arith

-- a number before the part of a place is in the part of an earlier one
pub owner : (firsts : List ℕ) → get_or firsts 0 0 ≡ 0 → (u k : ℕ) → k < get_or firsts u 0 → (v : ℕ) × (v < u) × (get_or firsts v 0 ≤ k) × (k < get_or firsts (v + 1) 0)
owner firsts first_zero zero k below = absurd (omega (arith, below, first_zero))
owner firsts first_zero (suc u) k below =
    ⊎_elim
    (λ (l : k < get_or firsts u 0). let w = owner firsts first_zero u k l in let m : w.0 < u = w.1 in (w.0, omega arith, w.2, w.3))
    (λ (m : get_or firsts u 0 ≤ k). (u, omega arith, m, subst (λ n. k < get_or firsts n 0) (sym (add-one u)) below))
    (cases_lt k (get_or firsts u 0))

-- the part of a place ends among the edges
pub part_fits : (flow : Flow) → IsWellFormed flow → (v : ℕ) → v < length flow.places → get_or flow.firsts (v + 1) 0 ≤ length flow.edges
part_fits flow well v v_in = rises_to flow.firsts (length flow.places) (length flow.edges) well.rising well.last_all (length flow.places - (v + 1)) (v + 1) (omega (arith, v_in))

-- ## The range of a place

module _ (flow : Flow) (well : IsWellFormed flow) where
  -- a lower place is before a higher one
  apart : (u v : ℕ) → u < v → v < length flow.places → place_cmp (place_at flow.places u) (place_at flow.places v) ≡ Less
  apart u v less v_in = Less-from_sorted place_cmp flow.places u v Exit well.ordered less v_in

  module _ (v : ℕ) (v_in : v < length flow.places) where
    earlier : (k : ℕ) (d : Edge) → k < get_or flow.firsts v 0 → place_cmp (get_or flow.edges k d).from (place_at flow.places v) ≡ Less
    earlier k d less =
        let w = owner flow.firsts well.first_zero v k less in
        let u_in : w.0 < length flow.places = omega (arith, w.1, v_in) in
        ap (λ (p : Place). place_cmp p (place_at flow.places v)) (well.part w.0 k d u_in w.2 w.3) ∙ apart w.0 v w.1 v_in

    later : (k : ℕ) (d : Edge) → get_or flow.firsts (v + 1) 0 ≤ k → k < length flow.edges → place_cmp (place_at flow.places v) (get_or flow.edges k d).from ≡ Less
    later k d more k_in =
        let w = owner flow.firsts well.first_zero (length flow.places) k (omega (arith, k_in, well.last_all)) in
        let above : v < w.0 = ⊎_elim
        (λ (less : v < w.0). less)
        (λ (le : w.0 ≤ v).
        let up : get_or flow.firsts (w.0 + 1) 0 ≤ get_or flow.firsts (v + 1) 0 =
        rises_to flow.firsts (v + 1) (get_or flow.firsts (v + 1) 0) (λ u u_lt. well.rising u (omega (arith, u_lt, v_in))) refl (v - w.0) (w.0 + 1) (omega (arith, le)) in
        absurd (omega (arith, up, more, w.3)))
        (cases_lt v w.0) in
        ap (place_cmp (place_at flow.places v)) (well.part w.0 k d w.1 w.2 w.3) ∙ apart v w.0 above w.1

    -- the edges of a place are from where they begin to where those of the next begin
    pub range_at : IsEdgeRange flow (place_at flow.places v) (get_or flow.firsts v 0) (get_or flow.firsts (v + 1) 0)
    range_at = record {
      ordered = well.rising v v_in;
      fits = part_fits flow well v v_in;
      before = earlier;
      own = λ k d low high. well.part v k d v_in low high;
      after = later;
    }

not_itself : (p q : Place) → p ≡ q → place_cmp p q ≡ Less → ⊥
not_itself p q same less =
    let x : Less ≡ Equal = sym less ∙ ap (λ r. place_cmp r q) same ∙ tied_itself place_total q in
    cc

module _ (flow : Flow) (place : Place) (first end : ℕ) (range : IsEdgeRange flow place first end) where
  -- an edge that leaves the place has a number of its range
  pub whole_range : (k : ℕ) (d : Edge) → k < length flow.edges → (get_or flow.edges k d).from ≡ place → (first ≤ k) × (k < end)
  whole_range k d k_in from = (
    ⊎_elim
        (λ (less : k < first). absurd (not_itself (get_or flow.edges k d).from place from (range.before k d less)))
        (λ (le : first ≤ k). le)
        (cases_lt k first),
    ⊎_elim
        (λ (less : k < end). less)
        (λ (le : end ≤ k). absurd (not_itself place (get_or flow.edges k d).from (sym from) (range.after k d le k_in)))
        (cases_lt k end),
  )

  -- an edge of an earlier place is before the range
  lower : (k : ℕ) (d : Edge) → k < length flow.edges → place_cmp (get_or flow.edges k d).from place ≡ Less → k < first
  lower k d k_in less = ⊎_elim
      (λ (low : k < first). low)
      (λ (le : first ≤ k). ⊎_elim
      (λ (high : k < end). absurd (not_itself (get_or flow.edges k d).from place (range.own k d le high) less))
      (λ (past : end ≤ k).
      let x : Less ≡ Greater = sym less ∙ place_total.antisymm (get_or flow.edges k d).from place ∙ ap ordering_reverse (range.after k d past k_in) in
      cc)
      (cases_lt k end))
      (cases_lt k first)

  -- an edge of a later place is past the range
  upper : (k : ℕ) (d : Edge) → place_cmp place (get_or flow.edges k d).from ≡ Less → end ≤ k
  upper k d less = ⊎_elim
      (λ (high : k < end). ⊎_elim
      (λ (low : k < first).
      let x : Less ≡ Greater = sym less ∙ place_total.antisymm place (get_or flow.edges k d).from ∙ ap ordering_reverse (range.before k d low) in
      absurd cc)
      (λ (le : first ≤ k). absurd (not_itself place (get_or flow.edges k d).from (sym (range.own k d le high)) less))
      (cases_lt k first))
      (λ (past : end ≤ k). past)
      (cases_lt k end)

-- a place has one range
pub one_range : (flow : Flow) (place : Place) (d : Edge) (a b x y : ℕ) → IsEdgeRange flow place a b → IsEdgeRange flow place x y → (a ≡ x) × (b ≡ y)
one_range flow place d a b x y r s =
    let low : a < x → ⊥ = λ less. omega (arith, less, lower flow place a b r a d (omega (arith, less, s.ordered, s.fits)) (s.before a d less)) in
    let high : x < a → ⊥ = λ less. omega (arith, less, lower flow place x y s x d (omega (arith, less, r.ordered, r.fits)) (r.before x d less)) in
    let short : b < y → ⊥ = λ less. omega (arith, less, upper flow place x y s b d (r.after b d (omega arith) (omega (arith, less, s.fits)))) in
    let long : y < b → ⊥ = λ less. omega (arith, less, upper flow place a b r y d (s.after y d (omega arith) (omega (arith, less, r.fits)))) in
    (omega (arith, low, high), omega (arith, short, long))

-- the range of a place is from where its edges begin to where those of the next begin
pub range_firsts : (flow : Flow) → IsWellFormed flow → (v : ℕ) → v < length flow.places → (first end : ℕ) → IsEdgeRange flow (place_at flow.places v) first end
    → (first ≡ get_or flow.firsts v 0) × (end ≡ get_or flow.firsts (v + 1) 0)
range_firsts flow well v v_in first end range =
    one_range flow (place_at flow.places v) no_edge first end (get_or flow.firsts v 0) (get_or flow.firsts (v + 1) 0) range (range_at flow well v v_in)
