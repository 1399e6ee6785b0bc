-- The number of an edge is among those of its place.
use Rattle.std.proofs.Common.{◌≡◌, ◌∙◌, ℕ, ◌<◌, ◌≤◌, Bool, true, false, ◌&&◌, List, length, get_or, Ok, Err, ⊎_elim, refl, sym, ap, subst, arith}
use Rattle.std.specs.Prelude.{Contains, nat_eq}
use Rattle.std.specs.List.Sorted.{IsBinarySearchResult, IsSearchInRange}
use Rattle.std.specs.Cmp.{Equal-is}
use Rattle.std.specs.Ordering.{is_eq}
use Rattle.std.proofs.lemmas.Bool.{and_from, and_parts, both_ways, cases_Bool, cases_lt, eq-eqb, eqb-true}
use Rattle.std.proofs.lemmas.Cmp.{tied_itself}
use Rattle.std.proofs.lemmas.List.{get_or_default}
use Rattle.std.proofs.lemmas.List.Sums.{fails_before_first, passes_at_first, position_or_len_is}
use Rattle.control_flow.specs.declared.places.Place.{Place}
use Rattle.control_flow.specs.declared.places.Place.TheVariants.{Exit}
use Rattle.control_flow.specs.declared.edges.Edge.{Edge}
use Rattle.control_flow.specs.declared.edges.Label.{Label}
use Rattle.control_flow.specs.declared.edges.Label.TheVariants.{Skip, Do}
use Rattle.control_flow.specs.Flow.{Flow, IsEdgeRange, IsWellFormed}
use Rattle.control_flow.specs.Places.{place_at, place_cmp}
use Rattle.control_flow.specs.Search.{by_order}
use Rattle.control_flow.specs.contracts.places.PlacePartialEq.TheImpl as PlaceEqual
use Rattle.control_flow.proofs.PlaceLemmas.{by_order_exact, equal_is_tied, place_exact, place_total}
use Rattle.loop_bounds.proofs.Positions.{known}
use Rattle.longest_walk.specs.Built.{step_at}
use Rattle.control_flow.proofs.Firsts.{no_edge, whole_range}
use Rattle.walk_counts.specs.Counts.{is_same_edge, is_same_label, is_same_place, number_of}

-- ## The same edge

pub equal_is_same : (p q : Place) → (PlaceEqual.ghosts).eq p q ≡ is_same_place p q
equal_is_same p q = equal_is_tied p q

one_place : (p q : Place) → is_same_place p q ≡ true → p ≡ q
one_place p q e = place_exact p q ((Equal-is (place_cmp p q)).0 e)

own_place : (p : Place) → is_same_place p p ≡ true
own_place p = ap is_eq (tied_itself place_total p)

pub one_label : (l m : Label) → is_same_label l m ≡ true → l ≡ m
one_label Skip Skip e = refl
one_label Skip Do e = cc
one_label Do Skip e = cc
one_label Do Do e = refl

pub own_label : (l : Label) → is_same_label l l ≡ true
own_label Skip = refl
own_label Do = refl

made : (e f : Edge) → e.from ≡ f.from → e.label ≡ f.label → e.to ≡ f.to → e.cost ≡ f.cost → e ≡ f
made e f from label to cost = λ i. record { from = from i; label = label i; to = to i; cost = cost i }

-- edges that pass the test are one
pub one_edge : (e f : Edge) → is_same_edge e f ≡ true → e ≡ f
one_edge e f is =
    let from = and_parts (is_same_place e.from f.from) (is_same_label e.label f.label && (is_same_place e.to f.to && nat_eq e.cost f.cost)) is in
    let label = and_parts (is_same_label e.label f.label) (is_same_place e.to f.to && nat_eq e.cost f.cost) from.1 in
    let to = and_parts (is_same_place e.to f.to) (nat_eq e.cost f.cost) label.1 in
    made e f (one_place e.from f.from from.0) (one_label e.label f.label label.0) (one_place e.to f.to to.0) (eqb-true e.cost f.cost to.1)

own_edge : (e : Edge) → is_same_edge e e ≡ true
own_edge e =
    and_from (is_same_place e.from e.from) (is_same_label e.label e.label && (is_same_place e.to e.to && nat_eq e.cost e.cost)) (own_place e.from)
    (and_from (is_same_label e.label e.label) (is_same_place e.to e.to && nat_eq e.cost e.cost) (own_label e.label)
    (and_from (is_same_place e.to e.to) (nat_eq e.cost e.cost) (own_place e.to) (eq-eqb e.cost e.cost refl)))

-- an edge of the list has a number in it, and is the edge with the number
pub known_edge : (edges : List Edge) (e : Edge) → Contains edges e → (number_of edges e < length edges) × (step_at edges (number_of edges e) ≡ e)
known_edge edges e has =
    let pass : is_same_edge e (get_or edges has.0 e) ≡ true = subst (λ f. is_same_edge e f ≡ true) (sym has.2) (own_edge e) in
    let inside : number_of edges e < length edges = ⊎_elim
    (λ (before : has.0 < number_of edges e). absurd (both_ways (is_same_edge e (get_or edges has.0 e)) (fails_before_first (is_same_edge e) edges has.0 e before) pass))
    (λ (le : number_of edges e ≤ has.0). let lt : has.0 < length edges = has.1 in let goal : number_of edges e < length edges = omega arith in goal)
    (cases_lt has.0 (number_of edges e)) in
    (inside, sym (one_edge e (step_at edges (number_of edges e)) (passes_at_first (is_same_edge e) edges no_edge inside)))

module _ (flow : Flow) (place : Place) (first end : ℕ) (range : IsEdgeRange flow place first end) (e : Edge) (leaves : place ≡ e.from) where
  outside : (k : ℕ) → k < length flow.edges → (first ≤ k → k < end → ⊥) → is_same_edge e (step_at flow.edges k) ≡ false
  outside k k_in out = ⊎_elim
      (λ is.
      let from = sym (ap (λ (f : Edge). f.from) (one_edge e (step_at flow.edges k) is)) ∙ sym leaves in
      let at = whole_range flow place first end range k no_edge k_in from in
      absurd (out at.0 at.1))
      (λ fails. fails)
      (cases_Bool (is_same_edge e (step_at flow.edges k)))

  pub fail_before : (k : ℕ) → k < first → is_same_edge e (step_at flow.edges k) ≡ false
  fail_before k less = outside k (omega (arith, range.ordered, range.fits)) (λ low high. omega arith)

  -- what is tested of an edge of the range
  pub tested : (k : ℕ) → k < end → (es : List Edge) (f : Edge) (r b : Bool) → es ≡ flow.edges → f ≡ get_or es k f → r ≡ is_same_edge e f → r ≡ b → is_same_edge e (step_at flow.edges k) ≡ b
  tested k high es f r b are at is answer =
      let same : f ≡ step_at flow.edges k = at ∙ ap (λ (xs : List Edge). get_or xs k f) are ∙ get_or_default flow.edges k f no_edge (omega (arith, high, range.fits)) in
      ap (is_same_edge e) (sym same) ∙ sym is ∙ answer

  pub found_here : (k : ℕ) → k < end → ((j : ℕ) → j < k → is_same_edge e (step_at flow.edges j) ≡ false) → is_same_edge e (step_at flow.edges k) ≡ true → (k ≡ number_of flow.edges e) × (k < length flow.edges)
  found_here k high before at =
      let k_in : k < length flow.edges = omega (arith, range.fits) in
      (sym (position_or_len_is (is_same_edge e) flow.edges k no_edge (omega arith) before (λ _. at)), k_in)

  pub found_nowhere : (k : ℕ) → end ≤ k → ((j : ℕ) → j < k → is_same_edge e (step_at flow.edges j) ≡ false) → length flow.edges ≤ number_of flow.edges e
  found_nowhere k past before =
      let none : number_of flow.edges e ≡ length flow.edges = position_or_len_is (is_same_edge e) flow.edges (length flow.edges) no_edge (omega arith)
      (λ j j_in. ⊎_elim
      (λ (less : j < k). before j less)
      (λ (more : k ≤ j). outside j j_in (λ low high. omega arith))
      (cases_lt j k))
      (λ lt. absurd (omega arith)) in
      omega arith

module _ (flow : Flow) (well : IsWellFormed flow) where
  -- ## The place

  pub place_found : (v : ℕ) (p : Place) → IsBinarySearchResult (λ q. by_order q p) flow.places (Ok v) → place_at flow.places v ≡ p
  place_found v p found = by_order_exact (place_at flow.places v) p (found Exit)

  -- an edge whose place is none of the graph's is none of its edges
  pub place_missed : (v : ℕ) (e : Edge) → IsSearchInRange (Err v) (length flow.places) → IsBinarySearchResult (λ q. by_order q e.from) flow.places (Err v) → length flow.edges ≤ number_of flow.edges e
  place_missed v e range missed =
      let no_place : Contains flow.places e.from → ⊥ = (known flow.places e.from (Err v) well.ordered range missed).1 refl in
      let none : number_of flow.edges e ≡ length flow.edges = position_or_len_is (is_same_edge e) flow.edges (length flow.edges) no_edge (omega arith)
      (λ j j_in. ⊎_elim
      (λ is.
      let same = one_edge e (step_at flow.edges j) is in
      absurd (no_place (subst (Contains flow.places) (sym (ap (λ (f : Edge). f.from) same)) (well.starts (step_at flow.edges j) (j, j_in, get_or_default flow.edges j (step_at flow.edges j) no_edge j_in)))))
      (λ fails. fails)
      (cases_Bool (is_same_edge e (step_at flow.edges j))))
      (λ lt. absurd (omega arith)) in
      omega arith
