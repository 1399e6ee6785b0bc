-- The edges of the place of a number.
use Rattle.std.proofs.Common.{◌≡◌, ◌∙◌, ℕ, ◌<◌, List, length, get_or, sym, ap, subst, arith}
use Rattle.std.proofs.lemmas.List.{get_or_default}
use Rattle.control_flow.specs.declared.places.Place.{Place}
use Rattle.control_flow.specs.Flow.{Flow, IsEdgeRange}
use Rattle.control_flow.specs.Places.{place_at}
use Rattle.loop_bounds.specs.Tree.{IsTree, Tree, place_in}

module _ (flow : Flow) (tree : Tree) (t : IsTree flow tree) (n : ℕ) (lt : n < length flow.places) (order : List ℕ) (is : order ≡ tree.order) where
  -- what a list of the tree's order has at the number
  pub place_known : get_or order n 0 < length flow.places
  place_known = subst (λ (ns : List ℕ). get_or ns n 0 < length flow.places) (sym is) (t.inside n lt)

  pub range_of_number : (first end : ℕ) → IsEdgeRange flow (place_at flow.places (get_or order n 0)) first end → IsEdgeRange flow (place_in flow tree n) first end
  range_of_number first end =
      let at : place_in flow tree n ≡ place_at flow.places (get_or tree.order n 0) =
      ap (λ (v : ℕ). place_at flow.places v) (get_or_default tree.order n (length flow.places) 0 (omega (arith, lt, t.whole))) in
      subst (λ (p : Place). IsEdgeRange flow p first end) (ap (λ (o : List ℕ). place_at flow.places (get_or o n 0)) is ∙ sym at)
