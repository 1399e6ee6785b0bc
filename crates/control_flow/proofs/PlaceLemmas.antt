-- The order of places: total, and exact.
use Rattle.std.proofs.Common.{◌≡◌, ℕ, true, false, List, refl, ap, sym, ◌∙◌, subst}
use Rattle.std.specs.Prelude.{Contains, IsTrue, ◌↔◌}
use Rattle.std.specs.BTreeSet.{BTreeSet, contains}
use Rattle.std.specs.Cmp.{IsTotalOrder, Equal-is}
use Rattle.std.specs.declared.cmp.Reverse.{Reverse}
use Rattle.std.proofs.lemmas.Bool.{false≢true}
use Rattle.std.proofs.lemmas.Cmp.{back_total, on_total, tied_itself}
use Rattle.std.proofs.lemmas.Map.Views.{btree_set_contains_iff}
use Rattle.std.specs.Cmp.Lexicographic.{slice_cmp}
use Rattle.std.specs.List.Sorted.{IsStrictlySortedBy}
use Rattle.std.specs.Ordering.{is_eq, nat_cmp, ordering_then}
use Rattle.std.proofs.lemmas.Map.Lookups.{CmpEqualImpliesEq, exact_unsigned, exact_bytes, exact_pairs}
use Rattle.std.specs.declared.cmp.Ordering.TheVariants.{Equal}
use Rattle.control_flow.specs.Places.{place_cmp}
use Rattle.control_flow.specs.Search.{by_order, downwards, in_set, places_in}
use Rattle.control_flow.specs.contracts.places.PlaceOrd.TheImpl.Laws.{matches_eq-law, total-law}
use Rattle.control_flow.specs.contracts.places.PlacePartialEq.TheImpl as PlaceEqual
use Rattle.control_flow.specs.declared.places.Place.{Place}
use Rattle.control_flow.specs.declared.places.Place.TheVariants.{At, Exit}
use Rattle.control_flow.proofs.Ascending.{ascending_from, ascending_has, sorted_ascending}

pub same_at : (list other : List ℕ) (a b : ℕ) → At list a ≡ At other b → (list ≡ other) × (a ≡ b)
same_at list other a b is = (cc, cc)

pub by_order_is_place_cmp : (x y : Place) → by_order x y ≡ place_cmp x y
by_order_is_place_cmp (At c a) (At d b) = refl
by_order_is_place_cmp (At c a) Exit = refl
by_order_is_place_cmp Exit (At d b) = refl
by_order_is_place_cmp Exit Exit = refl

pub by_place : by_order ≡ place_cmp
by_place = λ i x y. by_order_is_place_cmp x y i

pub by_order_total : IsTotalOrder by_order
by_order_total = total-law

pub place_total : IsTotalOrder place_cmp
place_total = subst IsTotalOrder by_place total-law

pair_exact : (c d : List ℕ) (a b : ℕ) → ordering_then (slice_cmp nat_cmp c d) (nat_cmp a b) ≡ Equal → At c a ≡ At d b
pair_exact c d a b h =
    let e = exact_pairs (slice_cmp nat_cmp) nat_cmp exact_bytes exact_unsigned (c, a) (d, b) h in
    ap (λ (p : List ℕ × ℕ). At p.0 p.1) e

-- places that compare as equal are equal
pub place_exact : CmpEqualImpliesEq place_cmp
place_exact (At c a) (At d b) h = pair_exact c d a b h
place_exact (At c a) Exit h = cc
place_exact Exit (At d b) h = cc
place_exact Exit Exit h = refl

pub by_order_exact : CmpEqualImpliesEq by_order
by_order_exact x y h = place_exact x y (sym (by_order_is_place_cmp x y) ∙ h)

-- ## What `==` answers

pub equal_is_tied : (p q : Place) → (PlaceEqual.ghosts).eq p q ≡ is_eq (place_cmp p q)
equal_is_tied p q = matches_eq-law p q ∙ ap is_eq (by_order_is_place_cmp p q)

pub equal_places : (p q : Place) → true ≡ (PlaceEqual.ghosts).eq p q → p ≡ q
equal_places p q equal = place_exact p q ((Equal-is (place_cmp p q)).0 (sym (equal ∙ equal_is_tied p q)))

pub unequal_places : (p q : Place) → false ≡ (PlaceEqual.ghosts).eq p q → p ≡ q → ⊥
unequal_places p q unequal same =
    false≢true (unequal ∙ equal_is_tied p q ∙ ap (λ r. is_eq (place_cmp r q)) same ∙ ap is_eq (tied_itself place_total q))

-- ## Sorted places

pub sorted_by_place : (ks : List Place) → IsStrictlySortedBy by_order ks → IsStrictlySortedBy place_cmp ks
sorted_by_place ks s = subst (λ R. IsStrictlySortedBy R ks) by_place s

-- ## The set of places

pub downwards_total : IsTotalOrder downwards
downwards_total = on_total (λ (r : Reverse Place). r.0) (back_total by_order_total)

pub downwards_exact : CmpEqualImpliesEq downwards
downwards_exact x y h = ap in_set (sym (by_order_exact y.0 x.0 h))

pub places_ascend : (seen : BTreeSet (Reverse Place)) → IsStrictlySortedBy downwards seen.keys → IsStrictlySortedBy place_cmp (places_in seen)
places_ascend seen s = sorted_by_place (places_in seen) (sorted_ascending by_order seen.keys s)

pub places_have : (seen : BTreeSet (Reverse Place)) (q : Place) → Contains (places_in seen) q ↔ IsTrue (contains downwards seen (in_set q))
places_have seen q = (
  (λ h. (btree_set_contains_iff downwards_total downwards_exact seen (in_set q)).1 (ascending_from seen.keys q h)),
  (λ h. ascending_has seen.keys q ((btree_set_contains_iff downwards_total downwards_exact seen (in_set q)).0 h)),
)
