-- The row of a place among rows that ascend.
use Rattle.std.proofs.Common.{◌≡◌, ◌∙◌, ℕ, ◌+◌, ◌<◌, ◌≤◌, Bool, true, List, length, get_or, map, Option, Some, None, Ok, Err, ⊎_elim, refl, sym, ap, arith}
use Rattle.std.specs.List.{find}
use Rattle.std.specs.declared.cmp.Ordering.TheVariants.{Less, Equal, Greater}
use Rattle.std.specs.Ordering.{is_lt, ordering_index}
use Rattle.std.specs.List.Sorted.{IsStrictlySortedBy, IsSortedBy, IsNonDecreasingBy, IsBinarySearchResult}
use Rattle.std.proofs.lemmas.Bool.{cases_lt}
use Rattle.std.proofs.lemmas.Cmp.{tied_itself}
use Rattle.std.proofs.lemmas.List.{get_or_default, get_or-map, length-map}
use Rattle.std.proofs.lemmas.List.Sorted.{searchable_from_sorted}
use Rattle.std.proofs.lemmas.Map.Keys.{Less-from_sorted}
use Rattle.walks.proofs.RowLemmas.{find_some}
use Rattle.control_flow.specs.declared.places.Place.{Place}
use Rattle.control_flow.specs.declared.places.Place.TheVariants.{At}
use Rattle.control_flow.specs.Places.{place_cmp}
use Rattle.control_flow.proofs.PlaceLemmas.{place_total, place_exact}
use Rattle.loop_bounds.proofs.Positions.{not_less, places_once}
use Rattle.longest_walk.proofs.CarryFind.{at_itself, at_place, find_known}
use Rattle.longest_walk.specs.Rows.{is_at}

pub none_or_some : {X : Type 0} (o : Option X) → ((x : X) → o ≡ Some x → ⊥) → o ≡ None
none_or_some None f = refl
none_or_some (Some x) f = absurd (f x refl)

module _ {R : Type 0} (calls : R → List ℕ) (address : R → ℕ) (rows : List R) (p : Place) (ordered : IsStrictlySortedBy place_cmp (map (λ r. At (calls r) (address r)) rows)) where
  abbrev key : R → Place
  key r = At (calls r) (address r)

  abbrev test : R → Bool
  test r = is_at (calls r) (address r) p

  key_at : (k : ℕ) (d : R) → k < length rows → get_or (map key rows) k (key d) ≡ key (get_or rows k d)
  key_at k d lt = get_or-map key rows k d (key d) lt

  rising : IsSortedBy (λ a b. is_lt (place_cmp (key a) (key b))) rows
  rising k d low high =
      let less : place_cmp (get_or (map key rows) k (key d)) (get_or (map key rows) (k + 1) (key d)) ≡ Less = Less-from_sorted place_cmp (map key rows) k (k + 1) (key d) ordered (omega arith) (omega (arith, high, length-map rows key)) in
      let here : place_cmp (key (get_or rows k d)) (key (get_or rows (k + 1) d)) ≡ Less = (λ i. place_cmp (sym (key_at k d (omega arith)) i) (sym (key_at (k + 1) d (omega arith)) i)) ∙ less in
      not_less (place_cmp (key (get_or rows (k + 1) d)) (key (get_or rows k d))) (place_cmp (key (get_or rows k d)) (key (get_or rows (k + 1) d))) (place_total.antisymm (key (get_or rows (k + 1) d)) (key (get_or rows k d))) here

  pub searchable : IsNonDecreasingBy (λ r. ordering_index (place_cmp (key r) p)) rows
  searchable = searchable_from_sorted place_total key rows p rising

  one_place : (i j : ℕ) (d : R) → i < length rows → j < length rows → key (get_or rows i d) ≡ key (get_or rows j d) → i ≡ j
  one_place i j d i_lt j_lt same = places_once (map key rows) ordered i j (key d) (omega (arith, length-map rows key)) (omega (arith, length-map rows key)) (key_at i d i_lt ∙ same ∙ sym (key_at j d j_lt))

  passes : (r : R) → key r ≡ p → test r ≡ true
  passes r is = ap (λ (q : Place). is_at (calls r) (address r) q) (sym is) ∙ at_itself (calls r) (address r)

  pub row_found : (i : ℕ) (r : R) → i < length rows → r ≡ get_or rows i r → IsBinarySearchResult (λ y. place_cmp (key y) p) rows (Ok i) → Some r ≡ find test rows
  row_found i r lt at found =
      let here : key (get_or rows i r) ≡ p = place_exact (key (get_or rows i r)) p (found r) in
      let own : key r ≡ p = ap key at ∙ here in
      let some = find_known test rows r (i, lt, sym at) (passes r own) in
      let y : R = some.0 in
      let is = find_some test rows y some.1 in
      let j : ℕ = is.0.0 in
      let same : key (get_or rows i r) ≡ key (get_or rows j r) = here ∙ sym (at_place (calls y) (address y) p is.1) ∙ ap key (sym (is.0.2)) ∙ ap key (get_or_default rows j y r is.0.1) in
      let number : i ≡ j = one_place i j r lt is.0.1 same in
      let equal : r ≡ y = at ∙ ap (λ (n : ℕ). get_or rows n r) number ∙ get_or_default rows j r y is.0.1 ∙ is.0.2 in
      ap (λ (z : R). Some z) equal ∙ sym some.1

  pub row_missed : (i : ℕ) → IsBinarySearchResult (λ y. place_cmp (key y) p) rows (Err i) → None ≡ find test rows
  row_missed i found = sym (none_or_some (find test rows) missed)
    where
      missed : (y : R) → find test rows ≡ Some y → ⊥
      missed y is_found =
          let is = find_some test rows y is_found in
          let at = found searchable in
          let tied : place_cmp (key (get_or rows is.0.0 y)) p ≡ Equal = ap (λ (z : R). place_cmp (key z) p) is.0.2 ∙ ap (λ (q : Place). place_cmp q p) (at_place (calls y) (address y) p is.1) ∙ tied_itself place_total p in
          ⊎_elim
          (λ (l : is.0.0 < i). let x : Less ≡ Equal = sym (at.0 is.0.0 y (omega arith) l) ∙ tied in cc)
          (λ (ge : i ≤ is.0.0). let x : Greater ≡ Equal = sym (at.1 is.0.0 y ge is.0.1) ∙ tied in cc)
          (cases_lt is.0.0 i)
