-- Which rows there are, by lists of places that ascend.
use Rattle.std.proofs.Common.{◌≡◌, ◌∙◌, ℕ, ◌<◌, ◌≤◌, List, [], ◌∷◌, length, get_or, map, Contains, Result, Ok, Err, ⊎_elim, refl, sym, ap, subst, arith}
use Rattle.std.specs.Prelude.{IsTrue, ◌↔◌}
use Rattle.std.specs.declared.cmp.Ordering.TheVariants.{Less, Equal, Greater}
use Rattle.std.specs.List.Sorted.{IsBinarySearchResult, IsPermutation, IsSearchInRange, IsSorted}
use Rattle.std.specs.Result.{is_ok}
use Rattle.std.proofs.lemmas.Bool.{cases_lt, false≢true}
use Rattle.std.proofs.lemmas.Cmp.{tied_itself}
use Rattle.std.proofs.lemmas.List.Sorted.{Contains-permutation, IsPermutation-sym, searchable_from_sorted}
use Rattle.control_flow.specs.declared.places.Place.{Place}
use Rattle.control_flow.specs.Places.{place_cmp}
use Rattle.control_flow.specs.Search.{by_order}
use Rattle.control_flow.proofs.PlaceLemmas.{by_place, place_exact, place_total}
use Rattle.statement.specs.declared.apart.ApartStretch.{ApartStretch}
use Rattle.loop_bounds.specs.declared.loop_instances.LoopInstance.{LoopInstance}
use Rattle.loop_bounds.specs.Extents.{found_instance, header_place}
use Rattle.longest_walk.specs.Rows.{header_of}
use Rattle.cert_check.specs.Presence.{Lists}

-- ## Places that ascend

sorted_by_place : (places : List Place) → IsSorted by_order places → IsSorted place_cmp places
sorted_by_place places ascending = subst (λ R. IsSorted R places) by_place ascending

module _ (places : List Place) (p : Place) (ascending : IsSorted place_cmp places) where
  -- a search for a place that is there does not miss it
  not_missed : (i : ℕ) → Contains places p → IsBinarySearchResult (λ y. place_cmp y p) places (Err i) → ⊥
  not_missed i has found =
      let at = found (searchable_from_sorted place_total (λ (y : Place). y) places p ascending) in
      let tied : place_cmp (get_or places has.0 p) p ≡ Equal = ap (λ (y : Place). place_cmp y p) has.2 ∙ tied_itself place_total p in
      ⊎_elim
      (λ (l : has.0 < i). let x : Less ≡ Equal = sym (at.0 has.0 p (omega arith) l) ∙ tied in cc)
      (λ (ge : i ≤ has.0). let x : Greater ≡ Equal = sym (at.1 has.0 p ge has.1) ∙ tied in cc)
      (cases_lt has.0 i)

  search_decides_by : (r : Result ℕ ℕ) → IsSearchInRange r (length places) → IsBinarySearchResult (λ y. place_cmp y p) places r → IsTrue (is_ok r) ↔ Contains places p
  search_decides_by (Ok i) range found = (λ yes. (i, range, place_exact (get_or places i p) p (found p)), λ has. refl)
  search_decides_by (Err i) range found = (λ yes. absurd (false≢true yes), λ has. absurd (not_missed i has found))

  -- the search says whether a place is there
  pub search_decides : (r : Result ℕ ℕ) → IsSearchInRange r (length places) → IsBinarySearchResult (λ y. by_order y p) places r → IsTrue (is_ok r) ↔ Contains places p
  search_decides r range found = search_decides_by r range (subst (λ R. IsBinarySearchResult (λ y. R y p) places r) by_place found)

-- ## Lists of places

pub map_found : (apart : List ApartStretch) (xs : List LoopInstance) → map header_place xs ≡ map header_of (map (found_instance apart) xs)
map_found apart [] = refl
map_found apart (x ∷ xs) = ap (λ (ps : List Place). header_place x ∷ ps) (map_found apart xs)

pub lists_sorted : (stated listed : List Place) → IsPermutation stated listed → IsSorted by_order listed → Lists stated listed
lists_sorted stated listed moved ascending = record {
  same = λ p. (Contains-permutation stated listed p moved, Contains-permutation listed stated p (IsPermutation-sym stated listed moved));
  ascending = sorted_by_place listed ascending;
}
