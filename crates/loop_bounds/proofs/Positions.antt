-- Positions of places in the order of keys: each place of a flow graph has one, and Exit has none.
use Rattle.std.proofs.Common.{◌≡◌, ℕ, ◌+◌, ◌<◌, ◌≤◌, Bool, true, false, List, length, get_or, Ok, Err, Result, ◌⊎◌, ⊎_elim, refl, sym, ap, ◌∙◌, subst, arith}
use Rattle.std.specs.Prelude.{◌↔◌, Contains, IsTrue}
use Rattle.std.specs.declared.cmp.Ordering.{Ordering}
use Rattle.std.specs.declared.cmp.Ordering.TheVariants.{Less, Equal, Greater}
use Rattle.std.specs.Ordering.{is_lt, ordering_index, ordering_reverse}
use Rattle.std.specs.List.Sorted.{IsStrictlySortedBy, IsPermutation, IsSorted, IsNonDecreasingBy, IsBinarySearchResult, IsPartitionPoint, IsSearchInRange}
use Rattle.std.specs.Result.{is_ok, result_unwrap_or}
use Rattle.std.proofs.lemmas.Bool.{cases_lt}
use Rattle.std.proofs.lemmas.Cmp.{nat_list_cmp_total, tied_itself}
use Rattle.std.proofs.lemmas.List.{get_or_past, get_or_default}
use Rattle.std.proofs.lemmas.List.Elements.{Contains-get_or}
use Rattle.std.proofs.lemmas.List.Sorted.{searchable_from_sorted, Contains-permutation, IsPermutation-sym, length_permutation}
use Rattle.std.proofs.lemmas.Map.Keys.{Less-from_sorted}
use Rattle.control_flow.specs.declared.places.Place.{Place}
use Rattle.control_flow.specs.declared.places.Place.TheVariants.{Exit}
use Rattle.control_flow.specs.Flow.{Flow, IsWellFormed}
use Rattle.control_flow.specs.Places.{place_cmp, place_at}
use Rattle.control_flow.specs.Search.{by_order}
use Rattle.control_flow.proofs.PlaceLemmas.{by_place, place_total, place_exact}
use Rattle.statement.specs.declared.apart.ApartStretch.{ApartStretch}
use Rattle.loop_bounds.specs.Keys.{by_key, key_of}
use Rattle.loop_bounds.specs.Tree.{ArePlaceNumbers}
use Rattle.loop_bounds.proofs.KeyLemmas.{before_is, same_by_order, same_key}
use Rattle.loop_bounds.proofs.Moved.{IsOnce, once_moved}

-- ## Searches

-- a search for an element that is there does not miss it
not_missed : (cmp : Place → Place → Ordering) (itself : (p : Place) → cmp p p ≡ Equal) (places : List Place) (p : Place) (i : ℕ) → Contains places p → IsPartitionPoint (λ y. cmp y p ≡ Less) (λ y. cmp y p ≡ Greater) places i → ⊥
not_missed cmp itself places p i has at =
    let tied : cmp (get_or places has.0 p) p ≡ Equal = ap (λ y. cmp y p) has.2 ∙ itself p in
    ⊎_elim
    (λ (l : has.0 < i). let x : Less ≡ Equal = sym (at.0 has.0 p (omega arith) l) ∙ tied in cc)
    (λ (ge : i ≤ has.0). let x : Greater ≡ Equal = sym (at.1 has.0 p ge has.1) ∙ tied in cc)
    (cases_lt has.0 i)

found_at : (cmp : Place → Place → Ordering) (itself : (p : Place) → cmp p p ≡ Equal) (exact : (p q : Place) → cmp p q ≡ Equal → p ≡ q) (places : List Place) (p : Place) (r : Result ℕ ℕ) → IsNonDecreasingBy (λ y. ordering_index (cmp y p)) places → (p ≡ Exit) ⊎ Contains places p → IsBinarySearchResult (λ y. cmp y p) places r → place_at places (result_unwrap_or r (length places)) ≡ p
found_at cmp itself exact places p (Ok i) sorted known found = exact (place_at places i) p (found Exit)
found_at cmp itself exact places p (Err i) sorted known found = ⊎_elim
    (λ (out : p ≡ Exit). get_or_past places (length places) Exit (omega arith) ∙ sym out)
    (λ (has : Contains places p). absurd (not_missed cmp itself places p i has (found sorted)))
    known

key_exact : (apart : List ApartStretch) (p q : Place) → by_key apart p q ≡ Equal → p ≡ q
key_exact apart p q tied =
    let back : by_key apart q p ≡ Equal = nat_list_cmp_total.antisymm (key_of apart q) (key_of apart p) ∙ ap ordering_reverse tied in
    same_key apart p q (same_by_order (key_of apart p) (key_of apart q) (sym (before_is (key_of apart p) (key_of apart q)) ∙ ap is_lt tied) (sym (before_is (key_of apart q) (key_of apart p)) ∙ ap is_lt back))

pub position_found : (apart : List ApartStretch) (listed : List Place) (p : Place) (r : Result ℕ ℕ) → IsSorted (by_key apart) listed → (p ≡ Exit) ⊎ Contains listed p → IsBinarySearchResult (λ y. by_key apart y p) listed r → place_at listed (result_unwrap_or r (length listed)) ≡ p
position_found apart listed p r sorted = found_at (by_key apart) (λ q. tied_itself nat_list_cmp_total (key_of apart q)) (key_exact apart) listed p r (searchable_from_sorted nat_list_cmp_total (key_of apart) listed (key_of apart p) sorted)

pub order_exact : (p q : Place) → by_order p q ≡ Equal → p ≡ q
order_exact p q tied = place_exact p q (subst (λ (R : Place → Place → Ordering). R p q ≡ Equal) by_place tied)

-- ## The places of a flow graph

pub not_less : (a b : Ordering) → a ≡ ordering_reverse b → b ≡ Less → is_lt a ≡ false
not_less a b is less = ap is_lt (is ∙ ap ordering_reverse less)

pub sorted : (places : List Place) → IsStrictlySortedBy place_cmp places → IsSorted place_cmp places
sorted places ordered k d low high = not_less (place_cmp (get_or places (k + 1) d) (get_or places k d)) (place_cmp (get_or places k d) (get_or places (k + 1) d)) (place_total.antisymm (get_or places (k + 1) d) (get_or places k d)) (Less-from_sorted place_cmp places k (k + 1) d ordered (omega arith) high)

same_place : (p : Place) → place_cmp p p ≡ Equal
same_place p = tied_itself place_total p

pub index_found : (places : List Place) (p : Place) (r : Result ℕ ℕ) → IsStrictlySortedBy place_cmp places → (p ≡ Exit) ⊎ Contains places p → IsBinarySearchResult (λ y. by_order y p) places r → place_at places (result_unwrap_or r (length places)) ≡ p
index_found places p r ordered known found = found_at place_cmp same_place place_exact places p r (searchable_from_sorted place_total (λ (y : Place). y) places p (sorted places ordered)) known (subst (λ R. IsBinarySearchResult (λ y. R y p) places r) by_place found)

apart : (places : List Place) → IsStrictlySortedBy place_cmp places → (i j : ℕ) (d : Place) → i < j → j < length places → get_or places i d ≡ get_or places j d → ⊥
apart places ordered i j d less lt same =
    let below : place_cmp (get_or places i d) (get_or places j d) ≡ Less = Less-from_sorted place_cmp places i j d ordered less lt in
    let tied : place_cmp (get_or places j d) (get_or places j d) ≡ Equal = same_place (get_or places j d) in
    let x : Less ≡ Equal = sym below ∙ ap (λ p. place_cmp p (get_or places j d)) same ∙ tied in
    cc

pub places_once : (places : List Place) → IsStrictlySortedBy place_cmp places → IsOnce places
places_once places ordered i j d ilt jlt same =
    let not_below : i < j → ⊥ = λ less. apart places ordered i j d less jlt same in
    let not_above : j < i → ⊥ = λ less. apart places ordered j i d less ilt (sym same) in
    omega arith

-- ## Positions

pub listed_length : (places listed : List Place) → IsPermutation places listed → length listed ≡ length places
listed_length places listed moved = length_permutation places listed moved

pub listed_has : (places listed : List Place) → IsPermutation places listed → (p : Place) → Contains places p → Contains listed p
listed_has places listed moved p = Contains-permutation places listed p moved

pub listed_from : (places listed : List Place) → IsPermutation places listed → (p : Place) → Contains listed p → Contains places p
listed_from places listed moved p = Contains-permutation listed places p (IsPermutation-sym places listed moved)

-- each position stands for one place
pub place_numbers : (flow : Flow) (listed : List Place) → IsWellFormed flow → IsPermutation flow.places listed → ArePlaceNumbers flow (place_at listed)
place_numbers flow listed well_formed l =
    let len : length listed ≡ length flow.places = listed_length flow.places listed l in
    record {
      exit = get_or_past listed (length flow.places) Exit (omega arith);
      place = λ n lt. listed_from flow.places listed l (place_at listed n) (Contains-get_or listed n Exit (omega arith));
      number = λ p has.
          let h = listed_has flow.places listed l p has in
          let lt : h.0 < length listed = h.1 in
          (h.0, omega arith, get_or_default listed h.0 Exit p h.1 ∙ h.2);
      once = λ m n mlt nlt same. once_moved flow.places listed l (places_once flow.places well_formed.ordered) m n Exit (omega arith) (omega arith) same;
    }

-- the search for a place that is there answers its index
index_below : (places : List Place) (p : Place) (r : Result ℕ ℕ) → IsStrictlySortedBy place_cmp places → Contains places p → IsSearchInRange r (length places) → IsBinarySearchResult (λ y. place_cmp y p) places r → result_unwrap_or r (length places) < length places
index_below places p (Ok i) ordered has range found = range
index_below places p (Err i) ordered has range found = absurd (not_missed place_cmp same_place places p i has (found (searchable_from_sorted place_total (λ (y : Place). y) places p (sorted places ordered))))

pub index_inside : (places : List Place) (p : Place) (r : Result ℕ ℕ) → IsStrictlySortedBy place_cmp places → Contains places p → IsSearchInRange r (length places) → IsBinarySearchResult (λ y. by_order y p) places r → result_unwrap_or r (length places) < length places
index_inside places p r ordered has range found = index_below places p r ordered has range (subst (λ R. IsBinarySearchResult (λ y. R y p) places r) by_place found)

-- the search says whether a place is there
known_at : (places : List Place) (p : Place) (r : Result ℕ ℕ) → IsStrictlySortedBy place_cmp places → IsSearchInRange r (length places) → IsBinarySearchResult (λ y. place_cmp y p) places r → (is_ok r ≡ true → Contains places p) × (is_ok r ≡ false → Contains places p → ⊥)
known_at places p (Ok i) ordered range found = (
  (λ h. (i, range, place_exact (get_or places i p) p (found p))),
  (λ h. cc),
)
known_at places p (Err i) ordered range found = (
  (λ h. cc),
  (λ h has. not_missed place_cmp same_place places p i has (found (searchable_from_sorted place_total (λ (y : Place). y) places p (sorted places ordered)))),
)

pub known : (places : List Place) (p : Place) (r : Result ℕ ℕ) → IsStrictlySortedBy place_cmp places → IsSearchInRange r (length places) → IsBinarySearchResult (λ y. by_order y p) places r → (is_ok r ≡ true → Contains places p) × (is_ok r ≡ false → Contains places p → ⊥)
known places p r ordered range found = known_at places p r ordered range (subst (λ R. IsBinarySearchResult (λ y. R y p) places r) by_place found)

pub place_known : (flow : Flow) (places : List Place) (p : Place) (r : Result ℕ ℕ) (b : Bool) → IsWellFormed flow → places ≡ flow.places → IsSearchInRange r (length places)
    → IsBinarySearchResult (λ y. by_order y p) places r → b ≡ is_ok r → IsTrue b ↔ Contains flow.places p
place_known flow places p r b well same range found is =
    let k = known flow.places p r well.ordered (subst (λ ps. IsSearchInRange r (length ps)) same range) (subst (λ ps. IsBinarySearchResult (λ y. by_order y p) ps r) same found) in (
      λ e. k.0 (sym is ∙ e),
      λ has. by_case b has (λ none. k.1 (sym is ∙ none) has),
    )
  where
    by_case : (c : Bool) → Contains flow.places p → (c ≡ false → ⊥) → IsTrue c
    by_case true has some = refl
    by_case false has some = absurd (some refl)
