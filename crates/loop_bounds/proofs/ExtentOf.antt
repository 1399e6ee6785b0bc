-- The extent of an instance, by where the keys of its bounds are.
use Rattle.std.proofs.Common.{◌≡◌, ℕ, ◌+◌, ◌<◌, ◌≤◌, ◌⊎◌, Bool, true, false, eqb, ltb, leb, List, [], ◌∷◌, ◌++◌, length, get_or, sym, refl, ap, ◌∙◌, subst, inl, inr, ⊎_elim, arith, length-append}
use Rattle.std.specs.Prelude.{Contains, map, not, ◌&&◌, ◌==◌}
use Rattle.std.specs.Cmp.Lexicographic.{pointwise}
use Rattle.std.specs.Ordering.{nat_cmp, ordering_then, is_lt}
use Rattle.std.specs.Cmp.{IsStrictWeakOrder}
use Rattle.std.specs.List.Sorted.{IsPermutation, IsSortedBy}
use Rattle.std.proofs.lemmas.Bool.{cases_Bool, both_ways, cases_order, cases_lt, eqb-true, lt-ltb, le-ltb, le-leb, lt-leb, eq-eqb, ne_eqb, and_parts, and_from, leb-true, ltb-true}
use Rattle.std.proofs.lemmas.Bool.Decides.{nat_tests}
use Rattle.std.proofs.lemmas.Cmp.{nat_cmp_total, then_total, on_total, back_total}
use Rattle.std.proofs.lemmas.List.{get_or_past, get_or_default, get_or_append_left, map-append}
use Rattle.std.proofs.Math.Seq.{get_or-append_seam}
use Rattle.std.proofs.lemmas.List.Elements.{Contains-get_or}
use Rattle.std.proofs.lemmas.List.Sorted.{ranks_by, sorted_far, Contains-permutation, IsPermutation-sym}
use Rattle.control_flow.specs.declared.places.Place.{Place}
use Rattle.control_flow.specs.declared.places.Place.TheVariants.{At, Exit}
use Rattle.control_flow.specs.Places.{place_at}
use Rattle.loop_bounds.specs.declared.extents.Extent.{Extent}
use Rattle.loop_bounds.specs.declared.loop_instances.LoopInstance.{LoopInstance}
use Rattle.loop_bounds.specs.Instance.{Instance, holds, is_member, is_header}
use Rattle.statement.specs.Stated.{lies_at}
use Rattle.statement.specs.declared.apart.ApartStretch.{ApartStretch}
use Rattle.loop_bounds.specs.Keys.{AreByKey, IsPoint, key_of, is_before}
use Rattle.loop_bounds.specs.Extents.{AreExtents, AreExtentsOf, AreExtentsUpto, IsExtentOf, is_within, found_instance, extent_at}
use Rattle.loop_bounds.proofs.Moved.{numbers_once}
use Rattle.loop_bounds.proofs.KeyLemmas.{holds_spans, spans, spans_between, not_before_itself, same_by_order, same_key, ascends}

-- ## Members by key

spans_none : (f l : ℕ) (c : List ℕ) → spans f l c [] ≡ false
spans_none f l [] = refl
spans_none f l (x ∷ c) = refl

pub member_by_key : (i : Instance) (apart : List ApartStretch) → i.apart ≡ apart → (p : Place) → is_member i p ≡ spans (lies_at apart i.first) (lies_at apart i.last) (map (lies_at apart) i.list) (key_of apart p)
member_by_key i apart is (At calls a) = holds_spans i.apart i.first i.last i.list (calls ++ a ∷ []) ∙ ap (λ (x : List ApartStretch). spans (lies_at x i.first) (lies_at x i.last) (map (lies_at x) i.list) (map (lies_at x) (calls ++ a ∷ []))) is
member_by_key i apart is Exit = sym (spans_none (lies_at apart i.first) (lies_at apart i.last) (map (lies_at apart) i.list))

pub holds_here : (apart : List ApartStretch) (f l : ℕ) (c : List ℕ) (a : ℕ) → lies_at apart f ≤ lies_at apart a → lies_at apart a ≤ lies_at apart l → holds apart f l c (c ++ a ∷ []) ≡ true
holds_here apart f l [] a p q = and_from _ _ (le-leb (lies_at apart f) (lies_at apart a) p) (le-leb (lies_at apart a) (lies_at apart l) q)
holds_here apart f l (x ∷ c) a p q = and_from _ _ (eq-eqb x x refl) (holds_here apart f l c a p q)

pub same_list : (c d : List ℕ) → pointwise eqb c d ≡ true → c ≡ d
same_list [] [] h = refl
same_list [] (y ∷ d) h = cc
same_list (x ∷ c) [] h = cc
same_list (x ∷ c) (y ∷ d) h =
    let p = and_parts (eqb x y) (pointwise eqb c d) h in
    let e : x ≡ y = eqb-true x y p.0 in
    let r = same_list c d p.1 in
    (λ i. e i ∷ r i)

pub list_itself : (c : List ℕ) → pointwise eqb c c ≡ true
list_itself [] = refl
list_itself (x ∷ c) = and_from _ _ (eq-eqb x x refl) (list_itself c)

pub header_place : (i : Instance) (p : Place) → is_header i p ≡ true → p ≡ At i.list i.header
header_place i (At calls a) h =
    let parts = and_parts (pointwise eqb calls i.list) (eqb a i.header) h in
    let e = same_list calls i.list parts.0 in
    let f : a ≡ i.header = eqb-true a i.header parts.1 in
    (λ j. At (e j) (f j))
header_place i Exit h = cc

pub header_itself : (i : Instance) → is_header i (At i.list i.header) ≡ true
header_itself i = and_from _ _ (list_itself i.list) (eq-eqb i.header i.header refl)

-- ## Positions between two points

from_point : (apart : List ApartStretch) (listed : List Place) (key : List ℕ) (n p : ℕ) → IsPoint apart listed key n → p < length listed → not (is_before (key_of apart (place_at listed p)) key) ≡ leb n p
from_point apart listed key n p at lt = ⊎_elim
    (λ (l : p < n). rw (at.below p l, lt-leb n p l) refl)
    (λ (ge : n ≤ p). rw (at.from p ge lt, le-leb n p ge) refl)
    (cases_lt p n)

below_point : (apart : List ApartStretch) (listed : List Place) (key : List ℕ) (n p : ℕ) → IsPoint apart listed key n → p < length listed → is_before (key_of apart (place_at listed p)) key ≡ ltb p n
below_point apart listed key n p at lt = ⊎_elim
    (λ (l : p < n). rw (at.below p l, lt-ltb p n l) refl)
    (λ (ge : n ≤ p). rw (at.from p ge lt, le-ltb p n ge) refl)
    (cases_lt p n)

module _ (listed : List Place) (i : Instance) (by : AreByKey i.apart listed) (first end header number : ℕ) (first_at : IsPoint i.apart listed (map (lies_at i.apart) i.list ++ lies_at i.apart i.first ∷ []) first) (end_at : IsPoint i.apart listed (map (lies_at i.apart) i.list ++ (lies_at i.apart i.last + 1) ∷ []) end) (header_at : IsPoint i.apart listed (map (lies_at i.apart) i.list ++ lies_at i.apart i.header ∷ []) header) (reached : Contains listed (At i.list i.header)) (low : lies_at i.apart i.first ≤ lies_at i.apart i.header) (high : lies_at i.apart i.header ≤ lies_at i.apart i.last) where
  abbrev extent : Extent
  extent = record { first = first; end = end; header = header; instance = number }

  members : (p : ℕ) → p ≤ length listed → is_member i (place_at listed p) ≡ is_within extent p
  members p le = ⊎_elim
      (λ (lt : p < length listed).
      member_by_key i i.apart refl (place_at listed p) ∙ spans_between (lies_at i.apart i.first) (lies_at i.apart i.last) (map (lies_at i.apart) i.list) (key_of i.apart (place_at listed p))
      ∙ (λ j. from_point i.apart listed (map (lies_at i.apart) i.list ++ lies_at i.apart i.first ∷ []) first p first_at lt j && below_point i.apart listed (map (lies_at i.apart) i.list ++ (lies_at i.apart i.last + 1) ∷ []) end p end_at lt j))
      (λ (ge : length listed ≤ p).
      let out : place_at listed p ≡ Exit = get_or_past listed p Exit ge in
      let inside : end ≤ length listed = end_at.inside in
      rw (out, le-ltb p end (omega arith)) (let none : leb first p && false ≡ false = grind (arith, nat_tests) in sym none))
      (cases_lt p (length listed))

  -- the position of the header's place
  spot : ℕ
  spot = reached.0

  spot_in : spot < length listed
  unfolding spot
  spot_in = reached.1

  spot_is : place_at listed spot ≡ At i.list i.header
  unfolding spot
  spot_is = get_or_default listed reached.0 Exit (At i.list i.header) reached.1 ∙ reached.2

  header_is : header ≡ spot
  header_is =
      let key : List ℕ = map (lies_at i.apart) i.list ++ lies_at i.apart i.header ∷ [] in
      let lt : spot < length listed = spot_in in
      let spot_key : key_of i.apart (place_at listed spot) ≡ key = ap (key_of i.apart) spot_is ∙ map-append (lies_at i.apart) i.list (i.header ∷ []) in
      ⊎_elim
      (λ (l : spot < header). absurd (both_ways (is_before key key) (not_before_itself key) (subst (λ (k : List ℕ). is_before k key ≡ true) spot_key (header_at.below spot l))))
      (λ (ge : header ≤ spot).
      let not_below : is_before (key_of i.apart (place_at listed header)) key ≡ false = header_at.from header (omega arith) (omega arith) in
      let not_above : is_before key (key_of i.apart (place_at listed header)) ≡ false = subst (λ (k : List ℕ). is_before k (key_of i.apart (place_at listed header)) ≡ false) spot_key (ascends i.apart listed by.ascending header spot Exit ge lt) in
      let same : place_at listed header ≡ place_at listed spot = same_key i.apart (place_at listed header) (place_at listed spot) (same_by_order (key_of i.apart (place_at listed header)) key not_below not_above ∙ sym spot_key) in
      by.once header spot (omega arith) lt same)
      (cases_lt spot header)

  headers : (p : ℕ) → p ≤ length listed → is_header i (place_at listed p) ≡ (p == header)
  headers p le = ⊎_elim
      (λ (yes_ : is_header i (place_at listed p) ≡ true).
      let at : place_at listed p ≡ At i.list i.header = header_place i (place_at listed p) yes_ in
      let lt : p < length listed = ⊎_elim (λ (l : p < length listed). l) (λ (ge : length listed ≤ p). let x : Exit ≡ At i.list i.header = sym (get_or_past listed p Exit ge) ∙ at in cc) (cases_lt p (length listed)) in
      let same : p ≡ spot = by.once p spot lt spot_in (at ∙ sym spot_is) in
      yes_ ∙ sym (eq-eqb p header (same ∙ sym header_is)))
      (λ (no_ : is_header i (place_at listed p) ≡ false).
      no_ ∙ sym (ne_eqb p header (λ same.
      let at : place_at listed p ≡ At i.list i.header = ap (place_at listed) (same ∙ header_is) ∙ spot_is in
      both_ways (is_header i (place_at listed p)) no_ (ap (is_header i) at ∙ header_itself i))))
      (cases_Bool (is_header i (place_at listed p)))

  pub extent_is : IsExtentOf listed i (record { first = first; end = end; header = header; instance = number })
  extent_is = record { inside = end_at.inside; members = members; headers = headers }

  pub extent_some : first < end
  extent_some =
      let lt : spot < length listed = spot_in in
      let inside : is_within extent spot ≡ true = sym (members spot (omega arith)) ∙ ap (is_member i) spot_is ∙ holds_here i.apart i.first i.last i.list i.header low high in
      let parts = and_parts (leb first spot) (ltb spot end) inside in
      let a : first ≤ spot = leb-true first spot parts.0 in
      let b : spot < end = ltb-true spot end parts.1 in
      omega arith

-- ## All extents

pub extents_more : (apart : List ApartStretch) (listed : List Place) (found : List LoopInstance) (extents : List Extent) (k : ℕ) (f : LoopInstance) (s : Extent) → AreExtentsUpto apart listed found extents k → k < length found → f ≡ get_or found k f → IsExtentOf listed (found_instance apart f) s → s.instance ≡ k → s.first < s.end → AreExtentsUpto apart listed found (extents ++ s ∷ []) (k + 1)
extents_more apart listed found extents k f s upto lt f_is is named some =
    let same : length extents ≡ k = upto.same in
    record {
      same = length-append extents (s ∷ []) ∙ ap (λ (x : ℕ). x + 1) same;
      each = λ j t d below. ⊎_elim
          (λ (l : j < k). rw (get_or_append_left extents (s ∷ []) t j (omega arith)) (upto.each j t d l))
          (λ (ge : k ≤ j).
          let here : j ≡ k = omega arith in
          let new : s ≡ get_or (extents ++ s ∷ []) j t = sym (ap (λ (x : ℕ). get_or (extents ++ s ∷ []) x t) (here ∙ sym same) ∙ get_or-append_seam extents s [] t) in
          let old : f ≡ get_or found j d = f_is ∙ get_or_default found k f d lt ∙ ap (λ (x : ℕ). get_or found x d) (sym here) in
          subst (λ (x : Extent). IsExtentOf listed (found_instance apart (get_or found j d)) x × (x.instance ≡ j) × (x.first < x.end)) new
          (subst (λ (x : LoopInstance). IsExtentOf listed (found_instance apart x) s) old is, named ∙ sym here, some))
          (cases_lt j k);
    }

abbrev pub no_found : LoopInstance
no_found = record { list = []; stated = record { header = 0; first = 0; last = 0; bound = 0 } }

pub extents_of : (apart : List ApartStretch) (listed : List Place) (found : List LoopInstance) (extents moved : List Extent) → AreExtentsUpto apart listed found extents (length found) → IsPermutation extents moved → AreExtentsOf apart listed found moved
extents_of apart listed found extents moved upto perm =
    let back : (s : Extent) → Contains moved s → Contains extents s = λ s has. Contains-permutation moved extents s (IsPermutation-sym extents moved perm) has in
    let at : (s : Extent) (has : Contains extents s) (d : LoopInstance) → IsExtentOf listed (found_instance apart (get_or found has.0 d)) s × (s.instance ≡ has.0) × (s.first < s.end) =
    λ s has d. subst (λ (x : Extent). IsExtentOf listed (found_instance apart (get_or found has.0 d)) x × (x.instance ≡ has.0) × (x.first < x.end)) has.2 (upto.each has.0 s d (omega (arith, has.1, upto.same))) in
    record {
      named = λ s has. let h = back s has in omega (arith, h.1, upto.same, (at s h no_found).1);
      are = λ s d has. let h = back s has in subst (λ (k : ℕ). IsExtentOf listed (found_instance apart (get_or found k d)) s) (sym (at s h d).1) (at s h d).0;
      all = λ k lt.
          let s : Extent = get_or extents k (record { first = 0; end = 0; header = 0; instance = 0 }) in
          (s, Contains-permutation extents moved s perm (Contains-get_or extents k _ (omega (arith, upto.same))), (upto.each k _ no_found lt).1);
      once = numbers_once (λ (s : Extent). s.instance) extents moved perm
          (λ i j d ilt jlt same. sym (upto.each i d no_found (omega (arith, upto.same))).1 ∙ same ∙ (upto.each j d no_found (omega (arith, upto.same))).1);
    }

-- ## Their order

pub then_order : (a b c d : ℕ) → is_lt (ordering_then (nat_cmp a b) (nat_cmp c d)) ≡ false → (b < a) ⊎ ((a ≡ b) × (d ≤ c))
then_order a b c d h = ⊎_elim
    (λ (same : a ≡ b). inr (
      same,
      ⊎_elim
          (λ (l : c < d). let x : is_lt (ordering_then (nat_cmp a b) (nat_cmp c d)) ≡ true = grind (arith, nat_tests) in absurd (both_ways _ h x))
          (λ (ge : d ≤ c). ge)
          (cases_lt c d),
    ))
    (λ apart. ⊎_elim
    (λ (l : a < b). let x : is_lt (ordering_then (nat_cmp a b) (nat_cmp c d)) ≡ true = grind (arith, nat_tests) in absurd (both_ways _ h x))
    (λ (g : b < a). inl g)
    apart)
    (cases_order a b)

abbrev pub opens_before : Extent → Extent → Bool
opens_before x y = is_lt (ordering_then (nat_cmp x.first y.first) (nat_cmp y.end x.end))

opening_ranks : IsStrictWeakOrder opens_before
opening_ranks = ranks_by (then_total (on_total (λ (s : Extent). s.first) nat_cmp_total) (back_total (on_total (λ (s : Extent). s.end) nat_cmp_total))) (λ (s : Extent). s)

pub extents_ordered : (apart : List ApartStretch) (listed : List Place) (found : List LoopInstance) (extents moved : List Extent) → AreExtentsUpto apart listed found extents (length found) → IsPermutation extents moved → IsSortedBy opens_before moved → AreExtents moved
extents_ordered apart listed found extents moved upto perm sorted =
    let none : Extent = record { first = 0; end = 0; header = 0; instance = 0 } in
    record {
      some = λ k lt.
          let has = Contains-permutation moved extents (extent_at moved k) (IsPermutation-sym extents moved perm) (Contains-get_or moved k _ lt) in
          subst (λ (x : Extent). x.first < x.end) has.2 (upto.each has.0 (extent_at moved k) no_found (omega (arith, has.1, upto.same))).2;
      sorted = λ j k less lt. ⊎_elim
          (λ (up : (extent_at moved j).first < (extent_at moved k).first). inl up)
          (λ tie. inr (sym tie.0, tie.1))
          (then_order (extent_at moved k).first (extent_at moved j).first (extent_at moved j).end (extent_at moved k).end (sorted_far opens_before opening_ranks moved sorted j k none (omega arith) lt));
    }
