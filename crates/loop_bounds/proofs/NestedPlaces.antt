-- The places of an instance are those of its span's numbers, and it is inside another exactly where that one's span holds
-- its own.
use Rattle.std.proofs.Common.{◌≡◌, ◌≢◌, ℕ, zero, suc, ◌+◌, ◌-◌, ◌<◌, ◌≤◌, ◌⊎◌, Bool, true, false, List, [], ◌∷◌, ◌++◌, length, map, take, drop, get_or, sym, refl, ap, ◌∙◌, subst, inl, inr, ⊎_elim, arith}
use Rattle.std.specs.Prelude.{Contains, filter, slice_index}
use Rattle.std.proofs.lemmas.Bool.{both_ways, cases_lt, cases_Bool}
use Rattle.std.proofs.lemmas.List.{drop-take, drop_all, get_or-drop, get_or_default, get_or_past, length-drop, length-map, take_all, take_more, get_or-map}
use Rattle.std.proofs.lemmas.List.Elements.{All-filter, Contains-get_or, filter_passes}
use Rattle.control_flow.specs.declared.places.Place.{Place}
use Rattle.control_flow.specs.declared.places.Place.TheVariants.{Exit}
use Rattle.control_flow.specs.Flow.{Flow}
use Rattle.control_flow.specs.Places.{place_at}
use Rattle.numbered_walks.specs.declared.span.Span.{Span}
use Rattle.loop_bounds.specs.Instance.{Instance, is_member}
use Rattle.loop_bounds.specs.Nested.{IsInside, members}
use Rattle.numbered_walks.specs.Index.{span_at}
use Rattle.numbered_walks.proofs.Members.{member_from, member_header, member_last}
use Rattle.loop_bounds.specs.NestedParts.{HoldsSpan, instance_at}
use Rattle.loop_bounds.specs.Tree.{IsSpanOf, IsTree, Tree, place_in}
use Rattle.loop_bounds.proofs.NestLemmas.{filter_has}
use Rattle.loop_bounds.proofs.NestedSpans.{shape_at}

-- ## The places of a span's numbers

pub places_more : (places : List Place) (order : List ℕ) (so_far : List Place) (low n : ℕ) (p : Place) → low ≤ n → n < length order → get_or order n 0 < length places → p ≡ get_or places (get_or order n 0) p → so_far ≡ take (n - low) (drop low (map (place_at places) order)) → so_far ++ p ∷ [] ≡ take (n + 1 - low) (drop low (map (place_at places) order))
places_more places order so_far low n p le lt inside is before =
    let all : List Place = map (place_at places) order in
    let same : n - low + 1 ≡ n + 1 - low = omega arith in
    let at : low + (n - low) ≡ n = omega arith in
    let len = length-map order (place_at places) in
    let found : get_or (drop low all) (n - low) Exit ≡ p = get_or-drop low all (n - low) Exit ∙ ap (λ (k : ℕ). get_or all k Exit) at ∙ get_or-map (place_at places) order n 0 Exit lt ∙ get_or_default places (get_or order n 0) Exit p inside ∙ sym is in
    ap (λ (ps : List Place). ps ++ p ∷ []) before
    ∙ ap (λ (q : Place). take (n - low) (drop low all) ++ q ∷ []) (sym found)
    ∙ sym (take_more (drop low all) (n - low) Exit (omega (arith, len, length-drop low all)))
    ∙ ap (λ (k : ℕ). take k (drop low all)) same

nothing : {X : Type 0} (low : ℕ) → drop {A = X} low [] ≡ []
nothing low = drop_all low [] (omega arith)

-- a test that holds of one stretch alone
filter_stretch : {X : Type 0} (f : X → Bool) (xs : List X) (low high : ℕ) → ((p : ℕ) (d : X) → p < length xs → low ≤ p → p < high → f (get_or xs p d) ≡ true) → ((p : ℕ) (d : X) → p < length xs → p < low → f (get_or xs p d) ≡ false) → ((p : ℕ) (d : X) → p < length xs → high ≤ p → f (get_or xs p d) ≡ false) → filter f xs ≡ drop low (take high xs)
filter_stretch f [] low high within before after = sym (ap (drop low) (take_all high [] (omega arith)) ∙ nothing low)
filter_stretch f (x ∷ xs) zero zero within before after =
    rw (after 0 x (omega arith) (omega arith))
    (filter_stretch f xs zero zero (λ p d lt low high. absurd (omega arith)) (λ p d lt low. absurd (omega arith)) (λ p d lt high. after (suc p) d (omega arith) (omega arith)))
filter_stretch f (x ∷ xs) zero (suc high) within before after =
    rw (within 0 x (omega arith) (omega arith) (omega arith))
    (ap (λ ys. x ∷ ys) (filter_stretch f xs zero high (λ p d lt least most. within (suc p) d (omega arith) (omega arith) (omega arith)) (λ p d lt less. absurd (omega arith)) (λ p d lt most. after (suc p) d (omega arith) (omega arith))))
filter_stretch f (x ∷ xs) (suc low) zero within before after =
    rw (before 0 x (omega arith) (omega arith))
    (filter_stretch f xs low zero (λ p d lt least most. absurd (omega arith)) (λ p d lt less. before (suc p) d (omega arith) (omega arith)) (λ p d lt most. after (suc p) d (omega arith) (omega arith)) ∙ nothing low)
filter_stretch f (x ∷ xs) (suc low) (suc high) within before after =
    rw (before 0 x (omega arith) (omega arith))
    (filter_stretch f xs low high (λ p d lt least most. within (suc p) d (omega arith) (omega arith) (omega arith)) (λ p d lt less. before (suc p) d (omega arith) (omega arith)) (λ p d lt most. after (suc p) d (omega arith) (omega arith)))

module _ (flow : Flow) (tree : Tree) (t : IsTree flow tree) where
  abbrev exit : ℕ
  exit = length flow.places

  abbrev I : ℕ → Instance
  I k = instance_at tree.instances k

  abbrev S : ℕ → Span
  S k = span_at tree.spans k

  pub as_many : length tree.spans ≡ length tree.instances
  as_many = (t.spans_are).same

  span_of : (k : ℕ) → k < length tree.instances → IsSpanOf flow tree (I k) (S k)
  span_of k lt = (t.spans_are).each k _ _ lt

  pub shape : (k : ℕ) → k < length tree.instances → ((S k).header ≤ (S k).last) × ((S k).last < exit)
  shape k lt = shape_at exit tree.edges tree.spans t.ordered k (omega (arith, as_many))

  order_at : (n : ℕ) → n < exit → place_in flow tree n ≡ place_at flow.places (slice_index tree.order n)
  order_at n lt = ap (place_at flow.places) (get_or_default tree.order n exit 0 (omega (arith, t.whole)))

  place_known : (n : ℕ) → n < exit → Contains flow.places (place_in flow tree n)
  place_known n lt = subst (Contains flow.places) (sym (order_at n lt)) (Contains-get_or flow.places (slice_index tree.order n) Exit (t.inside n lt))

  number_of : (p : Place) → Contains flow.places p → (n : ℕ) × (n < exit) × (place_in flow tree n ≡ p)
  number_of p has =
      let n = t.all has.0 has.1 in
      (n.0, n.1, order_at n.0 n.1 ∙ ap (place_at flow.places) n.2 ∙ get_or_default flow.places has.0 Exit p has.1 ∙ has.2)

  pub is_of : (k : ℕ) (i : Instance) → k < length tree.instances → get_or tree.instances k i ≡ i → I k ≡ i
  is_of k i lt is = get_or_default tree.instances k _ i lt ∙ is

  -- ## Members

  member_at : (k : ℕ) → k < length tree.instances → (n : ℕ) → n < exit → (S k).header ≤ n → n ≤ (S k).last → is_member (I k) (place_in flow tree n) ≡ true
  member_at k lt n below low high = (span_of k lt).members n (omega arith) ∙ member_from (S k) n low high

  member_in : (k : ℕ) → k < length tree.instances → (n : ℕ) → n < exit → is_member (I k) (place_in flow tree n) ≡ true → ((S k).header ≤ n) × (n ≤ (S k).last)
  member_in k lt n below is =
      let inside = sym ((span_of k lt).members n (omega arith)) ∙ is in
      (member_header (S k) n inside, member_last (S k) n inside)

  outside_at : (k : ℕ) → k < length tree.instances → (n : ℕ) → n ≤ exit → (n < (S k).header) ⊎ ((S k).last < n) → is_member (I k) (place_in flow tree n) ≡ false
  outside_at k lt n below out = ⊎_elim
      (λ (is : is_member (I k) (place_in flow tree n) ≡ true).
      let inside = sym ((span_of k lt).members n below) ∙ is in
      absurd (⊎_elim (λ (a : n < (S k).header). omega (arith, member_header (S k) n inside)) (λ (b : (S k).last < n). omega (arith, member_last (S k) n inside)) out))
      (λ (is : is_member (I k) (place_in flow tree n) ≡ false). is)
      (cases_Bool (is_member (I k) (place_in flow tree n)))

  in_order : (n : ℕ) (d : Place) → n < length (map (place_at flow.places) tree.order) → get_or (map (place_at flow.places) tree.order) n d ≡ place_in flow tree n
  in_order n d lt = get_or-map (place_at flow.places) tree.order n exit d (omega (arith, length-map tree.order (place_at flow.places)))

  pub members_are : (k : ℕ) → k < length tree.instances → take ((S k).last + 1 - (S k).header) (drop (S k).header (map (place_at flow.places) tree.order)) ≡ members flow tree (I k)
  members_are k lt =
      let all : List Place = map (place_at flow.places) tree.order in
      let len : length all ≡ exit + 1 = length-map tree.order (place_at flow.places) ∙ t.whole in
      let low : ℕ = (S k).header in
      let high : ℕ = (S k).last + 1 in
      let sum : low + (high - low) ≡ high = omega (arith, (shape k lt).0) in
      let stretch : filter (is_member (I k)) all ≡ drop low (take high all) = filter_stretch (is_member (I k)) all low high
      (λ p d inside least most. ap (is_member (I k)) (in_order p d inside) ∙ member_at k lt p (omega (arith, (shape k lt).1)) least (omega arith))
      (λ p d inside less. ap (is_member (I k)) (in_order p d inside) ∙ outside_at k lt p (omega (arith, len)) (inl less))
      (λ p d inside most. ap (is_member (I k)) (in_order p d inside) ∙ outside_at k lt p (omega (arith, len)) (inr (omega arith))) in
      sym (drop-take low (high - low) all) ∙ ap (λ (n : ℕ). drop low (take n all)) sum ∙ sym stretch

  -- ## The list of members

  abbrev all_places : List Place
  all_places = map (place_at flow.places) tree.order

  last_place : place_in flow tree exit ≡ Exit
  last_place = ap (place_at flow.places) (get_or_default tree.order exit exit 0 (omega (arith, t.whole)) ∙ t.exit_last) ∙ get_or_past flow.places exit Exit (omega arith)

  no_exit : (i : Instance) (n : ℕ) (p : Place) → exit ≤ n → n < length all_places → place_in flow tree n ≡ p → is_member i p ≡ true → ⊥
  no_exit i n p ge lt is passes =
      let last : exit ≡ n = omega (arith, length-map tree.order (place_at flow.places), t.whole) in
      both_ways (is_member i Exit) refl (ap (is_member i) (sym last_place ∙ ap (place_in flow tree) last ∙ is) ∙ passes)

  pub members_from : (i : Instance) (p : Place) → Contains (members flow tree i) p → Contains flow.places p × (is_member i p ≡ true)
  members_from i p has =
      let in_all : Contains all_places p = subst (Contains all_places) has.2 (All-filter (is_member i) (Contains all_places) all_places (λ k d lt. Contains-get_or all_places k d lt) has.0 p has.1) in
      let passes : is_member i p ≡ true = subst (λ (q : Place). is_member i q ≡ true) has.2 (filter_passes (is_member i) all_places has.0 p has.1) in
      let n : ℕ = in_all.0 in
      let is : place_in flow tree n ≡ p = sym (in_order n p in_all.1) ∙ in_all.2 in (
        ⊎_elim
            (λ (lt : n < exit). subst (Contains flow.places) is (place_known n lt))
            (λ (ge : exit ≤ n). absurd (no_exit i n p ge in_all.1 is passes))
            (cases_lt n exit),
        passes,
      )

  pub members_to : (i : Instance) (p : Place) → Contains flow.places p × (is_member i p ≡ true) → Contains (members flow tree i) p
  members_to i p both =
      let n = number_of p both.0 in
      let lt : n.0 < length all_places = omega (arith, n.1, length-map tree.order (place_at flow.places), t.whole) in
      filter_has (is_member i) all_places p (n.0, lt, in_order n.0 p lt ∙ n.2) both.1

  -- ## Inside

  pub inside_from : (outer inner : ℕ) → outer < length tree.instances → inner < length tree.instances → HoldsSpan tree.spans outer inner → IsInside flow (I inner) (I outer)
  inside_from outer inner olt ilt h =
      let begins : (S outer).header < exit = omega (arith, (shape outer olt).0, (shape outer olt).1) in
      record {
        all = λ p has is.
            let n = number_of p has in
            let within = member_in inner ilt n.0 n.1 (ap (is_member (I inner)) n.2 ∙ is) in
            sym (ap (is_member (I outer)) n.2) ∙ member_at outer olt n.0 n.1 (omega (arith, h.0, within.0)) (omega (arith, h.1, within.1));
        more = (
          place_in flow tree (S outer).header,
          place_known (S outer).header begins,
          member_at outer olt (S outer).header begins (omega arith) (shape outer olt).0,
          outside_at inner ilt (S outer).header (omega arith) (inl h.0),
        );
      }

  bounds : (outer inner : ℕ) → outer < length tree.instances → inner < length tree.instances → IsInside flow (I inner) (I outer) → ((S outer).header ≤ (S inner).header) × ((S inner).last ≤ (S outer).last)
  bounds outer inner olt ilt h =
      let s = shape inner ilt in
      let begins : (S inner).header < exit = omega (arith, s.0, s.1) in
      let low = member_in outer olt (S inner).header begins (h.all (place_in flow tree (S inner).header) (place_known (S inner).header begins) (member_at inner ilt (S inner).header begins (omega arith) s.0)) in
      let high = member_in outer olt (S inner).last s.1 (h.all (place_in flow tree (S inner).last) (place_known (S inner).last s.1) (member_at inner ilt (S inner).last s.1 s.0 (omega arith))) in
      (low.0, high.1)

  not_itself : (k : ℕ) → IsInside flow (I k) (I k) → ⊥
  not_itself k h = both_ways (is_member (I k) (h.more).0) (h.more).3 (h.more).2

  apart : (j k : ℕ) → j < length tree.instances → k < length tree.instances → (j ≡ k → ⊥) → (S j).header ≢ (S k).header
  apart j k jlt klt differ = ⊎_elim
      (λ (less : j < k). (t.ordered).headers_differ j k _ less (omega (arith, as_many)))
      (λ (ge : k ≤ j). λ same. (t.ordered).headers_differ k j _ (omega arith) (omega (arith, as_many)) (sym same))
      (cases_lt j k)

  pub inside_to : (outer inner : ℕ) → outer < length tree.instances → inner < length tree.instances → IsInside flow (I inner) (I outer) → HoldsSpan tree.spans outer inner
  inside_to outer inner olt ilt h =
      let b = bounds outer inner olt ilt h in
      let differ : outer ≡ inner → ⊥ = λ same. not_itself inner (subst (λ (k : ℕ). IsInside flow (I inner) (I k)) same h) in
      let headers : (S outer).header ≢ (S inner).header = apart outer inner olt ilt differ in
      (omega (arith, b.0), b.1)
