-- Which spans of an order lie in which, and those that lie in none of the first ones.
use Rattle.std.proofs.Common.{◌≡◌, ◌≢◌, ℕ, zero, suc, ◌+◌, ◌<◌, ◌≤◌, ◌⊎◌, true, List, [], ◌∷◌, ◌++◌, length, take, get_or, sym, refl, ap, ◌∙◌, subst, inl, inr, ⊎_elim, arith}
use Rattle.std.specs.Prelude.{Contains, slice_index}
use Rattle.std.specs.List.Sorted.{IsNonDecreasingBy}
use Rattle.std.proofs.lemmas.Bool.{cases_lt}
use Rattle.std.proofs.lemmas.List.{get_or_default, length-map, map-append, take-map, get_or-map}
use Rattle.std.proofs.lemmas.List.Elements.{Contains-append_left, Contains-append_right, Contains-get_or}
use Rattle.numbered_walks.specs.declared.span.NumberedEdge.{NumberedEdge}
use Rattle.numbered_walks.specs.declared.span.Span.{Span}
use Rattle.numbered_walks.specs.Ordered.{HoldsAll, IsOrdered, is_in}
use Rattle.loop_bounds.specs.Instance.{Instance}
use Rattle.numbered_walks.specs.Index.{span_at}
use Rattle.numbered_walks.proofs.Members.{member_from, member_header, member_last, no_span}
use Rattle.loop_bounds.specs.NestedParts.{AreOutermost, HoldsSpan, instance_at}

-- the first elements and one more
cut : {X : Type 0} (xs : List X) (n : ℕ) (y : X) (p : ℕ) (d : X) → n ≤ length xs → p < length (take n xs ++ y ∷ []) → ((p < n) × (get_or (take n xs ++ y ∷ []) p d ≡ get_or xs p d)) ⊎ ((p ≡ n) × (get_or (take n xs ++ y ∷ []) p d ≡ y))
cut xs zero y zero d le lt = inr (refl, refl)
cut xs zero y (suc p) d le lt = absurd (omega arith)
cut [] (suc n) y p d le lt = absurd (omega arith)
cut (x ∷ xs) (suc n) y zero d le lt = inl (omega arith, refl)
cut (x ∷ xs) (suc n) y (suc p) d le lt = ⊎_elim
    (λ (a : (p < n) × (get_or (take n xs ++ y ∷ []) p d ≡ get_or xs p d)). inl (omega (arith, a.0), a.1))
    (λ (b : (p ≡ n) × (get_or (take n xs ++ y ∷ []) p d ≡ y)). inr (ap suc b.0, b.1))
    (cut xs n y p d (omega arith) (omega arith))

take_at : {X : Type 0} (xs : List X) (n p : ℕ) (x : X) → p < n → p < length xs → get_or xs p x ≡ x → Contains (take n xs) x
take_at xs zero p x lt inside is = absurd (omega arith)
take_at [] (suc n) p x lt inside is = absurd (omega arith)
take_at (y ∷ xs) (suc n) zero x lt inside is = (0, omega arith, is)
take_at (y ∷ xs) (suc n) (suc p) x lt inside is =
    let h = take_at xs n p x (omega arith) (omega arith) is in
    (suc h.0, omega (arith, h.1), h.2)

ascending_more : (xs : List ℕ) (n y : ℕ) → n ≤ length xs → IsNonDecreasingBy (λ h. h) xs → ((p : ℕ) → p < n → get_or xs p 0 < y) → IsNonDecreasingBy (λ h. h) (take n xs ++ y ∷ [])
ascending_more xs n y le sorted below i j d ij inside =
    let default : (p : ℕ) → p < n → get_or xs p d ≡ get_or xs p 0 = λ p lt. get_or_default xs p d 0 (omega arith) in
    ⊎_elim
    (λ (b : (j < n) × (get_or (take n xs ++ y ∷ []) j d ≡ get_or xs j d)). ⊎_elim
    (λ (a : (i < n) × (get_or (take n xs ++ y ∷ []) i d ≡ get_or xs i d)). omega (arith, a.1, b.1, sorted i j d ij (omega (arith, b.0))))
    (λ (a : (i ≡ n) × (get_or (take n xs ++ y ∷ []) i d ≡ y)). absurd (omega (arith, a.0, b.0)))
    (cut xs n y i d le (omega arith)))
    (λ (b : (j ≡ n) × (get_or (take n xs ++ y ∷ []) j d ≡ y)). ⊎_elim
    (λ (a : (i < n) × (get_or (take n xs ++ y ∷ []) i d ≡ get_or xs i d)). omega (arith, a.1, b.1, default i a.0, below i a.0))
    (λ (a : (i ≡ n) × (get_or (take n xs ++ y ∷ []) i d ≡ y)). omega (arith, a.1, b.1))
    (cut xs n y i d le (omega arith)))
    (cut xs n y j d le inside)

-- the span at `inner` lies in the span at `outer`, and none is between
abbrev pub IsDirectlyIn : List Span → ℕ → ℕ → Type 0
IsDirectlyIn spans outer inner = (inner < length spans) × HoldsSpan spans outer inner × ((m : ℕ) → m < length spans → HoldsSpan spans m inner → HoldsSpan spans outer m → ⊥)

module _ (exit : ℕ) (edges : List NumberedEdge) (spans : List Span) (o : IsOrdered exit edges spans) where
  abbrev S : ℕ → Span
  S k = span_at spans k

  pub shape_at : (k : ℕ) → k < length spans → ((S k).header ≤ (S k).last) × ((S k).last < exit)
  shape_at k lt =
      let s = o.shape (S k) (Contains-get_or spans k no_span lt) in
      (s.0, s.1)

  not_later : (outer inner : ℕ) → outer ≤ inner → inner < length spans → HoldsSpan spans outer inner → ⊥
  not_later outer inner le lt h = ⊎_elim
      (λ (before : outer < inner). ⊎_elim
      (λ (a : (S outer).last < (S inner).last). omega (arith, h.1))
      (λ (b : ((S outer).last ≡ (S inner).last) × ((S inner).header < (S outer).header)). omega (arith, h.0, b.1))
      (o.closing outer inner no_span before lt))
      (λ (ge : inner ≤ outer).
      let same : outer ≡ inner = omega arith in
      let e : (S outer).header ≡ (S inner).header = ap (λ (k : ℕ). (S k).header) same in
      omega (arith, h.0))
      (cases_lt outer inner)

  -- what a span holds closes before it
  pub later : (outer inner : ℕ) → inner < length spans → HoldsSpan spans outer inner → inner < outer
  later outer inner lt h = ⊎_elim (λ (before : inner < outer). before) (λ (ge : outer ≤ inner). absurd (not_later outer inner ge lt h)) (cases_lt inner outer)

  -- it holds those that close before it and begin within it
  pub taken : (k j : ℕ) → j < k → k < length spans → (S k).header ≤ (S j).header → HoldsSpan spans k j
  taken k j before lt le =
      let differ : (S j).header ≢ (S k).header = o.headers_differ j k no_span before lt in (
        ⊎_elim (λ (less : (S k).header < (S j).header). less) (λ (ge : (S j).header ≤ (S k).header). absurd (differ (omega arith))) (cases_lt (S k).header (S j).header),
        ⊎_elim
            (λ (a : (S j).last < (S k).last). omega arith)
            (λ (b : ((S j).last ≡ (S k).last) × ((S k).header < (S j).header)). omega (arith, b.0))
            (o.closing j k no_span before lt),
      )

  -- of two that hold a third the later holds the earlier
  pub middle : (j m k : ℕ) → j < length spans → m < k → k < length spans → HoldsSpan spans m j → HoldsSpan spans k j → HoldsSpan spans k m
  middle j m k jlt before lt mj kj =
      let shape = shape_at j jlt in
      let shape_m = shape_at m (omega arith) in
      let shape_k = shape_at k lt in
      let in_m : is_in (S m) (S j).header ≡ true = member_from (S m) (S j).header (omega (arith, mj.0)) (omega (arith, mj.1, shape.0)) in
      let in_k : is_in (S k) (S j).header ≡ true = member_from (S k) (S j).header (omega (arith, kj.0)) (omega (arith, kj.1, shape.0)) in
      ⊎_elim
      (λ (a : HoldsAll (S k) (S m)).
      taken k m before lt (member_header (S k) (S m).header (a (S m).header (member_from (S m) (S m).header (omega arith) shape_m.0))))
      (λ (b : HoldsAll (S m) (S k)).
      let low = member_header (S m) (S k).header (b (S k).header (member_from (S k) (S k).header (omega arith) shape_k.0)) in
      let high = member_last (S m) (S k).last (b (S k).last (member_from (S k) (S k).last shape_k.0 (omega arith))) in
      absurd (⊎_elim
      (λ (x : (S m).last < (S k).last). omega (arith, high))
      (λ (y : ((S m).last ≡ (S k).last) × ((S k).header < (S m).header)). omega (arith, low, y.1))
      (o.closing m k no_span before lt)))
      (o.nested (S m) (S k) (Contains-get_or spans m no_span (omega arith)) (Contains-get_or spans k no_span lt) (S j).header in_m in_k)

  module _ (instances : List Instance) (headers : List ℕ) (outer : List Instance) (k : ℕ) (lt : k < length spans) (a : AreOutermost instances spans headers outer k) (first : ℕ) (first_in : first ≤ length headers) (apart : (p : ℕ) → p < first → slice_index headers p < (S k).header) (within : (p : ℕ) → first ≤ p → p < length headers → (S k).header ≤ slice_index headers p) where
    abbrev indexes : List ℕ
    indexes = a.indexes

    abbrev header_of : ℕ → ℕ
    header_of j = (S j).header

    len : length headers ≡ length indexes
    len = ap length a.headers_are ∙ length-map indexes header_of

    header_at : (p : ℕ) → p < length indexes → get_or headers p 0 ≡ (S (get_or indexes p 0)).header
    header_at p inside = ap (λ (hs : List ℕ). get_or hs p 0) a.headers_are ∙ get_or-map header_of indexes p 0 0 inside

    holds_at : (p : ℕ) → first ≤ p → p < length indexes → HoldsSpan spans k (get_or indexes p 0)
    holds_at p from inside =
        let least = within p from (omega (arith, len)) in
        taken k (get_or indexes p 0) (a.below p inside) lt (omega (arith, header_at p inside, least))

    apart_at : (p : ℕ) → p < first → HoldsSpan spans k (get_or indexes p 0) → ⊥
    apart_at p less h = omega (arith, apart p less, header_at p (omega (arith, len)), h.0)

    abbrev IsDirect : ℕ → Type 0
    IsDirect = IsDirectlyIn spans k

    pub direct_from : (p : ℕ) → first ≤ p → p < length indexes → IsDirect (get_or indexes p 0)
    direct_from p from inside = (
      omega (arith, a.below p inside),
      holds_at p from inside,
      (λ m m_lt mj km. a.alone p m inside (later k m m_lt km) mj),
    )

    pub direct_to : (j : ℕ) → IsDirect j → (p : ℕ) × (first ≤ p) × (p < length indexes) × (get_or indexes p 0 ≡ j)
    direct_to j direct =
        let before : j < k = later k j direct.0 direct.1 in
        ⊎_elim
        (λ (has : Contains indexes j).
        let is : get_or indexes has.0 0 ≡ j = get_or_default indexes has.0 0 j has.1 ∙ has.2 in
        ⊎_elim
        (λ (less : has.0 < first). absurd (apart_at has.0 less (subst (HoldsSpan spans k) (sym is) direct.1)))
        (λ (ge : first ≤ has.0). (has.0, ge, has.1, is))
        (cases_lt has.0 first))
        (λ (other : (m : ℕ) × (m < k) × HoldsSpan spans m j).
        absurd (direct.2 other.0 (omega (arith, other.1)) other.2 (middle j other.0 k direct.0 other.1 lt other.2 direct.1)))
        (a.rest j before)

    abbrev more : List ℕ
    more = take first indexes ++ k ∷ []

    first_of : first ≤ length indexes
    first_of = omega (arith, len)

    below : (p : ℕ) → p < length more → get_or more p 0 < k + 1
    below p inside = ⊎_elim
        (λ (x : (p < first) × (get_or more p 0 ≡ get_or indexes p 0)). omega (arith, x.1, a.below p (omega (arith, x.0, first_of))))
        (λ (y : (p ≡ first) × (get_or more p 0 ≡ k)). omega (arith, y.1))
        (cut indexes first k p 0 first_of inside)

    alone_old : (p m : ℕ) → p < first → m < k + 1 → HoldsSpan spans m (get_or indexes p 0) → ⊥
    alone_old p m less under h = ⊎_elim
        (λ (before : m < k). a.alone p m (omega (arith, first_of)) before h)
        (λ (ge : k ≤ m).
        let same : m ≡ k = omega arith in
        apart_at p less (subst (λ (x : ℕ). HoldsSpan spans x (get_or indexes p 0)) same h))
        (cases_lt m k)

    alone : (p m : ℕ) → p < length more → m < k + 1 → HoldsSpan spans m (get_or more p 0) → ⊥
    alone p m inside under h = ⊎_elim
        (λ (x : (p < first) × (get_or more p 0 ≡ get_or indexes p 0)). alone_old p m x.0 under (subst (HoldsSpan spans m) x.1 h))
        (λ (y : (p ≡ first) × (get_or more p 0 ≡ k)). not_later m k (omega arith) lt (subst (HoldsSpan spans m) y.1 h))
        (cut indexes first k p 0 first_of inside)

    abbrev Rest : ℕ → Type 0
    Rest j = Contains more j ⊎ ((m : ℕ) × (m < k + 1) × HoldsSpan spans m j)

    rest_old : (j : ℕ) → j < k → Rest j
    rest_old j before = ⊎_elim
        (λ (has : Contains indexes j). ⊎_elim
        (λ (less : has.0 < first). inl (Contains-append_left (take first indexes) (k ∷ []) j (take_at indexes first has.0 j less has.1 has.2)))
        (λ (ge : first ≤ has.0).
        let is : get_or indexes has.0 0 ≡ j = get_or_default indexes has.0 0 j has.1 ∙ has.2 in
        inr (k, omega arith, subst (HoldsSpan spans k) is (holds_at has.0 ge has.1)))
        (cases_lt has.0 first))
        (λ (other : (m : ℕ) × (m < k) × HoldsSpan spans m j). inr (other.0, omega (arith, other.1), other.2))
        (a.rest j before)

    rest : (j : ℕ) → j < k + 1 → Rest j
    rest j under = ⊎_elim
        (λ (before : j < k). rest_old j before)
        (λ (ge : k ≤ j).
        let same : k ≡ j = omega arith in
        inl (Contains-append_right (take first indexes) (k ∷ []) j (0, omega arith, same)))
        (cases_lt j k)

    pub outermost_more : AreOutermost instances spans (take first headers ++ (S k).header ∷ []) (take first outer ++ instance_at instances k ∷ []) (k + 1)
    outermost_more = record {
      indexes = more;
      headers_are = ap (λ (hs : List ℕ). take first hs ++ (S k).header ∷ []) a.headers_are ∙ ap (λ (hs : List ℕ). hs ++ (S k).header ∷ []) (take-map header_of first indexes) ∙ sym (map-append header_of (take first indexes) (k ∷ []));
      outer_are = ap (λ (is : List Instance). take first is ++ instance_at instances k ∷ []) a.outer_are ∙ ap (λ (is : List Instance). is ++ instance_at instances k ∷ []) (take-map (instance_at instances) first indexes) ∙ sym (map-append (instance_at instances) (take first indexes) (k ∷ []));
      below = below;
      alone = alone;
      rest = rest;
      ascending = ascending_more headers first (S k).header first_in a.ascending apart;
    }
