-- The extents that hold a position: those of its innermost extent, which are those of the parent and itself.
use Rattle.std.proofs.Common.{◌≡◌, ℕ, zero, suc, ◌+◌, ◌<◌, ◌≤◌, Bool, true, false, cond, List, [], ◌∷◌, ◌++◌, Option, Some, None, IfSome, Vec, Global, length, map, take, get_or, get_or-take, length-take-le, count_by, sym, refl, ap, ◌∙◌, subst, ⊎_elim, arith}
use Rattle.std.specs.Prelude.{filter}
use Rattle.std.proofs.lemmas.Bool.{cases_order, cases_Bool, both_ways, false_from_ne_true}
use Rattle.std.proofs.lemmas.List.Sums.{sum_by-cons, count_by_more_no, sum_by-take-le, length-filter}
use Rattle.std.proofs.lemmas.List.{get_or_default, get_or_append_left, length-map}
use Rattle.std.proofs.lemmas.List.Elements.{filter_more}
use Rattle.std.proofs.Math.Seq.{get_or-append_seam, take-length}
use Rattle.walks.specs.declared.limits.TheConstants.{MOST_INSTANCES}
use Rattle.numbered_walks.proofs.Nesting.{cond_le}
use Rattle.loop_bounds.specs.declared.extents.Extent.{Extent}
use Rattle.loop_bounds.specs.Extents.{AreExtents, AreParents, IsParent, IsWithin, IsInnermost, extent_at, parent_at, is_within}
use Rattle.loop_bounds.specs.Layout.{AreChains, AreShallow, chain_of, depth_at, headers_in, items_of}
use Rattle.loop_bounds.proofs.ExtentLemmas.{first_of, end_of, sorted_first}
use Rattle.loop_bounds.proofs.Within.{in_from, from_in}

take_take : {X : Type 0} (m n : ℕ) (xs : List X) → m ≤ n → take m (take n xs) ≡ take m xs
take_take zero n xs le = refl
take_take (suc m) zero xs le = absurd (omega arith)
take_take (suc m) (suc n) [] le = refl
take_take (suc m) (suc n) (x ∷ xs) le = λ i. x ∷ take_take m n xs (omega arith) i

filter_none : {X : Type 0} (f : X → Bool) (xs : List X) → ((j : ℕ) (d : X) → j < length xs → f (get_or xs j d) ≡ false) → filter f xs ≡ []
filter_none f [] none = refl
filter_none f (x ∷ xs) none = rw (none 0 x (omega arith)) (filter_none f xs (λ j d lt. none (suc j) d (omega arith)))

cond_cons : {X : Type 0} (b : Bool) (x : X) (xs ys : List X) → xs ≡ ys → cond b (x ∷ xs) xs ≡ cond b (x ∷ ys) ys
cond_cons b x xs ys e = ap (λ (zs : List _). cond b (x ∷ zs) zs) e

-- two tests that agree on the first n, of which the one fails after them
filter_cut : {X : Type 0} (f g : X → Bool) (xs : List X) (n : ℕ) → ((j : ℕ) (d : X) → j < n → j < length xs → f (get_or xs j d) ≡ g (get_or xs j d)) → ((j : ℕ) (d : X) → n ≤ j → j < length xs → f (get_or xs j d) ≡ false) → filter f xs ≡ filter g (take n xs)
filter_cut f g [] zero same none = refl
filter_cut f g [] (suc n) same none = refl
filter_cut f g (x ∷ xs) zero same none = filter_none f (x ∷ xs) (λ j d lt. none j d (omega arith) lt)
filter_cut f g (x ∷ xs) (suc n) same none =
    let h : filter f xs ≡ filter g (take n xs) = filter_cut f g xs n (λ j d lt inside. same (suc j) d (omega arith) (omega arith)) (λ j d ge inside. none (suc j) d (omega arith) (omega arith)) in
    ap (λ (b : Bool). cond b (x ∷ filter f xs) (filter f xs)) (same 0 x (omega arith) (omega arith)) ∙ cond_cons (g x) x (filter f xs) (filter g (take n xs)) h

in_same : (s : Extent) (p q : ℕ) → (IsWithin s p → IsWithin s q) → (IsWithin s q → IsWithin s p) → is_within s p ≡ is_within s q
in_same s p q there back = ⊎_elim
    (λ p_in. p_in ∙ sym (from_in s q (there (in_from s p p_in))))
    (λ p_out. p_out ∙ sym (false_from_ne_true (is_within s q) (λ q_in. both_ways (is_within s p) p_out (from_in s p (back (in_from s q q_in))))))
    (cases_Bool (is_within s p))

at_default : (extents : List Extent) (p j : ℕ) (d : Extent) → j < length extents → is_within (get_or extents j d) p ≡ is_within (extent_at extents j) p
at_default extents p j d lt = ap (λ (s : Extent). is_within s p) (get_or_default extents j d _ lt)

at_take : (extents : List Extent) (k j p : ℕ) (d : Extent) → j < k → k ≤ length extents → is_within (get_or (take k extents) j d) p ≡ is_within (extent_at extents j) p
at_take extents k j p d lt le = ap (λ (s : Extent). is_within s p) (get_or-take k extents j d lt) ∙ at_default extents p j d (omega arith)

-- the extents that hold the position, in order
abbrev pub holders : List Extent → ℕ → List Extent
holders extents p = filter (λ s. is_within s p) extents

upto_first_of : (extents : List Extent) (j k : ℕ) → AreExtents extents → j ≤ k → k < length extents → first_of extents j ≤ first_of extents k
upto_first_of extents j k all le inside = ⊎_elim
    (λ same. let q : first_of extents j ≡ first_of extents k = ap (first_of extents) same in omega arith)
    (λ differ. ⊎_elim (λ lt. sorted_first extents j k all lt inside) (λ gt. absurd (omega arith)) differ)
    (cases_order j k)

-- a position is held as the first position of its innermost extent
holders_innermost : (extents : List Extent) (parents : List (Option ℕ)) (p k : ℕ) → AreExtents extents → AreParents extents parents (length extents) → IsInnermost extents p (Some k) → holders extents p ≡ holders (take (k + 1) extents) (first_of extents k)
holders_innermost extents parents p k all known here =
    filter_cut (λ s. is_within s p) (λ s. is_within s (first_of extents k)) extents (k + 1)
    (λ j d upto inside.
    let begun : first_of extents j ≤ first_of extents k = upto_first_of extents j k all (omega arith) here.0 in
    let k_first : first_of extents k ≤ p = here.1.0 in
    let k_some : first_of extents k < end_of extents k = all.some k here.0 in
    at_default extents p j d inside
    ∙ in_same (extent_at extents j) p (first_of extents k)
    (λ at. let e = (here.2 j inside at).1 in (begun, omega arith))
    (λ at.
    let after : first_of extents k < end_of extents j = at.1 in
    let before : p < end_of extents k = here.1.1 in
    let held : end_of extents k ≤ end_of extents j = ⊎_elim
    (λ same. let q : end_of extents j ≡ end_of extents k = ap (end_of extents) same in omega arith)
    (λ differ. ⊎_elim
    (λ lt. ⊎_elim (λ closed. absurd (omega arith)) (λ h. h) ((known k here.0).after j lt))
    (λ gt. absurd (omega arith))
    differ)
    (cases_order j k) in
    (omega arith, omega arith))
    ∙ sym (at_default extents (first_of extents k) j d inside))
    (λ j d ge inside. at_default extents p j d inside ∙ false_from_ne_true (is_within (extent_at extents j) p) (λ within. let h = (here.2 j inside (in_from (extent_at extents j) p within)).0 in omega arith))

-- the key of a position, from the chain of its innermost extent
pub key_at : (rank : ℕ → ℕ) (extents : List Extent) (parents : List (Option ℕ)) (chains : List (List ℕ)) (p : ℕ) (inner : Option ℕ) → AreExtents extents → AreParents extents parents (length extents) → AreChains rank extents chains (length extents) → IsInnermost extents p inner → chain_of chains inner ≡ headers_in rank extents p
key_at rank extents parents chains p None all known deep none =
    let h : holders extents p ≡ [] = filter_none (λ s. is_within s p) extents (λ j d lt. at_default extents p j d lt ∙ false_from_ne_true (is_within (extent_at extents j) p) (λ within. none j lt (in_from (extent_at extents j) p within))) in
    sym (ap (map (λ (s : Extent). rank s.header)) h)
key_at rank extents parents chains p (Some k) all known deep here = deep k here.0 ∙ sym (ap (map (λ (s : Extent). rank s.header)) (holders_innermost extents parents p k all known here))

-- ## The loop

holders_above : (extents : List Extent) (parents : List (Option ℕ)) (k : ℕ) (o : Option ℕ) (rank : ℕ → ℕ) (chains : List (List ℕ)) → AreExtents extents → AreParents extents parents (length extents) → k < length extents → IsParent extents k o → AreChains rank extents chains k → headers_in rank (take k extents) (first_of extents k) ≡ chain_of chains o
holders_above extents parents k None rank chains all known inside up deep =
    ap (map (λ (s : Extent). rank s.header))
    (filter_none (λ s. is_within s (first_of extents k)) (take k extents)
    (λ j d lt.
    let j_lt : j < k = omega (arith, length-take-le k extents (omega arith)) in
    at_take extents k j (first_of extents k) d j_lt (omega arith)
    ∙ false_from_ne_true (is_within (extent_at extents j) (first_of extents k)) (λ inside_j. let h = up.opened j j_lt in let e = (in_from (extent_at extents j) (first_of extents k) inside_j).1 in omega arith)))
holders_above extents parents k (Some d) rank chains all known inside up deep =
    let d_lt : d < k = up.opened.0 in
    let upto : first_of extents d ≤ first_of extents k = sorted_first extents d k all d_lt inside in
    let held : end_of extents k ≤ end_of extents d = up.holds in
    let k_some : first_of extents k < end_of extents k = all.some k inside in
    let d_some : first_of extents d < end_of extents d = all.some d (omega arith) in
    let cut : holders (take k extents) (first_of extents k) ≡ holders (take (d + 1) (take k extents)) (first_of extents d) =
    filter_cut (λ s. is_within s (first_of extents k)) (λ s. is_within s (first_of extents d)) (take k extents) (d + 1)
    (λ j e below within.
    let j_lt : j < k = omega arith in
    let begun : first_of extents j ≤ first_of extents d = upto_first_of extents j d all (omega arith) (omega arith) in
    at_take extents k j (first_of extents k) e j_lt (omega arith)
    ∙ in_same (extent_at extents j) (first_of extents k) (first_of extents d)
    (λ at. let h = (up.opened.1 j j_lt at.1).1 in (begun, omega arith))
    (λ at.
    let after : first_of extents d < end_of extents j = at.1 in
    let longer : end_of extents d ≤ end_of extents j = ⊎_elim
    (λ same. let q : end_of extents j ≡ end_of extents d = ap (end_of extents) same in omega arith)
    (λ differ. ⊎_elim
    (λ lt. ⊎_elim (λ closed. absurd (omega arith)) (λ h. h) ((known d (omega arith)).after j lt))
    (λ gt. absurd (omega arith))
    differ)
    (cases_order j d) in
    (omega arith, omega arith))
    ∙ sym (at_take extents k j (first_of extents d) e j_lt (omega arith)))
    (λ j e above within.
    let j_lt : j < k = omega (arith, length-take-le k extents (omega arith)) in
    at_take extents k j (first_of extents k) e j_lt (omega arith)
    ∙ false_from_ne_true (is_within (extent_at extents j) (first_of extents k)) (λ inside_j. let h = (up.opened.1 j j_lt (in_from (extent_at extents j) (first_of extents k) inside_j).1).0 in omega arith)) in
    ap (map (λ (s : Extent). rank s.header)) (cut ∙ ap (λ (xs : List Extent). holders xs (first_of extents d)) (take_take (d + 1) k extents (omega arith)))
    ∙ sym (deep d d_lt)

map_append : (f : Extent → ℕ) (xs ys : List Extent) → map f (xs ++ ys) ≡ map f xs ++ map f ys
map_append f [] ys = refl
map_append f (x ∷ xs) ys = λ i. f x ∷ map_append f xs ys i

pub chain_here : (rank : ℕ → ℕ) (extents : List Extent) (parents : List (Option ℕ)) (chains : List (List ℕ)) (k : ℕ) → AreExtents extents → AreParents extents parents (length extents) → k < length extents → AreChains rank extents chains k → chain_of chains (parent_at parents k) ++ rank (extent_at extents k).header ∷ [] ≡ headers_in rank (take (k + 1) extents) (first_of extents k)
chain_here rank extents parents chains k all known inside deep =
    let own : is_within (extent_at extents k) (first_of extents k) ≡ true = from_in (extent_at extents k) (first_of extents k) (omega arith, all.some k inside) in
    let above = holders_above extents parents k (parent_at parents k) rank chains all known inside (known k inside) deep in
    let more : holders (take (k + 1) extents) (first_of extents k) ≡ holders (take k extents) (first_of extents k) ++ extent_at extents k ∷ [] =
    filter_more (λ (s : Extent). is_within s (first_of extents k)) extents k (record { first = 0; end = 0; header = 0; instance = 0 }) inside
    ∙ ap (λ (b : Bool). holders (take k extents) (first_of extents k) ++ cond b (extent_at extents k ∷ []) []) own in
    sym (ap (map (λ (s : Extent). rank s.header)) more ∙ map_append (λ (s : Extent). rank s.header) (holders (take k extents) (first_of extents k)) (extent_at extents k ∷ []) ∙ ap (λ (xs : List ℕ). xs ++ rank (extent_at extents k).header ∷ []) above)

pub chains_more : (rank : ℕ → ℕ) (extents : List Extent) (chains : List (List ℕ)) (k : ℕ) (chain : List ℕ) → length chains ≡ k → AreChains rank extents chains k → chain ≡ headers_in rank (take (k + 1) extents) (first_of extents k) → AreChains rank extents (chains ++ chain ∷ []) (k + 1)
chains_more rank extents chains k chain len deep is j lt = ⊎_elim
    (λ same.
    ap (λ (x : ℕ). get_or (chains ++ chain ∷ []) x []) (same ∙ sym len) ∙ get_or-append_seam chains chain [] [] ∙ is
    ∙ ap (λ (x : ℕ). headers_in rank (take (x + 1) extents) (first_of extents x)) (sym same))
    (λ differ. ⊎_elim
    (λ below. get_or_append_left chains (chain ∷ []) [] j (omega arith) ∙ deep j below)
    (λ above. absurd (omega arith))
    differ)
    (cases_order j k)

-- ## Depth

abbrev pub IsLow : List Extent → ℕ → Type 0
IsLow extents limit = (k : ℕ) → k < limit → depth_at (take (k + 1) extents) (first_of extents k) ≤ MOST_INSTANCES

pub chain_depth : (rank : ℕ → ℕ) (extents : List Extent) (p : ℕ) → length (headers_in rank extents p) ≡ depth_at extents p
chain_depth rank extents p = length-map (holders extents p) (λ (s : Extent). rank s.header) ∙ length-filter (λ s. is_within s p) extents

-- the chain of an extent has the headers of those around its first position, as many as it is deep
pub record IsChain (rank : ℕ → ℕ) (extents : List Extent) (k : ℕ) (chain : List ℕ) : Type 0 where
  pub headers_are : chain ≡ headers_in rank (take (k + 1) extents) (first_of extents k)
  pub depth_is : length chain ≡ depth_at (take (k + 1) extents) (first_of extents k)

pub is_chain : (rank : ℕ → ℕ) (extents : List Extent) (parents : List (Option ℕ)) (chains : List (List ℕ)) (k : ℕ) (chain : List ℕ) → AreExtents extents → AreParents extents parents (length extents) → k < length extents → AreChains rank extents chains k
    → chain ≡ chain_of chains (parent_at parents k) ++ rank (extent_at extents k).header ∷ [] → IsChain rank extents k chain
is_chain rank extents parents chains k chain all known inside deep made =
    let is = made ∙ chain_here rank extents parents chains k all known inside deep in
    record { headers_are = is; depth_is = ap length is ∙ chain_depth rank (take (k + 1) extents) (first_of extents k) }

pub count_cons : {X : Type 0} (f : X → Bool) (x : X) (xs : List X) → count_by f (x ∷ xs) ≡ cond {A = ℕ} (f x) 1 0 + count_by f xs
count_cons f x xs = sum_by-cons (λ y. cond {A = ℕ} (f y) 1 0) x xs

count_le : {X : Type 0} (f g : X → Bool) (xs : List X) → ((j : ℕ) (d : X) → j < length xs → f (get_or xs j d) ≡ true → g (get_or xs j d) ≡ true) → count_by f xs ≤ count_by g xs
count_le f g [] up = omega arith
count_le f g (x ∷ xs) up = omega (arith, count_cons f x xs, count_cons g x xs, cond_le (f x) (g x) (up 0 x (omega arith)), count_le f g xs (λ j d lt. up (suc j) d (omega arith)))

-- a position of an extent lies in no more of those up to it than its first position does
upto_first : (extents : List Extent) (k p : ℕ) → AreExtents extents → k < length extents → IsWithin (extent_at extents k) p → depth_at (take (k + 1) extents) p ≤ depth_at (take (k + 1) extents) (first_of extents k)
upto_first extents k p all inside at =
    let k_first : first_of extents k ≤ p = at.0 in
    count_le (λ s. is_within s p) (λ s. is_within s (first_of extents k)) (take (k + 1) extents)
    (λ j d lt within.
    let j_lt : j < k + 1 = omega (arith, length-take-le (k + 1) extents (omega arith)) in
    let j_in : IsWithin (extent_at extents j) p = in_from (extent_at extents j) p (sym (at_take extents (k + 1) j p d j_lt (omega arith)) ∙ within) in
    let j_end : p < end_of extents j = j_in.1 in
    let begun : first_of extents j ≤ first_of extents k = upto_first_of extents j k all (omega arith) inside in
    at_take extents (k + 1) j (first_of extents k) d j_lt (omega arith) ∙ from_in (extent_at extents j) (first_of extents k) (begun, omega arith))

bounded_upto : (extents : List Extent) (p : ℕ) → AreExtents extents → IsLow extents (length extents) → (n : ℕ) → n ≤ length extents → depth_at (take n extents) p ≤ MOST_INSTANCES
bounded_upto extents p all low zero le = omega arith
bounded_upto extents p all low (suc n) le =
    let inside : n < length extents = omega arith in
    let h : depth_at (take (n + 1) extents) p ≤ MOST_INSTANCES = ⊎_elim
    (λ within.
    let u = upto_first extents n p all inside (in_from (extent_at extents n) p within) in
    let l = low n inside in
    omega arith)
    (λ out.
    let same : depth_at (take (n + 1) extents) p ≡ depth_at (take n extents) p = count_by_more_no (λ s. is_within s p) extents n (extent_at extents n) inside (at_default extents p n (extent_at extents n) inside ∙ out) in
    omega (arith, same, bounded_upto extents p all low n (omega arith)))
    (cases_Bool (is_within (extent_at extents n) p)) in
    subst (λ (i : ℕ). depth_at (take i extents) p ≤ MOST_INSTANCES) (let e : n + 1 ≡ suc n = omega arith in e) h

pub shallow : (extents : List Extent) → AreExtents extents → IsLow extents (length extents) → AreShallow extents
shallow extents all low p = subst (λ (xs : List Extent). depth_at xs p ≤ MOST_INSTANCES) (take-length extents) (bounded_upto extents p all low (length extents) (omega arith))

pub deep_place : (extents : List Extent) (k : ℕ) → MOST_INSTANCES < depth_at (take (k + 1) extents) (first_of extents k) → MOST_INSTANCES < depth_at extents (first_of extents k)
deep_place extents k over = omega (arith, sum_by-take-le (λ s. cond {A = ℕ} (is_within s (first_of extents k)) 1 0) extents (k + 1))

pub low_more : (extents : List Extent) (i : ℕ) → IsLow extents i → depth_at (take (i + 1) extents) (first_of extents i) ≤ MOST_INSTANCES → IsLow extents (i + 1)
low_more extents i low here j lt = ⊎_elim
    (λ same. subst (λ (k : ℕ). depth_at (take (k + 1) extents) (first_of extents k) ≤ MOST_INSTANCES) (sym same) here)
    (λ differ. ⊎_elim (λ below. low j below) (λ above. absurd (omega arith)) differ)
    (cases_order j i)

parent_below : (extents : List Extent) (k : ℕ) (o : Option ℕ) → IsParent extents k o → IfSome o (λ d. d < k)
parent_below extents k None up = tt
parent_below extents k (Some d) up = up.opened.0

pub items_append : (chains : List (Vec ℕ Global)) (chain : Vec ℕ Global) → items_of (chains ++ chain ∷ []) ≡ items_of chains ++ chain.items ∷ []
items_append [] chain = refl
items_append (c ∷ chains) chain = λ i. c.items ∷ items_append chains chain i

pub items_length : (chains : List (Vec ℕ Global)) → length (items_of chains) ≡ length chains
items_length chains = length-map chains (λ (v : Vec ℕ Global). v.items)
