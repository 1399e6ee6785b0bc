-- An order of positions in which each edge but the back edges goes up, and the members of an extent are together.
use Rattle.std.proofs.Common.{◌≡◌, ℕ, zero, suc, ◌<◌, ◌≤◌, ◌⊎◌, ◌&&◌, true, false, eqb, ltb, List, [], ◌∷◌, AllPairs, Contains, sym, refl, ap, ◌∙◌, subst, inl, inr, ⊎_elim, arith}
use Rattle.std.proofs.lemmas.Bool.{cases_Bool, both_ways, and_parts, or_parts, ltb-false, eq-eqb, eqb-true, lt-ltb, le-ltb}
use Rattle.walks.specs.Walk.{Leads, IsReached}
use Rattle.loop_bounds.specs.declared.extents.Extent.{Extent}
use Rattle.numbered_walks.specs.declared.span.NumberedEdge.{NumberedEdge}
use Rattle.numbered_walks.specs.Ordered.{number_shape}
use Rattle.loop_bounds.specs.Extents.{is_within}
use Rattle.loop_bounds.specs.Keys.{is_before}
use Rattle.loop_bounds.specs.Layout.{is_back_of, IsBack, IsRank, IsEnteredRight, key_in, HoldsLater, HoldLater}
use Rattle.numbered_walks.proofs.Nesting.{AllPairs-tail}

-- an edge to the place that is no back edge
pub record Forward (edges : List NumberedEdge) (extents : List Extent) (p : ℕ) : Type 0 where
  pub edge : NumberedEdge
  pub in_graph : Contains edges edge
  pub to_is : edge.to ≡ p
  pub no_back : IsBack extents edge → ⊥

here : (s : Extent) (extents : List Extent) → Contains (s ∷ extents) s
here s extents = (0, omega arith, refl)

there : (s : Extent) (extents : List Extent) (t : Extent) → Contains extents t → Contains (s ∷ extents) t
there s extents t at = (suc at.0, omega (arith, at.1), at.2)

either : (s : Extent) (extents : List Extent) (t : Extent) → Contains (s ∷ extents) t → (t ≡ s) ⊎ Contains extents t
either s extents t (zero, lt, is) = inl (sym is)
either s extents t (suc k, lt, is) = inr (k, omega arith, is)

pairs_head : {X : Type 0} (R : X → X → Type 0) (x : X) (xs : List X) → AllPairs R (x ∷ xs) → (y : X) → Contains xs y → R x y
pairs_head R x xs pairs y (k, lt, is) = subst (λ (z : _). R x z) is (pairs 0 (suc k) y (omega arith) (omega arith))

-- whether an edge is a back edge
pub is_back_any : (extents : List Extent) (e : NumberedEdge) → IsBack extents e ⊎ (IsBack extents e → ⊥)
is_back_any [] e = inr (λ b. absurd (omega (arith, b.1.1)))
is_back_any (s ∷ extents) e = ⊎_elim
    (λ yes. inl (s, here s extents, yes))
    (λ not_here. ⊎_elim
    (λ b. inl (b.0, there s extents b.0 b.1, b.2))
    (λ none. inr (λ b. ⊎_elim
    (λ is. both_ways (is_back_of e s) not_here (subst (λ (t : Extent). is_back_of e t ≡ true) is b.2))
    (λ later. none (b.0, later, b.2))
    (either s extents b.0 b.1)))
    (is_back_any extents e))
    (cases_Bool (is_back_of e s))

module _ (edges : List NumberedEdge) (entry exit : ℕ) (extents : List Extent) (ok : IsEnteredRight edges entry extents) (differ : (s t : Extent) → Contains extents s → Contains extents t → s.header ≡ t.header → s ≡ t) where
  -- how a walk reaches a place: by a forward edge, or it has been there, or in the instance of which it is the header
  comes : (q p : ℕ) (walk : List NumberedEdge) → Leads number_shape (Contains edges) q walk p → Forward edges extents p ⊎ ((q ≡ p) ⊎ ((s : Extent) × Contains extents s × (p ≡ s.header) × (is_within s q ≡ true)))
  comes q p [] is = inr (inl is)
  comes q p (e ∷ walk) (in_graph, starts, leads) = ⊎_elim
      (λ found. inl found)
      (λ other. ⊎_elim
      (λ there. ⊎_elim
      (λ back. inr (inr (back.0, back.1, sym there ∙ eqb-true _ _ (and_parts _ _ back.2).0, subst (λ (x : ℕ). is_within back.0 x ≡ true) starts (and_parts (eqb e.to back.0.header) (is_within back.0 e.from) back.2).1)))
      (λ no. inl (record { edge = e; in_graph = in_graph; to_is = there; no_back = no }))
      (is_back_any extents e))
      (λ h. ⊎_elim
      (λ inside. inr (inr (h.0, h.1, h.2, subst (λ (x : ℕ). is_within h.0 x ≡ true) starts inside)))
      (λ outside.
      let to_is : e.to ≡ h.0.header = ok.entered e in_graph h.0 h.1 outside h.3 in
      inl (record {
        edge = e;
        in_graph = in_graph;
        to_is = to_is ∙ sym h.2;
        no_back = λ b.
            let parts = and_parts (eqb e.to b.0.header) (is_within b.0 e.from) b.2 in
            let same : b.0 ≡ h.0 = differ b.0 h.0 b.1 h.1 (sym (eqb-true e.to b.0.header parts.0) ∙ to_is) in
            both_ways (is_within h.0 e.from) outside (subst (λ (s : Extent). is_within s e.from ≡ true) same parts.1);
      }))
      (cases_Bool (is_within h.0 e.from)))
      other)
      (comes e.to p walk leads)

  -- each place but the entry has a forward edge to it
  pub forward_to : (p : ℕ) → IsReached number_shape (Contains edges) entry p → (entry ≡ p) ⊎ Forward edges extents p
  forward_to p (walk, leads) = ⊎_elim
      (λ found. inr found)
      (λ other. ⊎_elim
      (λ is. inl is)
      (λ h. inl (ok.entry_at_header h.0 h.1 h.3 ∙ sym h.2))
      other)
      (comes entry p walk leads)

  module _ (rank : ℕ → ℕ) (up : IsRank edges extents rank) (reached : (p : ℕ) → p < exit → IsReached number_shape (Contains edges) entry p) (leaves : (e : NumberedEdge) → Contains edges e → e.from < exit) where
    -- the header has the least rank among the members
    first_upto : (n p : ℕ) → rank p < n → p < exit → (s : Extent) → Contains extents s → is_within s p ≡ true → (p ≡ s.header) ⊎ (rank s.header < rank p)
    first_upto zero p lt place s here inside = absurd (omega arith)
    first_upto (suc n) p lt place s here inside = ⊎_elim
        (λ entry. inl (sym entry ∙ ok.entry_at_header s here (subst (λ (x : ℕ). is_within s x ≡ true) (sym entry) inside)))
        (λ f.
        let lower : rank f.edge.from < rank p = subst (λ (x : ℕ). rank f.edge.from < rank x) f.to_is (up f.edge f.in_graph f.no_back) in
        ⊎_elim
        (λ from_in. ⊎_elim
        (λ is. inr (subst (λ (x : ℕ). rank x < rank p) is lower))
        (λ less. inr (omega arith))
        (first_upto n f.edge.from (omega arith) (leaves f.edge f.in_graph) s here from_in))
        (λ from_out. inl (sym f.to_is ∙ ok.entered f.edge f.in_graph s here from_out (subst (λ (x : ℕ). is_within s x ≡ true) (sym f.to_is) inside)))
        (cases_Bool (is_within s f.edge.from)))
        (forward_to p (reached p place))

    pub header_first : (p : ℕ) → p < exit → (s : Extent) → Contains extents s → is_within s p ≡ true → rank s.header ≤ rank p
    header_first p place s here inside = ⊎_elim
        (λ is. omega (arith, ap rank is))
        (λ less. omega arith)
        (first_upto (suc (rank p)) p (omega arith) place s here inside)

    -- ## The order of keys

    abbrev key : List Extent → ℕ → List ℕ
    key rest p = key_in rank rest p

    abbrev Part : List Extent → Type 0
    Part rest = (s : Extent) → Contains rest s → Contains extents s

    -- a key begins with a number
    abbrev Starts : List ℕ → ℕ → Type 0
    Starts k n = (rest : List ℕ) × (k ≡ n ∷ rest)

    part_tail : (s : Extent) (rest : List Extent) → Part (s ∷ rest) → Part rest
    part_tail s rest part t at = part t (there s rest t at)

    key_with : (s : Extent) (rest : List Extent) (p : ℕ) → is_within s p ≡ true → key (s ∷ rest) p ≡ rank s.header ∷ key rest p
    key_with s rest p inside = rw inside refl

    key_without : (s : Extent) (rest : List Extent) (p : ℕ) → is_within s p ≡ false → key (s ∷ rest) p ≡ key rest p
    key_without s rest p outside = rw outside refl

    -- it begins with no more than the place's rank
    starts_upto : (rest : List Extent) → Part rest → (p : ℕ) → p < exit → (n : ℕ) × (n ≤ rank p) × Starts (key rest p) n
    starts_upto [] part p place = (rank p, omega arith, ([], refl))
    starts_upto (s ∷ rest) part p place = ⊎_elim
        (λ yes. (rank s.header, header_first p place s (part s (here s rest)) yes, (key rest p, key_with s rest p yes)))
        (λ no.
        let h = starts_upto rest (part_tail s rest part) p place in
        (h.0, h.1, (h.2.0, key_without s rest p no ∙ h.2.1)))
        (cases_Bool (is_within s p))

    -- where no instance holds both ends of an edge, the key of its end begins with the end's rank
    starts_at : (rest : List Extent) → Part rest → (e : NumberedEdge) → Contains edges e → ((s : Extent) → Contains rest s → is_within s e.from ≡ true → is_within s e.to ≡ true → ⊥) → Starts (key rest e.to) (rank e.to)
    starts_at [] part e in_graph apart = ([], refl)
    starts_at (s ∷ rest) part e in_graph apart = ⊎_elim
        (λ yes. ⊎_elim
        (λ both. absurd (apart s (here s rest) both yes))
        (λ out.
        let is : e.to ≡ s.header = ok.entered e in_graph s (part s (here s rest)) out yes in
        (key rest e.to, key_with s rest e.to yes ∙ ap (λ (x : ℕ). rank x ∷ key rest e.to) (sym is)))
        (cases_Bool (is_within s e.from)))
        (λ no.
        let h = starts_at rest (part_tail s rest part) e in_graph (λ t at. apart t (there s rest t at)) in
        (h.0, key_without s rest e.to no ∙ h.1))
        (cases_Bool (is_within s e.to))

    starts_before : (x y : List ℕ) (m n : ℕ) → Starts x m → Starts y n → m < n → is_before x y ≡ true
    starts_before x y m n (xs, x_is) (ys, y_is) lt = rw (x_is, y_is) (rw (lt-ltb m n lt) refl)

    same_before : (n : ℕ) (x y : List ℕ) → is_before x y ≡ true → is_before (n ∷ x) (n ∷ y) ≡ true
    same_before n x y h = rw (le-ltb n n (omega arith), eq-eqb n n refl) h

    both_before : (s : Extent) (rest : List Extent) (p q : ℕ) → is_within s p ≡ true → is_within s q ≡ true → is_before (key rest p) (key rest q) ≡ true → is_before (key (s ∷ rest) p) (key (s ∷ rest) q) ≡ true
    both_before s rest p q in_p in_q h = rw (key_with s rest p in_p, key_with s rest q in_q) (same_before (rank s.header) (key rest p) (key rest q) h)

    none_before : (s : Extent) (rest : List Extent) (p q : ℕ) → is_within s p ≡ false → is_within s q ≡ false → is_before (key rest p) (key rest q) ≡ true → is_before (key (s ∷ rest) p) (key (s ∷ rest) q) ≡ true
    none_before s rest p q out_p out_q h = rw (key_without s rest p out_p, key_without s rest q out_q) h

    -- along an edge that is no back edge keys go up
    key_up : (rest : List Extent) → Part rest → HoldLater rest → (e : NumberedEdge) → Contains edges e → (IsBack extents e → ⊥) → is_before (key rest e.from) (key rest e.to) ≡ true
    key_up [] part nested e in_graph no_back = starts_before (key [] e.from) (key [] e.to) (rank e.from) (rank e.to) ([], refl) ([], refl) (up e in_graph no_back)
    key_up (s ∷ rest) part nested e in_graph no_back =
        let lower : rank e.from < rank e.to = up e in_graph no_back in
        let later : is_before (key rest e.from) (key rest e.to) ≡ true = key_up rest (part_tail s rest part) (AllPairs-tail HoldsLater s rest nested) e in_graph no_back in
        ⊎_elim
        (λ from_in. ⊎_elim
        (λ to_in. both_before s rest e.from e.to from_in to_in later)
        (λ to_out.
        let first : rank s.header ≤ rank e.from = header_first e.from (leaves e in_graph) s (part s (here s rest)) from_in in
        let to_starts : Starts (key rest e.to) (rank e.to) = starts_at rest (part_tail s rest part) e in_graph
        (λ t at t_from t_to. both_ways (is_within s e.to) to_out (pairs_head HoldsLater s rest nested t at e.from from_in t_from e.to t_to)) in
        starts_before (key (s ∷ rest) e.from) (key (s ∷ rest) e.to) (rank s.header) (rank e.to)
        (key rest e.from, key_with s rest e.from from_in)
        (to_starts.0, key_without s rest e.to to_out ∙ to_starts.1)
        (omega arith))
        (cases_Bool (is_within s e.to)))
        (λ from_out. ⊎_elim
        (λ to_in.
        let is : e.to ≡ s.header = ok.entered e in_graph s (part s (here s rest)) from_out to_in in
        let from_starts = starts_upto rest (part_tail s rest part) e.from (leaves e in_graph) in
        starts_before (key (s ∷ rest) e.from) (key (s ∷ rest) e.to) from_starts.0 (rank s.header)
        (from_starts.2.0, key_without s rest e.from from_out ∙ from_starts.2.1)
        (key rest e.to, key_with s rest e.to to_in)
        (omega (arith, from_starts.1, ap rank is)))
        (λ to_out. none_before s rest e.from e.to from_out to_out later)
        (cases_Bool (is_within s e.to)))
        (cases_Bool (is_within s e.from))

    -- ## Members are together

    held_by : (s : Extent) (rest : List Extent) → HoldLater (s ∷ rest) → (i : Extent) → Contains (s ∷ rest) i → (x : ℕ) → is_within s x ≡ true → is_within i x ≡ true → (y : ℕ) → is_within i y ≡ true → is_within s y ≡ true
    held_by s rest nested i at x s_x i_x y i_y = ⊎_elim
        (λ is. subst (λ (z : Extent). is_within z y ≡ true) is i_y)
        (λ later. pairs_head HoldsLater s rest nested i later x s_x i_x y i_y)
        (either s rest i at)

    not_held_by : (s : Extent) (rest : List Extent) → HoldLater (s ∷ rest) → (i : Extent) → Contains (s ∷ rest) i → (x : ℕ) → is_within s x ≡ false → is_within i x ≡ true → (y : ℕ) → is_within i y ≡ true → is_within s y ≡ false
    not_held_by s rest nested i at x s_x i_x y i_y = ⊎_elim
        (λ s_y. absurd (both_ways (is_within s x) s_x (held_by s rest nested i at y s_y i_y x i_x)))
        (λ out. out)
        (cases_Bool (is_within s y))

    not_before : (x y : List ℕ) (m n : ℕ) → Starts x m → Starts y n → is_before x y ≡ false → n ≤ m
    not_before x y m n (xs, x_is) (ys, y_is) h =
        let at : is_before (m ∷ xs) (n ∷ ys) ≡ false = (λ i. is_before (sym x_is i) (sym y_is i)) ∙ h in
        ltb-false m n (or_parts (ltb m n) (eqb m n && is_before xs ys) at).0

    same_not_before : (n : ℕ) (x y : List ℕ) → is_before (n ∷ x) (n ∷ y) ≡ false → is_before x y ≡ false
    same_not_before n x y h = ⊎_elim
        (λ before. absurd (both_ways (is_before (n ∷ x) (n ∷ y)) h (same_before n x y before)))
        (λ out. out)
        (cases_Bool (is_before x y))

    module _ (once : (a b : ℕ) → a < exit → b < exit → rank a ≡ rank b → a ≡ b) (header_in : (s : Extent) → Contains extents s → is_within s s.header ≡ true) (header_place : (s : Extent) → Contains extents s → s.header < exit) where
      -- whose number a key begins with
      starts_from : (rest : List Extent) → Part rest → (x : ℕ) → (n : ℕ) × Starts (key rest x) n × ((n ≡ rank x) ⊎ ((t : Extent) × Contains rest t × (is_within t x ≡ true) × (n ≡ rank t.header)))
      starts_from [] part x = (rank x, ([], refl), inl refl)
      starts_from (s ∷ rest) part x = ⊎_elim
          (λ s_x. (rank s.header, (key rest x, key_with s rest x s_x), inr (s, here s rest, s_x, refl)))
          (λ out.
          let h = starts_from rest (part_tail s rest part) x in
          (h.0, (h.1.0, key_without s rest x out ∙ h.1.1), ⊎_elim (λ own. inl own) (λ t. inr (t.0, there s rest t.0 t.1, t.2, t.3)) h.2))
          (cases_Bool (is_within s x))

      same_span : (s t : Extent) → Contains extents s → Contains extents t → rank t.header ≡ rank s.header → t ≡ s
      same_span s t s_at t_at same = differ t s t_at s_at (once t.header s.header (header_place t t_at) (header_place s s_at) same)

      -- a place whose key begins with the header's rank is a member
      in_by_start : (s : Extent) → Contains extents s → (rest : List Extent) → Part rest → (x n : ℕ) → x < exit → n ≡ rank s.header → ((n ≡ rank x) ⊎ ((t : Extent) × Contains rest t × (is_within t x ≡ true) × (n ≡ rank t.header))) → is_within s x ≡ true
      in_by_start s s_at rest part x n place is cases = ⊎_elim
          (λ own.
          let e : x ≡ s.header = once x s.header place (header_place s s_at) (sym own ∙ is) in
          subst (λ (z : ℕ). is_within s z ≡ true) (sym e) (header_in s s_at))
          (λ t.
          let e : t.0 ≡ s = same_span s t.0 s_at (part t.0 t.1) (sym t.3 ∙ is) in
          subst (λ (z : Extent). is_within z x ≡ true) e t.2)
          cases

      -- the keys of two members begin alike
      same_start : (rest : List Extent) → Part rest → HoldLater rest → (i : Extent) → Contains rest i → (p r : ℕ) → is_within i p ≡ true → is_within i r ≡ true → (t : Extent) × Contains rest t × (is_within t p ≡ true) × Starts (key rest p) (rank t.header) × Starts (key rest r) (rank t.header)
      same_start [] part nested i at p r i_p i_r = absurd (omega (arith, at.1))
      same_start (s ∷ rest) part nested i at p r i_p i_r = ⊎_elim
          (λ s_p. (s, here s rest, s_p, (key rest p, key_with s rest p s_p), (key rest r, key_with s rest r (held_by s rest nested i at p s_p i_p r i_r))))
          (λ out. ⊎_elim
          (λ is. absurd (both_ways (is_within s p) out (subst (λ (z : Extent). is_within z p ≡ true) is i_p)))
          (λ later.
          let h = same_start rest (part_tail s rest part) (AllPairs-tail HoldsLater s rest nested) i later p r i_p i_r in
          let out_r : is_within s r ≡ false = not_held_by s rest nested i at p out i_p r i_r in
          (h.0, there s rest h.0 h.1, h.2, (h.3.0, key_without s rest p out ∙ h.3.1), (h.4.0, key_without s rest r out_r ∙ h.4.1)))
          (either s rest i at))
          (cases_Bool (is_within s p))

      -- between two members, in the order of keys, there are members alone
      together : (rest : List Extent) → Part rest → HoldLater rest → (i : Extent) → Contains rest i → (p r x : ℕ) → x < exit → is_within i p ≡ true → is_within i r ≡ true → is_before (key rest x) (key rest p) ≡ false → is_before (key rest r) (key rest x) ≡ false → is_within i x ≡ true
      together [] part nested i at p r x place i_p i_r low high = absurd (omega (arith, at.1))
      together (s ∷ rest) part nested i at p r x place i_p i_r low high =
          let s_at : Contains extents s = part s (here s rest) in
          ⊎_elim
          (λ s_p.
          let s_r : is_within s r ≡ true = held_by s rest nested i at p s_p i_p r i_r in
          ⊎_elim
          (λ s_x. ⊎_elim
          (λ is. subst (λ (z : Extent). is_within z x ≡ true) (sym is) s_x)
          (λ later. together rest (part_tail s rest part) (AllPairs-tail HoldsLater s rest nested) i later p r x place i_p i_r
          (same_not_before (rank s.header) (key rest x) (key rest p) ((λ j. is_before (sym (key_with s rest x s_x) j) (sym (key_with s rest p s_p) j)) ∙ low))
          (same_not_before (rank s.header) (key rest r) (key rest x) ((λ j. is_before (sym (key_with s rest r s_r) j) (sym (key_with s rest x s_x) j)) ∙ high)))
          (either s rest i at))
          (λ out.
          let st = starts_from rest (part_tail s rest part) x in
          let x_starts : Starts (key (s ∷ rest) x) st.0 = (st.1.0, key_without s rest x out ∙ st.1.1) in
          let above : rank s.header ≤ st.0 = not_before (key (s ∷ rest) x) (key (s ∷ rest) p) st.0 (rank s.header) x_starts (key rest p, key_with s rest p s_p) low in
          let below : st.0 ≤ rank s.header = not_before (key (s ∷ rest) r) (key (s ∷ rest) x) (rank s.header) st.0 (key rest r, key_with s rest r s_r) x_starts high in
          absurd (both_ways (is_within s x) out (in_by_start s s_at rest (part_tail s rest part) x st.0 place (omega arith) st.2)))
          (cases_Bool (is_within s x)))
          (λ out_p.
          let out_r : is_within s r ≡ false = not_held_by s rest nested i at p out_p i_p r i_r in
          ⊎_elim
          (λ is. absurd (both_ways (is_within s p) out_p (subst (λ (z : Extent). is_within z p ≡ true) is i_p)))
          (λ later. ⊎_elim
          (λ s_x.
          let st = same_start rest (part_tail s rest part) (AllPairs-tail HoldsLater s rest nested) i later p r i_p i_r in
          let above : rank st.0.header ≤ rank s.header = not_before (key (s ∷ rest) x) (key (s ∷ rest) p) (rank s.header) (rank st.0.header) (key rest x, key_with s rest x s_x) (st.3.0, key_without s rest p out_p ∙ st.3.1) low in
          let below : rank s.header ≤ rank st.0.header = not_before (key (s ∷ rest) r) (key (s ∷ rest) x) (rank st.0.header) (rank s.header) (st.4.0, key_without s rest r out_r ∙ st.4.1) (key rest x, key_with s rest x s_x) high in
          let e : st.0 ≡ s = same_span s st.0 s_at (part st.0 (there s rest st.0 st.1)) (omega arith) in
          absurd (both_ways (is_within s p) out_p (subst (λ (z : Extent). is_within z p ≡ true) e st.2)))
          (λ out_x. together rest (part_tail s rest part) (AllPairs-tail HoldsLater s rest nested) i later p r x place i_p i_r
          ((λ j. is_before (sym (key_without s rest x out_x) j) (sym (key_without s rest p out_p) j)) ∙ low)
          ((λ j. is_before (sym (key_without s rest r out_r) j) (sym (key_without s rest x out_x) j)) ∙ high))
          (cases_Bool (is_within s x)))
          (either s rest i at))
          (cases_Bool (is_within s p))

      -- each edge that is no back edge goes up
      pub edges_go_up : HoldLater extents → (e : NumberedEdge) → Contains edges e → (IsBack extents e → ⊥) → is_before (key extents e.from) (key extents e.to) ≡ true
      edges_go_up nested = key_up extents (λ s at. at) nested

      -- the members of an extent are together
      pub members_together : HoldLater extents → (i : Extent) → Contains extents i → (p r x : ℕ) → x < exit → is_within i p ≡ true → is_within i r ≡ true → is_before (key extents x) (key extents p) ≡ false → is_before (key extents r) (key extents x) ≡ false → is_within i x ≡ true
      members_together nested = together extents (λ s at. at) nested
