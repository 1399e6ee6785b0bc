-- The search for a cycle, step by step.
use Rattle.std.proofs.Common.{◌≡◌, ◌≢◌, ◌⊎◌, ℕ, zero, suc, ◌+◌, ◌<◌, ◌≤◌, List, [], ◌∷◌, ◌++◌, drop, length, get_or, set, replicate, refl, sym, ap, ◌∙◌, subst, inl, inr, ⊎_elim, Result, arith}
use Rattle.std.specs.Prelude.{AllPairs, Contains}
use Rattle.std.specs.List.Sorted.{IsBinarySearchResult, IsSearchInRange, IsStrictlySortedBy}
use Rattle.std.specs.Result.{result_unwrap_or}
use Rattle.std.proofs.lemmas.Bool.{cases_eq, cases_lt}
use Rattle.std.proofs.Math.Seq.{get_or-append_seam}
use Rattle.std.proofs.lemmas.List.{get_or-set_same, get_or-set_other, length-append, length-set, get_or-replicate, length-replicate, get_or_append_left, get_or_past}
use Rattle.std.proofs.lemmas.List.Elements.{Contains-append_left, Contains-append_right, Contains-append_cases, Contains-get_or}
use Rattle.std.proofs.lemmas.List.Quantifiers.{all_pairs_push}
use Rattle.walks.proofs.Leading.{Leads-append}
use Rattle.control_flow.specs.declared.places.Place.{Place}
use Rattle.control_flow.specs.declared.places.Place.TheVariants.{Exit}
use Rattle.control_flow.specs.declared.edges.Edge.{Edge}
use Rattle.control_flow.specs.Flow.{Flow, HasEdge, IsEdgeRange, IsWellFormed, edge_shape}
use Rattle.control_flow.specs.Places.{place_at, place_cmp}
use Rattle.control_flow.specs.Search.{by_order}
use Rattle.control_flow.proofs.Firsts.{whole_range}
use Rattle.control_flow.proofs.LabelLemmas.{only_one}
use Rattle.statement.specs.Stated.{StatedLoops}
use Rattle.loop_bounds.specs.Nest.{HasUnboundedCycle, IsPlainEdge}
use Rattle.loop_bounds.proofs.Positions.{index_found, index_inside, places_once}
use Rattle.text_refusals.specs.Cycles.{AreMarks, IsCleared, IsClosed, IsIdle, IsOn, IsOnceRound, IsOpen, IsPath, IsPathTo, LeadToCleared}
use Rattle.text_refusals.specs.declared.search.CycleSearch.{CycleSearch}

-- ## Sums of marks

abbrev begun_marks : ℕ → List ℕ
begun_marks n = replicate (n + 1) 2

-- ## The parts of a list

-- what holds of all pairs holds of those of a front, and of its elements with the next one
pub pairs_front : {X : Type 0} (R : X → X → Type 0) (xs ys : List X) → AllPairs R (xs ++ ys) → AllPairs R xs
pairs_front R xs ys pairs i j d before inside =
    let first : i < length xs = omega (arith, before, inside) in
    let within : j < length (xs ++ ys) = omega (arith, inside, length-append xs ys) in
    subst (λ x. R x (get_or xs j d)) (get_or_append_left xs ys d i first)
    (subst (λ y. R (get_or (xs ++ ys) i d) y) (get_or_append_left xs ys d j inside) (pairs i j d before within))

pub pairs_drop : {X : Type 0} (R : X → X → Type 0) (k : ℕ) (xs : List X) → AllPairs R xs → AllPairs R (drop k xs)
pairs_drop R zero xs pairs = pairs
pairs_drop R (suc k) [] pairs = λ i j d before inside. absurd (omega (arith, inside))
pairs_drop R (suc k) (x ∷ xs) pairs =
    pairs_drop R k xs (λ i j d before inside. pairs (suc i) (suc j) d (omega (arith, before)) (omega (arith, inside)))

pub pairs_next : {X : Type 0} (R : X → X → Type 0) (xs : List X) (y : X) → AllPairs R (xs ++ y ∷ []) → (k : ℕ) (d : X) → k < length xs → R (get_or xs k d) y
pairs_next R xs y pairs k d lt =
    let within : length xs < length (xs ++ y ∷ []) = omega (arith, length-append xs (y ∷ [])) in
    subst (λ x. R x y) (get_or_append_left xs (y ∷ []) d k lt)
    (subst (λ z. R (get_or (xs ++ y ∷ []) k d) z) (get_or-append_seam xs y [] d) (pairs k (length xs) d lt within))

module _ (flow : Flow) (loops : StatedLoops) where
  split_last : (p q : Place) (path : List Edge) (e : Edge) → IsPath flow loops p (path ++ e ∷ []) q → IsPath flow loops p path e.from × IsPlainEdge flow loops e × (e.to ≡ q)
  split_last p q [] e leads = (sym leads.1, leads.0, leads.2)
  split_last p q (x ∷ path) e leads =
      let rest = split_last x.to q path e leads.2 in
      ((leads.0, leads.1, rest.0), rest.1, rest.2)

  -- ## Cleared places

  first_of : (p : Place) (path : List Edge) (e : Edge) → IsCleared flow loops p → IsPath flow loops p (path ++ e ∷ []) p → ⊥
  first_of p [] e none leads = none e [] leads
  first_of p (x ∷ path) e none leads = none x (path ++ e ∷ []) leads

  -- a place all whose edges end at cleared places
  pub cleared_by : (marks : List ℕ) (p : Place) → AreMarks flow loops marks → LeadToCleared flow loops marks p → IsCleared flow loops p
  cleared_by marks p m all first rest walk =
      let at = all first walk.0 walk.1 in
      let none : IsCleared flow loops first.to = subst (IsCleared flow loops) at.2 (m.cleared at.0 at.1 at.3) in
      first_of first.to rest first none
      (Leads-append edge_shape (IsPlainEdge flow loops) first.to p first.to rest (first ∷ []) walk.2 (walk.0, walk.1, refl))

  module _ (well_formed : IsWellFormed flow) where
    exit_cleared : IsCleared flow loops Exit
    exit_cleared first rest walk = well_formed.no_exit (subst (Contains flow.places) walk.1 (well_formed.starts first (walk.0).has))

    -- no place is met
    marks_begun : AreMarks flow loops (set (replicate (length flow.places + 1) 2) (length flow.places) 0)
    marks_begun =
        let n = length flow.places in
        let all : List ℕ = replicate (n + 1) 2 in
        let len : length all ≡ n + 1 = length-replicate (n + 1) 2 in
        record {
          whole = length-set all n 0 ∙ len;
          exit = get_or-set_same all n 0 0 (omega (arith, len));
          cleared = λ v most is. ⊎_elim
              (λ (here : v ≡ n). subst (IsCleared flow loops) (sym (ap (place_at flow.places) here ∙ get_or_past flow.places (length flow.places) Exit (omega arith))) exit_cleared)
              (λ (other : v ≡ n → ⊥).
              let two : get_or (set all n 0) v 0 ≡ 2 = get_or-set_other all n v 0 0 other ∙ get_or-replicate (n + 1) v 2 0 (omega (arith, most)) in
              absurd (omega (arith, is, two)))
              (cases_eq v n);
        }

    none_met : (v : ℕ) → v < length flow.places → get_or (set (begun_marks (length flow.places)) (length flow.places) 0) v 0 ≡ 1 → ⊥
    none_met v lt is =
        let n = length flow.places in
        let all : List ℕ = replicate (n + 1) 2 in
        let two : get_or (set all n 0) v 0 ≡ 2 = get_or-set_other all n v 0 0 (λ (same : v ≡ n). omega (arith, lt, same)) ∙ get_or-replicate (n + 1) v 2 0 (omega (arith, lt)) in
        omega (arith, is, two)

    pub idle_begun : (s : CycleSearch) → s.marks.items ≡ set (replicate (length flow.places + 1) 2) (length flow.places) 0 → s.path.items ≡ [] → IsIdle flow loops s
    idle_begun s marks path = record {
      marks_are = subst (AreMarks flow loops) (sym marks) marks_begun;
      empty = path;
      none = λ v lt is. none_met v lt (sym (ap (λ (ms : List ℕ). get_or ms v 0) marks) ∙ is);
    }

  -- ## Marks

  -- a place is on the path
  marked : (marks : List ℕ) (v : ℕ) → v < length flow.places → AreMarks flow loops marks → AreMarks flow loops (set marks v 1)
  marked marks v lt m = record {
    whole = length-set marks v 1 ∙ m.whole;
    exit = get_or-set_other marks v (length flow.places) 1 0 (λ (same : length flow.places ≡ v). omega (arith, lt, same)) ∙ m.exit;
    cleared = λ u most is. ⊎_elim
        (λ (here : u ≡ v).
        let one_is : get_or (set marks v 1) u 0 ≡ 1 = ap (λ (w : ℕ). get_or (set marks v 1) w 0) here ∙ get_or-set_same marks v 1 0 (omega (arith, lt, m.whole)) in
        absurd (omega (arith, is, one_is)))
        (λ (other : u ≡ v → ⊥). m.cleared u most (sym (get_or-set_other marks v u 1 0 other) ∙ is))
        (cases_eq u v);
  }

  -- a place is cleared
  unmarked : (marks : List ℕ) (v : ℕ) → v < length flow.places → AreMarks flow loops marks → IsCleared flow loops (place_at flow.places v) → AreMarks flow loops (set marks v 0)
  unmarked marks v lt m none = record {
    whole = length-set marks v 0 ∙ m.whole;
    exit = get_or-set_other marks v (length flow.places) 0 0 (λ (same : length flow.places ≡ v). omega (arith, lt, same)) ∙ m.exit;
    cleared = λ u most is. ⊎_elim
        (λ (here : u ≡ v). subst (λ (w : ℕ). IsCleared flow loops (place_at flow.places w)) (sym here) none)
        (λ (other : u ≡ v → ⊥). m.cleared u most (sym (get_or-set_other marks v u 0 0 other) ∙ is))
        (cases_eq u v);
  }

  one_on : (marks : List ℕ) (v u m : ℕ) → (u ≡ v → ⊥) → get_or (set marks v m) u 0 ≡ 1 → get_or marks u 0 ≡ 1
  one_on marks v u m other is = sym (get_or-set_other marks v u m 0 other) ∙ is

  set_one : (marks : List ℕ) (v u : ℕ) → v < length marks → u ≡ v → get_or (set marks v 1) u 0 ≡ 1
  set_one marks v u lt here = ap (λ (w : ℕ). get_or (set marks v 1) w 0) here ∙ get_or-set_same marks v 1 0 lt

  -- ## Steps

  -- the search begins at a place
  pub begun : (marks : List ℕ) (v : ℕ) (start : Place) → v < length flow.places → place_at flow.places v ≡ start → AreMarks flow loops marks
      → ((u : ℕ) → u < length flow.places → get_or marks u 0 ≡ 1 → ⊥) → IsPathTo flow loops (set marks v 1) [] v start
  begun marks v start lt at m none = record {
    marks_are = marked marks v lt m;
    inside = lt;
    leads = sym at;
    on = λ u inside is. ⊎_elim
        (λ (here : u ≡ v). inl here)
        (λ (other : u ≡ v → ⊥). absurd (none u inside (one_on marks v u 1 other is)))
        (cases_eq u v);
    marked = λ u inside on. ⊎_elim
        (λ (here : u ≡ v). set_one marks v u (omega (arith, lt, m.whole)) here)
        (λ e. absurd (omega (arith, (e.1).1)))
        on;
    once = λ i j d before inside. absurd (omega (arith, inside));
    apart = λ e has. absurd (omega (arith, has.1));
  }

  module _ (marks : List ℕ) (path : List Edge) (at : ℕ) (start : Place) (s : IsPathTo flow loops marks path at start) where
    -- the places on the path with an edge more
    on_more : (e : Edge) (to v : ℕ) → e.from ≡ place_at flow.places at → IsOn flow loops path at v → IsOn flow loops (path ++ e ∷ []) to v
    on_more e to v from (inl here) = inr (e, Contains-append_right path (e ∷ []) e (0, omega arith, refl), from ∙ ap (place_at flow.places) (sym here))
    on_more e to v from (inr (x, has, x_from)) = inr (x, Contains-append_left path (e ∷ []) x has, x_from)

    module _ (e : Edge) (to : ℕ) (from : e.from ≡ place_at flow.places at) (next : IsOpen flow loops marks e to) where
      leads_more : IsPath flow loops start (path ++ e ∷ []) (place_at flow.places to)
      leads_more = Leads-append edge_shape (IsPlainEdge flow loops) start (place_at flow.places at) (place_at flow.places to) path (e ∷ []) s.leads (next.plain, from, sym next.end)

      pub to_inside : to < length flow.places
      to_inside = ⊎_elim
          (λ (l : to < length flow.places). l)
          (λ (ge : length flow.places ≤ to).
          let same : to ≡ length flow.places = omega (arith, next.most, ge) in
          absurd (next.marked (ap (λ (v : ℕ). get_or marks v 0) same ∙ s.marks_are.exit)))
          (cases_lt to (length flow.places))

      once_more : IsOnceRound (path ++ e ∷ [])
      once_more = all_pairs_push (λ (x y : Edge). x.from ≢ y.from) path e s.once
          (λ k d lt same. s.apart (get_or path k d) (Contains-get_or path k d lt) (same ∙ from))

      -- a place that the longer path leaves lies on the path
      left_on : IsWellFormed flow → (v : ℕ) → v < length flow.places → (x : Edge) → Contains (path ++ e ∷ []) x → x.from ≡ place_at flow.places v → IsOn flow loops path at v
      left_on well_formed v lt x has x_from = ⊎_elim
          (λ (has_x : Contains path x). inr (x, has_x, x_from))
          (λ (has_x : Contains (e ∷ []) x).
          let same : e ≡ x = only_one e x has_x in
          inl (places_once flow.places well_formed.ordered v at Exit lt s.inside (sym (ap (λ (y : Edge). y.from) same ∙ x_from) ∙ from)))
          (Contains-append_cases path (e ∷ []) x has)

      on_less : IsWellFormed flow → (v : ℕ) → v < length flow.places → (v ≡ to → ⊥) → IsOn flow loops (path ++ e ∷ []) to v → IsOn flow loops path at v
      on_less well_formed v lt other (inl here) = absurd (other here)
      on_less well_formed v lt other (inr (x, has, x_from)) = left_on well_formed v lt x has x_from

      -- the path is longer
      pub advanced : IsWellFormed flow → get_or marks to 0 ≢ 1 → IsPathTo flow loops (set marks to 1) (path ++ e ∷ []) to start
      advanced well_formed new = record {
        marks_are = marked marks to to_inside s.marks_are;
        inside = to_inside;
        leads = leads_more;
        on = λ v inside is. ⊎_elim
            (λ (here : v ≡ to). inl here)
            (λ (other : v ≡ to → ⊥). on_more e to v from (s.on v inside (one_on marks to v 1 other is)))
            (cases_eq v to);
        marked = λ v inside on. ⊎_elim
            (λ (here : v ≡ to). set_one marks to v (omega (arith, to_inside, s.marks_are.whole)) here)
            (λ (other : v ≡ to → ⊥). get_or-set_other marks to v 1 0 other ∙ s.marked v inside (on_less well_formed v inside other on))
            (cases_eq v to);
        once = once_more;
        apart = λ x has same. new (s.marked to to_inside (left_on well_formed to to_inside x has same));
      }

      closing : IsOn flow loops (path ++ e ∷ []) (length flow.places) to → IsClosed flow loops (path ++ e ∷ []) (place_at flow.places to)
      closing (inl here) = let lt = to_inside in absurd (omega (arith, here, lt))
      closing (inr (x, has, from)) = record { start = start; leads = leads_more; edge = x; has = has; from = from; once = once_more }

      -- the path is closed
      pub closes : get_or marks to 0 ≡ 1 → IsClosed flow loops (path ++ e ∷ []) (place_at flow.places to)
      closes is = closing (on_more e (length flow.places) to from (s.on to to_inside is))

    module _ (all : LeadToCleared flow loops marks (place_at flow.places at)) where
      here_cleared : IsCleared flow loops (place_at flow.places at)
      here_cleared = cleared_by marks (place_at flow.places at) s.marks_are all

      -- the path was empty
      pub emptied : path ≡ [] → AreMarks flow loops (set marks at 0) × ((v : ℕ) → v < length flow.places → get_or (set marks at 0) v 0 ≡ 1 → ⊥) × IsCleared flow loops start
      emptied empty = (
        unmarked marks at s.inside s.marks_are here_cleared,
        (λ v inside is. ⊎_elim
            (λ (here : v ≡ at).
            let zero_is : get_or (set marks at 0) v 0 ≡ 0 = ap (λ (u : ℕ). get_or (set marks at 0) u 0) here ∙ get_or-set_same marks at 0 0 (omega (arith, s.inside, s.marks_are.whole)) in
            omega (arith, is, zero_is))
            (λ (other : v ≡ at → ⊥). ⊎_elim
            (λ (here : v ≡ at). other here)
            (λ on. let has : Contains [] on.0 = subst (λ (es : List Edge). Contains es on.0) empty on.1 in omega (arith, has.1))
            (s.on v inside (one_on marks at v 0 other is)))
            (cases_eq v at)),
        subst (IsCleared flow loops) (sym (subst (λ (es : List Edge). IsPath flow loops start es (place_at flow.places at)) empty s.leads)) here_cleared,
      )

      module _ (well_formed : IsWellFormed flow) (before : List Edge) (last : Edge) (parts : path ≡ before ++ last ∷ []) where
        shorter : IsPath flow loops start before last.from × IsPlainEdge flow loops last × (last.to ≡ place_at flow.places at)
        shorter = split_last start (place_at flow.places at) before last (subst (λ (es : List Edge). IsPath flow loops start es (place_at flow.places at)) parts s.leads)

        pub from_place : Contains flow.places last.from
        from_place = well_formed.starts last (shorter.1).has

        once_parts : IsOnceRound (before ++ last ∷ [])
        once_parts = subst IsOnceRound parts s.once

        on_path : (x : Edge) → Contains (before ++ last ∷ []) x → Contains path x
        on_path x has = subst (λ (es : List Edge). Contains es x) (sym parts) has

        -- the path leaves each place of the shorter one
        left_at : (to : ℕ) → place_at flow.places to ≡ last.from → (v : ℕ) → IsOn flow loops before to v → (x : Edge) × Contains path x × (x.from ≡ place_at flow.places v)
        left_at to number v (inl here) = (last, on_path last (Contains-append_right before (last ∷ []) last (0, omega arith, refl)), sym number ∙ ap (place_at flow.places) (sym here))
        left_at to number v (inr (x, has, x_from)) = (x, on_path x (Contains-append_left before (last ∷ []) x has), x_from)

        -- the path is shorter
        pub retreated : (to : ℕ) → place_at flow.places to ≡ last.from → to < length flow.places → IsPathTo flow loops (set marks at 0) before to start
        retreated to number inside = record {
          marks_are = unmarked marks at s.inside s.marks_are here_cleared;
          inside = inside;
          leads = subst (IsPath flow loops start before) (sym number) shorter.0;
          on = λ v lt is. ⊎_elim
              (λ (here : v ≡ at).
              let zero_is : get_or (set marks at 0) v 0 ≡ 0 = ap (λ (u : ℕ). get_or (set marks at 0) u 0) here ∙ get_or-set_same marks at 0 0 (omega (arith, s.inside, s.marks_are.whole)) in
              absurd (omega (arith, is, zero_is)))
              (λ (other : v ≡ at → ⊥). ⊎_elim
              (λ (here : v ≡ at). absurd (other here))
              (λ on. ⊎_elim
              (λ (has : Contains before on.0). inr (on.0, has, on.2))
              (λ (has : Contains (last ∷ []) on.0).
              let same : last ≡ on.0 = only_one last on.0 has in
              inl (places_once flow.places well_formed.ordered v to Exit lt inside (sym (number ∙ ap (λ (x : Edge). x.from) same ∙ on.2))))
              (Contains-append_cases before (last ∷ []) on.0 (subst (λ (es : List Edge). Contains es on.0) parts on.1)))
              (s.on v lt (one_on marks at v 0 other is)))
              (cases_eq v at);
          marked = λ v lt on.
              get_or-set_other marks at v 0 0 (λ (same : v ≡ at). s.apart (left_at to number v on).0 (left_at to number v on).1 ((left_at to number v on).2 ∙ ap (place_at flow.places) same))
              ∙ s.marked v lt (inr (left_at to number v on));
          once = pairs_front (λ (x y : Edge). x.from ≢ y.from) before (last ∷ []) once_parts;
          apart = λ x has same.
              let next = pairs_next (λ (x y : Edge). x.from ≢ y.from) before last once_parts has.0 x has.1 in
              next (ap (λ (y : Edge). y.from) has.2 ∙ same ∙ number);
        }

  -- what holds of the edges in the range of a place holds of all that leave it
  pub whole_place : (place : Place) (first end : ℕ) → IsEdgeRange flow place first end → (P : Edge → Type 0)
      → ((k : ℕ) (e : Edge) → first ≤ k → k < end → get_or flow.edges k e ≡ e → P e) → (e : Edge) → HasEdge flow e → e.from ≡ place → P e
  whole_place place first end range P each e has from =
      let w = whole_range flow place first end range has.0 e has.1 (ap (λ (x : Edge). x.from) has.2 ∙ from) in
      each has.0 e w.0 w.1 has.2

  -- no cycle where each place is cleared
  pub none_cycles : IsWellFormed flow → ((p : Place) → Contains flow.places p → IsCleared flow loops p) → HasUnboundedCycle flow loops → ⊥
  none_cycles well_formed each c =
      let walk = c.returns in
      each c.place (subst (Contains flow.places) walk.1 (well_formed.starts c.first (walk.0).has)) c.first c.rest walk

-- ## Indexes of places

module _ (flow : Flow) (well_formed : IsWellFormed flow) (places : List Place) (same : places ≡ flow.places) (p : Place) (r : Result ℕ ℕ) (n : ℕ) (is : n ≡ result_unwrap_or r (length places)) where
  abbrev ordered : IsStrictlySortedBy place_cmp places
  ordered = subst (IsStrictlySortedBy place_cmp) (sym same) well_formed.ordered

  pub index_number : (p ≡ Exit) ⊎ Contains flow.places p → IsBinarySearchResult (λ y. by_order y p) places r → place_at flow.places n ≡ p
  index_number known found =
      subst (λ (ps : List Place). place_at ps n ≡ p) same
      (ap (place_at places) is ∙ index_found places p r ordered (subst (λ (ps : List Place). (p ≡ Exit) ⊎ Contains ps p) (sym same) known) found)

  pub index_in : Contains flow.places p → IsSearchInRange r (length places) → IsBinarySearchResult (λ y. by_order y p) places r → n < length flow.places
  index_in has range found =
      subst (λ (ps : List Place). n < length ps) same
      (subst (λ (m : ℕ). m < length places) (sym is) (index_inside places p r ordered (subst (λ (ps : List Place). Contains ps p) (sym same) has) range found))
