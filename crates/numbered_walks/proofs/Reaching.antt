-- Numbers that edges attain are the costs of walks.
use Rattle.std.proofs.Common.{◌≡◌, ◌≢◌, ℕ, zero, suc, ◌+◌, ◌*◌, ◌<◌, ◌≤◌, Bool, true, false, cond, not, eqb, ◌&&◌, List, [], ◌∷◌, ◌++◌, ◌⊎◌, ⊎_elim, inl, inr, Option, Some, None, All, Contains, count_by, sum_by, refl, sym, ap, ◌∙◌, subst, arith, append-nil}
use Rattle.std.specs.List.{list_all, repeat}
use Rattle.std.proofs.lemmas.Bool.{true≢false, false≢true, cases_Bool, eqb-true, eqb-false, eq-eqb, ne_eqb, and_from, and_parts, both_ways}
use Rattle.std.proofs.Math.Nat.{mul-le-mul_right}
use Rattle.std.proofs.lemmas.List.Sums.{sum_by-cons, AllPass-from_list_all}
use Rattle.std.proofs.lemmas.List.Elements.{All-nil, All-head, All-tail, All-push, All-append, All-weaker}
use Rattle.numbered_walks.specs.declared.span.NumberedEdge.{NumberedEdge}
use Rattle.numbered_walks.specs.declared.span.Span.{Span}
use Rattle.numbered_walks.specs.Ordered.{number_shape, Leads, is_in, is_inside, ends_at_header}
use Rattle.walks.specs.Segments.{head, tail}
use Rattle.numbered_walks.specs.Reach.{InTree, holds_in, most_in, start_of}
use Rattle.numbered_walks.specs.Reach as S
use Rattle.walks.proofs.Joins as J
use Rattle.walks.proofs.Segments as G
use Rattle.walks.proofs.Leading.{Leads-append, Leads-repeated, cost-append, cost-repeated}
use Rattle.walks.proofs.SumLe.{sum_by-both, sum_by-same_all}

pub list_all_weaker : {E : Type 0} (p q : E → Bool) → ((e : E) → p e ≡ true → q e ≡ true) → (w : List E) → list_all p w ≡ true → list_all q w ≡ true
list_all_weaker p q weaker [] all = refl
list_all_weaker p q weaker (e ∷ w) all =
    let parts : (p e ≡ true) × (list_all p w ≡ true) = and_parts (p e) (list_all p w) all in
    and_from (q e) (list_all q w) (weaker e parts.0) (list_all_weaker p q weaker w parts.1)

pub count_none : {E : Type 0} (t : E → Bool) (w : List E) → All (λ e. t e ≡ false) w → count_by t w ≡ 0
count_none t [] all = refl
count_none t (e ∷ w) all =
    let first : t e ≡ false = All-head (λ x. t x ≡ false) e w all in
    let rest : count_by t w ≡ 0 = count_none t w (All-tail (λ x. t x ≡ false) e w all) in
    let here : cond {A = ℕ} (t e) 1 0 ≡ 0 = rw first refl in
    let split : count_by t (e ∷ w) ≡ cond (t e) 1 0 + count_by t w = sum_by-cons (λ x. cond (t x) 1 0) e w in
    omega arith

pub head_none : {E : Type 0} (inside turns : E → Bool) (w : List E) → All (λ e. turns e ≡ false) w → head inside turns w ≡ 0
head_none inside turns [] all = refl
head_none inside turns (e ∷ w) all =
    let first : turns e ≡ false = All-head (λ x. turns x ≡ false) e w all in
    let rest : head inside turns w ≡ 0 = head_none inside turns w (All-tail (λ x. turns x ≡ false) e w all) in
    elim (inside e) as (λ v. cond v (cond (turns e) 1 0 + head inside turns w) 0 ≡ 0) [ true ↦ rw (first, rest) refl | false ↦ refl ]

pub header_pick : (x y b k : Bool) (s : ℕ) → (k ≡ true → (x ≡ false) × (y ≡ true) × (b ≡ true)) → (k ≡ false → x ≡ false → y ≡ true → ⊥) → (x ≡ true → y ≡ false → b ≡ true) → cond (y && b) s 0 + cond (x && not y) s 0 ≡ cond (x && b) s 0 + cond k s 0
header_pick x y b true s own enter leave = rw ((own refl).0, (own refl).1, (own refl).2) (omega arith)
header_pick true true b false s own enter leave = omega arith
header_pick true false b false s own enter leave = rw (leave refl refl) (omega arith)
header_pick false true b false s own enter leave = absurd (enter refl refl refl)
header_pick false false b false s own enter leave = refl

pub round_pick : (x y b : Bool) (s : ℕ) → (x ≡ true → y ≡ false → b ≡ true) → (b ≡ true → y ≡ false) → cond (x && b) s 0 ≡ cond (x && not y) s 0
round_pick false y b s leave apart = refl
round_pick true false b s leave apart = rw (leave refl refl) refl
round_pick true true false s leave apart = refl
round_pick true true true s leave apart = absurd (true≢false (apart refl))

pub sum_zero : {X : Type 0} (xs : List X) → sum_by (λ x. 0) xs ≡ 0
sum_zero [] = refl
sum_zero (x ∷ xs) = omega (arith, sum_by-cons (λ y. 0) x xs, sum_zero xs)

pub start_pick : (x k : Bool) (s : ℕ) → (k ≡ true → x ≡ true) → (k ≡ false → x ≡ true → ⊥) → cond (x && true) s 0 ≡ cond k s 0
start_pick true true s own other = refl
start_pick false true s own other = absurd (false≢true (own refl))
start_pick true false s own other = absurd (other refl refl)
start_pick false false s own other = refl

lower_first : (a b s r m n : ℕ) → a < b → r < s → b * s + m < suc n → a * s + r < n
lower_first a b s r m n low small fits =
    let more : suc a * s ≤ b * s = mul-le-mul_right s low in
    omega arith

module _ (edges : List NumberedEdge) (tree : List Span) (taken : Span → ℕ) (dist : ℕ → ℕ) (arr rnd : Span → ℕ) where
  abbrev pub stay : Span → ℕ
  stay j = S.stay edges tree taken dist arr rnd j

  abbrev pub needed : NumberedEdge → ℕ
  needed e = S.needed edges tree taken dist arr rnd e

  abbrev pub below : Option Span → Span → Bool
  below c j = S.below edges tree taken dist arr rnd c j

  abbrev pub turns_in : Option Span → NumberedEdge → Bool
  turns_in c e = S.turns_in edges tree taken dist arr rnd c e

  abbrev pub potential_in : Option Span → ℕ → ℕ
  potential_in c p = S.potential_in edges tree taken dist arr rnd c p

  abbrev pub Reach : Option Span → ℕ → Type 0
  Reach c p = S.Reach edges tree taken dist arr rnd c p

  abbrev pub Round : Span → Type 0
  Round i = S.Round edges tree taken dist arr rnd i

  abbrev pub Rounds : Span → Type 0
  Rounds i = S.Rounds edges tree taken dist arr rnd i

  -- what nesting has shown
  pub record Structure : Type 0 where
    pub one_header : (i j : Span) → Contains tree i → Contains tree j → i.header ≡ j.header → i ≡ j
    pub enters : (e : NumberedEdge) → Contains edges e → (j : Span) → Contains tree j → is_in j e.from ≡ false → is_in j e.to ≡ true → e.to ≡ j.header
    -- an instance that is left, at an edge within the context, lies below the context
    pub left_below : (c : Option Span) → InTree tree c → (e : NumberedEdge) → Contains edges e → (j : Span) → Contains tree j → holds_in c e.from ≡ true → holds_in c e.to ≡ true → is_in j e.from ≡ true → is_in j e.to ≡ false → below c j ≡ true
    pub header_in : (i : Span) → Contains tree i → is_in i i.header ≡ true
    -- an instance below a context lies within it, and not at its start
    pub inside_below : (c : Option Span) → InTree tree c → (i : Span) → Contains tree i → below c i ≡ true → (p : ℕ) → is_in i p ≡ true → holds_in c p ≡ true
    pub no_start : (c : Option Span) → InTree tree c → (i : Span) → Contains tree i → below c i ≡ true → (e : NumberedEdge) → is_in i e.to ≡ true → turns_in c e ≡ false
    pub apart : (i j : Span) → Contains tree i → Contains tree j → below (Some i) j ≡ true → is_in j i.header ≡ false
    pub entry_out : (j : Span) → Contains tree j → is_in j 0 ≡ true → 0 ≡ j.header
    -- the headers differ
    pub once : (f : Span → ℕ) (i : Span) → Contains tree i → sum_by (λ j. cond (eqb j.header i.header) (f j) 0) tree ≡ f i

  pub step_pick : (x y b : Bool) (s : ℕ) → (x ≡ false → y ≡ true → ⊥) → (x ≡ true → y ≡ false → b ≡ true) → cond (y && b) s 0 + cond (x && not y) s 0 ≡ cond (x && b) s 0
  step_pick true true b s enter leave = omega arith
  step_pick true false b s enter leave = rw (leave refl refl) (omega arith)
  step_pick false true b s enter leave = absurd (enter refl refl)
  step_pick false false b s enter leave = refl

  -- an edge to a place that is no header
  unfoldable pub reach_step : (st : Structure) (c : Option Span) → InTree tree c → (e : NumberedEdge) → Contains edges e → ((j : Span) → Contains tree j → e.to ≡ j.header → ⊥) → holds_in c e.to ≡ true → turns_in c e ≡ false → dist e.to ≡ needed e → holds_in c e.from ≡ true → Reach c e.from → Reach c e.to
  reach_step st c here e in_graph no_header goes_in no_turn attained starts_in r = record {
    walk = r.walk ++ e ∷ [];
    leads = Leads-append number_shape (Contains edges) (start_of c) e.from e.to r.walk (e ∷ []) r.leads (in_graph, refl, refl);
    within = J.whole-append (λ x. holds_in c x.from && holds_in c x.to) (turns_in c) r.walk (e ∷ []) ∙ and_from (list_all (λ x. holds_in c x.from && holds_in c x.to) r.walk) (list_all (λ x. holds_in c x.from && holds_in c x.to) (e ∷ [])) r.within (rw (starts_in, goes_in) refl);
    no_turn = All-push (λ x. turns_in c x ≡ false) r.walk e r.no_turn no_turn;
    kept = λ j in_tree. G.push_edge (is_inside j) (ends_at_header j) (taken j) r.walk e (r.kept j in_tree) (inl (ne_eqb e.to j.header (no_header j in_tree)));
    cost =
        let from_terms = λ (j : Span). cond (is_in j e.from && below c j) (stay j) 0 in
        let to_terms = λ (j : Span). cond (is_in j e.to && below c j) (stay j) 0 in
        let left_terms = λ (j : Span). cond (is_in j e.from && not (is_in j e.to)) (stay j) 0 in
        let sums : sum_by (λ j. to_terms j + left_terms j) tree ≡ sum_by from_terms tree =
        sum_by-same_all (λ j. to_terms j + left_terms j) from_terms tree
        (λ j in_tree. step_pick (is_in j e.from) (is_in j e.to) (below c j) (stay j)
        (λ out goes. no_header j in_tree (st.enters e in_graph j in_tree out goes)) (st.left_below c here e in_graph j in_tree starts_in goes_in)) in
        omega (arith, cost-append number_shape r.walk (e ∷ []), r.cost, sums, sum_by-both to_terms left_terms tree, attained);
  }

  unfoldable pub no_rounds : (i : Span) → taken i * rnd i ≡ 0 → Rounds i
  no_rounds i none = record {
    walk = [];
    leads = refl;
    within = refl;
    kept = λ j in_tree v kept entered. subst (λ (x : List NumberedEdge). most_in j x ≤ taken j) (sym (append-nil v)) kept;
    cost = sym none;
  }

  unfoldable pub all_rounds : (st : Structure) (i : Span) → Contains tree i → Round i → Rounds i
  all_rounds st i i_in r = record {
    walk = repeat (taken i) r.walk;
    leads = Leads-repeated number_shape (Contains edges) (taken i) i.header r.walk r.leads;
    within = J.whole-repeated (is_inside i) (ends_at_header i) (taken i) r.walk r.within;
    kept = λ j in_tree v kept entered. ⊎_elim
        (λ same.
        let is : j ≡ i = st.one_header j i in_tree i_in (eqb-true j.header i.header same) in
        subst (λ (x : Span). most_in x (v ++ repeat (taken i) r.walk) ≤ taken x) (sym is)
        (G.push_own_rounds (is_inside i) (ends_at_header i) (taken i) v r.walk
        (subst (λ (x : Span). most_in x v ≤ taken x) is kept)
        (subst (λ (x : Span). tail {E = NumberedEdge} (is_inside x) (ends_at_header x) v ≡ 0) is (entered (eqb-true j.header i.header same)))
        r.within r.one))
        (λ other.
        let ne : j.header ≢ i.header = eqb-false j.header i.header other in
        G.push_rounds (is_inside j) (ends_at_header j) (taken j) (taken i) v r.walk kept (r.begins j in_tree ne) (r.kept j in_tree ne))
        (cases_Bool (eqb j.header i.header));
    cost = cost-repeated number_shape (taken i) r.walk ∙ ap (λ n. taken i * n) r.cost;
  }

  -- an edge that enters an instance, and all its rounds
  unfoldable pub reach_header : (st : Structure) (c : Option Span) → InTree tree c → (e : NumberedEdge) (i : Span) → Contains edges e → Contains tree i → e.to ≡ i.header → is_in i e.from ≡ false → below c i ≡ true → holds_in c e.to ≡ true → turns_in c e ≡ false → dist e.to ≡ 0 → arr i ≡ needed e → holds_in c e.from ≡ true → Rounds i → Reach c e.from → Reach c e.to
  reach_header st c here e i in_graph i_in to_header outside is_below goes_in no_turn zero_here attained starts_in rounds r =
      let goes_in_i : is_in i e.to ≡ true = subst (λ (p : ℕ). is_in i p ≡ true) (sym to_header) (st.header_in i i_in) in
      let not_inside : is_inside i e ≡ false = rw outside refl in
      let rounds_lead : Leads edges e.to rounds.walk e.to = subst (λ (p : ℕ). Leads edges p rounds.walk p) (sym to_header) rounds.leads in
      let holds = λ (x : NumberedEdge). holds_in c x.from && holds_in c x.to in
      record {
        walk = (r.walk ++ e ∷ []) ++ rounds.walk;
        leads = Leads-append number_shape (Contains edges) (start_of c) e.to e.to (r.walk ++ e ∷ []) rounds.walk (Leads-append number_shape (Contains edges) (start_of c) e.from e.to r.walk (e ∷ []) r.leads (in_graph, refl, refl)) rounds_lead;
        within = J.whole-append holds (turns_in c) (r.walk ++ e ∷ []) rounds.walk
            ∙ and_from (list_all holds (r.walk ++ e ∷ [])) (list_all holds rounds.walk)
            (J.whole-append holds (turns_in c) r.walk (e ∷ []) ∙ and_from (list_all holds r.walk) (list_all holds (e ∷ [])) r.within (rw (starts_in, goes_in) refl))
            (list_all_weaker (is_inside i) holds
            (λ x in_it. let ends : (is_in i x.from ≡ true) × (is_in i x.to ≡ true) = and_parts (is_in i x.from) (is_in i x.to) in_it in
            and_from (holds_in c x.from) (holds_in c x.to) (st.inside_below c here i i_in is_below x.from ends.0) (st.inside_below c here i i_in is_below x.to ends.1))
            rounds.walk rounds.within);
        no_turn = All-append (λ x. turns_in c x ≡ false) (r.walk ++ e ∷ []) rounds.walk
            (All-push (λ x. turns_in c x ≡ false) r.walk e r.no_turn no_turn)
            (All-weaker (λ x. is_inside i x ≡ true) (λ x. turns_in c x ≡ false)
            (λ x in_it. st.no_start c here i i_in is_below x (and_parts (is_in i x.from) (is_in i x.to) in_it).1)
            rounds.walk (AllPass-from_list_all (is_inside i) rounds.walk rounds.within));
        kept = λ j in_tree. rounds.kept j in_tree (r.walk ++ e ∷ [])
            (G.push_edge (is_inside j) (ends_at_header j) (taken j) r.walk e (r.kept j in_tree)
            (⊎_elim (λ same. inr (subst (λ (x : Span). is_inside x e ≡ false) (sym (st.one_header j i in_tree i_in (eqb-true j.header i.header same))) not_inside))
            (λ other. inl (ne_eqb e.to j.header (λ is. eqb-false j.header i.header other (sym is ∙ to_header))))
            (cases_Bool (eqb j.header i.header))))
            (λ same. G.tail_outside (is_inside j) (ends_at_header j) r.walk e (subst (λ (x : Span). is_inside x e ≡ false) (sym (st.one_header j i in_tree i_in same)) not_inside));
        cost =
            let from_terms = λ (j : Span). cond (is_in j e.from && below c j) (stay j) 0 in
            let to_terms = λ (j : Span). cond (is_in j e.to && below c j) (stay j) 0 in
            let left_terms = λ (j : Span). cond (is_in j e.from && not (is_in j e.to)) (stay j) 0 in
            let own_terms = λ (j : Span). cond (eqb j.header i.header) (stay j) 0 in
            let sums : sum_by (λ j. to_terms j + left_terms j) tree ≡ sum_by (λ j. from_terms j + own_terms j) tree =
            sum_by-same_all (λ j. to_terms j + left_terms j) (λ j. from_terms j + own_terms j) tree
            (λ j in_tree. header_pick (is_in j e.from) (is_in j e.to) (below c j) (eqb j.header i.header) (stay j)
            (λ same. let is : i ≡ j = sym (st.one_header j i in_tree i_in (eqb-true j.header i.header same)) in
            (subst (λ (x : Span). is_in x e.from ≡ false) is outside, subst (λ (x : Span). is_in x e.to ≡ true) is goes_in_i, subst (λ (x : Span). below c x ≡ true) is is_below))
            (λ other out goes. eqb-false j.header i.header other (sym (st.enters e in_graph j in_tree out goes) ∙ to_header))
            (st.left_below c here e in_graph j in_tree starts_in goes_in)) in
            omega (arith, cost-append number_shape (r.walk ++ e ∷ []) rounds.walk, cost-append number_shape r.walk (e ∷ []), r.cost, rounds.cost, sums, sum_by-both to_terms left_terms tree, sum_by-both from_terms own_terms tree, st.once stay i i_in, attained, zero_here);
      }

  pub head_outside : (j : Span) (p q : ℕ) (w : List NumberedEdge) → is_in j p ≡ false → Leads edges p w q → head {E = NumberedEdge} (is_inside j) (ends_at_header j) w ≡ 0
  head_outside j p q [] out leads = refl
  head_outside j p q (e ∷ w) out (in_graph, starts, leads) =
      let from_out : is_in j e.from ≡ false = subst (λ (x : ℕ). is_in j x ≡ false) (sym starts) out in
      rw from_out refl

  -- a back edge closes a round
  unfoldable pub round_of : (st : Structure) (i : Span) (e : NumberedEdge) → Contains tree i → Contains edges e → is_in i e.from ≡ true → e.to ≡ i.header → rnd i ≡ needed e → Reach (Some i) e.from → Round i
  round_of st i e i_in in_graph from_in to_header attained r =
      let to_in : is_in i e.to ≡ true = subst (λ (p : ℕ). is_in i p ≡ true) (sym to_header) (st.header_in i i_in) in
      let turn_here : ends_at_header i e ≡ true = eq-eqb e.to i.header to_header in
      let all : list_all (is_inside i) (r.walk ++ e ∷ []) ≡ true =
      J.whole-append (is_inside i) (ends_at_header i) r.walk (e ∷ []) ∙ and_from (list_all (is_inside i) r.walk) (list_all (is_inside i) (e ∷ [])) r.within (rw (from_in, to_in) refl) in
      let leads : Leads edges i.header (r.walk ++ e ∷ []) i.header =
      subst (λ (p : ℕ). Leads edges i.header (r.walk ++ e ∷ []) p) to_header (Leads-append number_shape (Contains edges) i.header e.from e.to r.walk (e ∷ []) r.leads (in_graph, refl, refl)) in
      record {
        walk = r.walk ++ e ∷ [];
        leads = leads;
        within = all;
        one = J.count-append (is_inside i) (ends_at_header i) r.walk (e ∷ []) ∙ rw (count_none (ends_at_header i) r.walk r.no_turn, turn_here) (omega arith);
        kept = λ j in_tree ne. G.push_edge (is_inside j) (ends_at_header j) (taken j) r.walk e (r.kept j in_tree) (inl (ne_eqb e.to j.header (λ is. ne (sym is ∙ to_header))));
        begins = λ j in_tree ne. ⊎_elim
            (λ holds. head_none (is_inside j) (ends_at_header j) (r.walk ++ e ∷ [])
            (All-weaker (λ x. is_inside i x ≡ true) (λ x. ends_at_header j x ≡ false)
            (λ x in_it. st.no_start (Some j) in_tree i i_in (and_from (is_in j i.header) (not (eqb i.header j.header)) holds (rw (ne_eqb i.header j.header (λ is. ne (sym is))) refl)) x (and_parts (is_in i x.from) (is_in i x.to) in_it).1)
            (r.walk ++ e ∷ []) (AllPass-from_list_all (is_inside i) (r.walk ++ e ∷ []) all)))
            (λ out. head_outside j i.header i.header (r.walk ++ e ∷ []) out leads)
            (cases_Bool (is_in j i.header));
        cost =
            let from_terms = λ (j : Span). cond (is_in j e.from && below (Some i) j) (stay j) 0 in
            let left_terms = λ (j : Span). cond (is_in j e.from && not (is_in j e.to)) (stay j) 0 in
            let sums : sum_by from_terms tree ≡ sum_by left_terms tree =
            sum_by-same_all from_terms left_terms tree
            (λ j in_tree. round_pick (is_in j e.from) (is_in j e.to) (below (Some i) j) (stay j)
            (st.left_below (Some i) i_in e in_graph j in_tree from_in to_in)
            (λ is_below. ⊎_elim (λ holds. absurd (both_ways (ends_at_header i e) (st.no_start (Some i) i_in j in_tree is_below e holds) turn_here)) (λ out. out) (cases_Bool (is_in j e.to)))) in
            omega (arith, cost-append number_shape r.walk (e ∷ []), r.cost, sums, attained);
      }

  abbrev pub at_start : Option Span → ℕ → Bool
  at_start None p = false
  at_start (Some i) p = eqb p i.header

  abbrev pub NoHeader : ℕ → Type 0
  NoHeader p = (j : Span) → Contains tree j → p ≡ j.header → ⊥

  module _ (IsPlace : ℕ → Type 0) (rank : ℕ → ℕ) where
    -- how the number of a place, or of a header's instance, is attained
    pub record StartAt (p : ℕ) : Type 0 where
      pub is : p ≡ 0
      pub no_header : NoHeader p
      pub zero_here : dist p ≡ 0

    pub record StepTo (p : ℕ) : Type 0 where
      pub edge : NumberedEdge
      pub in_graph : Contains edges edge
      pub ends : edge.to ≡ p
      pub no_header : NoHeader p
      pub attained : dist p ≡ needed edge
      pub place : IsPlace edge.from
      pub earlier : rank edge.from < rank p

    pub record EntersBy (i : Span) (p : ℕ) : Type 0 where
      pub edge : NumberedEdge
      pub in_graph : Contains edges edge
      pub ends : edge.to ≡ p
      pub outside : is_in i edge.from ≡ false
      pub attained : arr i ≡ needed edge
      pub place : IsPlace edge.from
      pub earlier : rank edge.from < rank p

    pub record HeaderAt (p : ℕ) : Type 0 where
      pub instance : Span
      pub in_tree : Contains tree instance
      pub is : p ≡ instance.header
      pub zero_here : dist p ≡ 0
      pub by : EntersBy instance p ⊎ ((p ≡ 0) × (arr instance ≡ 0))

    pub record BackEdge (i : Span) : Type 0 where
      pub edge : NumberedEdge
      pub in_graph : Contains edges edge
      pub from_in : is_in i edge.from ≡ true
      pub ends : edge.to ≡ i.header
      pub attained : rnd i ≡ needed edge
      pub place : IsPlace edge.from

    pub record Attained : Type 0 where
      pub places : (p : ℕ) → IsPlace p → StartAt p ⊎ (StepTo p ⊎ HeaderAt p)
      pub rounds : (i : Span) → Contains tree i → (taken i * rnd i ≡ 0) ⊎ BackEdge i

    module _ (st : Structure) (attains : Attained) (level : Option Span → ℕ) (size : ℕ) (ranked : (p : ℕ) → IsPlace p → rank p < size) (lower : (c : Option Span) (i : Span) → InTree tree c → Contains tree i → below c i ≡ true → level (Some i) < level c) where
      from_in_context : (c : Option Span) → InTree tree c → (e : NumberedEdge) → Contains edges e → holds_in c e.to ≡ true → at_start c e.to ≡ false → holds_in c e.from ≡ true
      from_in_context None here e in_graph goes_in later = refl
      from_in_context (Some k) here e in_graph goes_in later =
          ⊎_elim (λ holds. holds) (λ out. absurd (eqb-false e.to k.header later (st.enters e in_graph k here out goes_in))) (cases_Bool (is_in k e.from))

      no_turn_at : (c : Option Span) → InTree tree c → (e : NumberedEdge) → at_start c e.to ≡ false → turns_in c e ≡ false
      no_turn_at None here e later = refl
      no_turn_at (Some k) here e later = later

      start_none : (c : Option Span) → InTree tree c → (p : ℕ) → NoHeader p → at_start c p ≡ false
      start_none None here p none = refl
      start_none (Some k) here p none = ne_eqb p k.header (none k here)

      below_context : (c : Option Span) (i : Span) → holds_in c i.header ≡ true → at_start c i.header ≡ false → below c i ≡ true
      below_context None i holds later = refl
      below_context (Some k) i holds later = and_from (is_in k i.header) (not (eqb i.header k.header)) holds (rw later refl)

      no_terms : (c : Option Span) (p : ℕ) → ((j : Span) → Contains tree j → is_in j p ≡ true → below c j ≡ true → ⊥) → sum_by (λ j. cond (is_in j p && below c j) (stay j) 0) tree ≡ 0
      no_terms c p none = sum_by-same_all (λ j. cond (is_in j p && below c j) (stay j) 0) (λ j. 0) tree
          (λ j in_tree. ⊎_elim (λ yes. let ends : (is_in j p ≡ true) × (below c j ≡ true) = and_parts (is_in j p) (below c j) yes in absurd (none j in_tree ends.0 ends.1))
          (λ out. rw out refl) (cases_Bool (is_in j p && below c j)))
          ∙ sum_zero tree

      -- a walk with no edges
      stay_here : (c : Option Span) (p : ℕ) → start_of c ≡ p → dist p ≡ 0 → ((j : Span) → Contains tree j → is_in j p ≡ true → below c j ≡ true → ⊥) → Reach c p
      stay_here c p starts zero_here none = record {
        walk = [];
        leads = starts;
        within = refl;
        no_turn = All-nil (λ x. turns_in c x ≡ false);
        kept = λ j in_tree. omega arith;
        cost = omega (arith, no_terms c p none, zero_here);
      }

      header_zero : (k : Span) → Contains tree k → (p : ℕ) → p ≡ k.header → IsPlace p → dist p ≡ 0
      header_zero k here p is place =
          ⊎_elim (λ s. absurd (s.no_header k here is)) (⊎_elim (λ s. absurd (s.no_header k here is)) (λ h. h.zero_here)) (attains.places p place)

      base : (c : Option Span) → InTree tree c → (p : ℕ) → IsPlace p → at_start c p ≡ true → Reach c p
      base None here p place start = absurd (false≢true start)
      base (Some k) here p place start =
          let is : p ≡ k.header = eqb-true p k.header start in
          stay_here (Some k) p (sym is) (header_zero k here p is place)
          (λ j in_tree holds is_below. both_ways (is_in j p) (subst (λ (x : ℕ). is_in j x ≡ false) (sym is) (st.apart k j here in_tree is_below)) holds)

      from_start : (c : Option Span) → InTree tree c → (p : ℕ) → holds_in c p ≡ true → StartAt p → Reach c p
      from_start None here p holds s =
          stay_here None p (sym s.is) s.zero_here
          (λ j in_tree member is_below. s.no_header j in_tree (s.is ∙ st.entry_out j in_tree (subst (λ (x : ℕ). is_in j x ≡ true) s.is member)))
      from_start (Some k) here p holds s =
          absurd (s.no_header k here (s.is ∙ st.entry_out k here (subst (λ (x : ℕ). is_in k x ≡ true) s.is holds)))

      -- the walks that are known already
      abbrev Smaller : ℕ → Type 0
      Smaller n = (c : Option Span) → InTree tree c → (p : ℕ) → IsPlace p → holds_in c p ≡ true → level c * size + rank p < n → Reach c p

      rounds_of : (n : ℕ) → Smaller n → (i : Span) → Contains tree i → ((q : ℕ) → IsPlace q → level (Some i) * size + rank q < n) → Rounds i
      rounds_of n ih i in_tree small =
          ⊎_elim (λ none. no_rounds i none)
          (λ b. all_rounds st i in_tree (round_of st i b.edge in_tree b.in_graph b.from_in b.ends b.attained
          (ih (Some i) in_tree b.edge.from b.place b.from_in (small b.edge.from b.place))))
          (attains.rounds i in_tree)

      step_to : (n : ℕ) → Smaller n → (c : Option Span) → InTree tree c → (p : ℕ) → holds_in c p ≡ true → at_start c p ≡ false → level c * size + rank p < suc n → StepTo p → Reach c p
      step_to n ih c here p holds later small s =
          let e = s.edge in
          let goes_in : holds_in c e.to ≡ true = subst (λ (x : ℕ). holds_in c x ≡ true) (sym s.ends) holds in
          let later_e : at_start c e.to ≡ false = subst (λ (x : ℕ). at_start c x ≡ false) (sym s.ends) later in
          let starts_in : holds_in c e.from ≡ true = from_in_context c here e s.in_graph goes_in later_e in
          let smaller : level c * size + rank e.from < n = omega (arith, s.earlier) in
          subst (λ (x : ℕ). Reach c x) s.ends
          (reach_step st c here e s.in_graph (λ j in_tree is. s.no_header j in_tree (sym s.ends ∙ is)) goes_in (no_turn_at c here e later_e)
          (subst (λ (x : ℕ). dist x ≡ needed e) (sym s.ends) s.attained) starts_in (ih c here e.from s.place starts_in smaller))

      from_entry : (i : Span) → Contains tree i → (p : ℕ) → p ≡ i.header → p ≡ 0 → dist p ≡ 0 → arr i ≡ 0 → Rounds i → Reach None p
      from_entry i in_tree p is at_entry zero_here none rounds = record {
        walk = rounds.walk;
        leads = subst (λ (x : ℕ). Leads edges x rounds.walk p) at_entry (subst (λ (x : ℕ). Leads edges x rounds.walk x) (sym is) rounds.leads);
        within = list_all_weaker (is_inside i) (λ x. true) (λ x inside. refl) rounds.walk rounds.within;
        no_turn = λ k d below. refl;
        kept = λ j here. rounds.kept j here [] (omega arith) (λ same. refl);
        cost =
            let terms : sum_by (λ j. cond (is_in j p && true) (stay j) 0) tree ≡ sum_by (λ j. cond (eqb j.header i.header) (stay j) 0) tree =
            sum_by-same_all (λ j. cond (is_in j p && true) (stay j) 0) (λ j. cond (eqb j.header i.header) (stay j) 0) tree
            (λ j here. start_pick (is_in j p) (eqb j.header i.header) (stay j)
            (λ same. subst (λ (x : Span). is_in x p ≡ true) (sym (st.one_header j i here in_tree (eqb-true j.header i.header same))) (subst (λ (x : ℕ). is_in i x ≡ true) (sym is) (st.header_in i in_tree)))
            (λ other holds. eqb-false j.header i.header other (sym (st.entry_out j here (subst (λ (x : ℕ). is_in j x ≡ true) at_entry holds)) ∙ sym at_entry ∙ is))) in
            omega (arith, rounds.cost, terms, st.once stay i in_tree, zero_here, none);
      }

      at_entry_in : (c : Option Span) → InTree tree c → (p : ℕ) → holds_in c p ≡ true → at_start c p ≡ false → (i : Span) → Contains tree i → p ≡ i.header → p ≡ 0 → dist p ≡ 0 → arr i ≡ 0 → Rounds i → Reach c p
      at_entry_in None here p holds later i in_tree is at_entry zero_here none rounds = from_entry i in_tree p is at_entry zero_here none rounds
      at_entry_in (Some k) here p holds later i in_tree is at_entry zero_here none rounds =
          absurd (eqb-false p k.header later (at_entry ∙ st.entry_out k here (subst (λ (x : ℕ). is_in k x ≡ true) at_entry holds)))

      header_at : (n : ℕ) → Smaller n → (c : Option Span) → InTree tree c → (p : ℕ) → IsPlace p → holds_in c p ≡ true → at_start c p ≡ false → level c * size + rank p < suc n → HeaderAt p → Reach c p
      header_at n ih c here p place holds later small h =
          let i = h.instance in
          let holds_h : holds_in c i.header ≡ true = subst (λ (x : ℕ). holds_in c x ≡ true) h.is holds in
          let later_h : at_start c i.header ≡ false = subst (λ (x : ℕ). at_start c x ≡ false) h.is later in
          let is_below : below c i ≡ true = below_context c i holds_h later_h in
          let rounds : Rounds i = rounds_of n ih i h.in_tree (λ q place_q. lower_first (level (Some i)) (level c) size (rank q) (rank p) n (lower c i here h.in_tree is_below) (ranked q place_q) small) in
          ⊎_elim (λ b.
          let e = b.edge in
          let goes_in : holds_in c e.to ≡ true = subst (λ (x : ℕ). holds_in c x ≡ true) (sym b.ends) holds in
          let later_e : at_start c e.to ≡ false = subst (λ (x : ℕ). at_start c x ≡ false) (sym b.ends) later in
          let starts_in : holds_in c e.from ≡ true = from_in_context c here e b.in_graph goes_in later_e in
          let smaller : level c * size + rank e.from < n = omega (arith, b.earlier) in
          subst (λ (x : ℕ). Reach c x) b.ends
          (reach_header st c here e i b.in_graph h.in_tree (b.ends ∙ h.is) b.outside is_below goes_in (no_turn_at c here e later_e)
          (subst (λ (x : ℕ). dist x ≡ 0) (sym b.ends) h.zero_here) b.attained starts_in rounds (ih c here e.from b.place starts_in smaller)))
          (λ at. at_entry_in c here p holds later i h.in_tree h.is at.0 h.zero_here at.1 rounds)
          h.by

      pub reach : (n : ℕ) → Smaller n
      reach zero c here p place holds small = absurd (omega arith)
      reach (suc n) c here p place holds small =
          ⊎_elim (λ start. base c here p place start)
          (λ later. ⊎_elim (λ s. from_start c here p holds s)
          (⊎_elim (λ s. step_to n (reach n) c here p holds later small s) (λ h. header_at n (reach n) c here p place holds later small h))
          (attains.places p place))
          (cases_Bool (at_start c p))
