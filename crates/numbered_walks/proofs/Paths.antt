-- The steps by which a builder makes a walk of the greatest cost: what each edge and all rounds of an instance add.
use Rattle.std.proofs.Common.{◌≡◌, ℕ, ◌+◌, ◌*◌, ◌<◌, Bool, true, false, cond, not, eqb, ◌&&◌, List, [], ◌∷◌, ◌++◌, ⊎_elim, Option, Some, None, Contains, slice_index, sum_by, refl, sym, ap, ◌∙◌, subst, arith}
use Rattle.std.proofs.lemmas.Bool.{cases_Bool, both_ways, and_from, and_parts, eqb-true, eqb-false, ne_eqb}
use Rattle.std.proofs.lemmas.List.Elements.{All-nil}
use Rattle.std.specs.List.{repeat}
use Rattle.walks.proofs.SumLe.{sum_by-same_all}
use Rattle.numbered_walks.specs.declared.span.NumberedEdge.{NumberedEdge}
use Rattle.numbered_walks.specs.declared.span.Span.{Span}
use Rattle.numbered_walks.specs.declared.tables.Tables.{Tables}
use Rattle.numbered_walks.specs.Ordered.{IsOrdered, Leads, is_in, is_inside}
use Rattle.numbered_walks.specs.Index.{edge_at}
use Rattle.numbered_walks.specs.Tables.{distance_of, arrival_of, round_of, found_at, is_header_in}
use Rattle.numbered_walks.specs.Found.{AreFound, IsEntering, IsTurning}
use Rattle.numbered_walks.specs.Reach.{AreRoundsOf, InTree, IsPathTo, IsRoundOf, holds_in, start_of}
use Rattle.numbered_walks.proofs.Grouping.{edge_at-in}
use Rattle.numbered_walks.proofs.Members.{begins_in, member_from, member_header}
use Rattle.numbered_walks.proofs.Nesting.{structure}
use Rattle.numbered_walks.proofs.Passing.{header_there}
use Rattle.numbered_walks.proofs.Reaching as R
use Rattle.numbered_walks.proofs.Reaching.{sum_zero}
use Rattle.numbered_walks.proofs.WalkOf as W

module _ (exit : ℕ) (edges : List NumberedEdge) (spans : List Span) (c : Tables) (order : IsOrdered exit edges spans) (found : AreFound exit edges spans c) where
  abbrev bound_of : Span → ℕ
  bound_of s = s.bound

  st : R.Structure edges spans bound_of (distance_of c) (arrival_of c) (round_of c)
  st = structure exit edges spans order bound_of (distance_of c) (arrival_of c) (round_of c)

  abbrev pub below : Option Span → Span → Bool
  below context s = R.below edges spans bound_of (distance_of c) (arrival_of c) (round_of c) context s

  turns : Option Span → NumberedEdge → Bool
  turns context e = R.turns_in edges spans bound_of (distance_of c) (arrival_of c) (round_of c) context e

  -- an edge to a later number of the context turns no round of it
  no_turn : (context : Option Span) (e : NumberedEdge) → start_of context < e.to → R.turns_in edges spans bound_of (distance_of c) (arrival_of c) (round_of c) context e ≡ false
  no_turn None e later = refl
  no_turn (Some k) e later = ne_eqb e.to k.header (λ same. absurd (omega arith))

  -- an instance whose header is a later number of the context lies below it
  pub is_below : (context : Option Span) (s : Span) → holds_in context s.header ≡ true → start_of context < s.header → below context s ≡ true
  is_below None s inside later = refl
  is_below (Some k) s inside later = and_from (is_in k s.header) (not (eqb s.header k.header)) inside (rw (ne_eqb s.header k.header (λ same. absurd (omega arith))) refl)

  -- an edge to a number that is no header
  pub step : (context : Option Span) → InTree spans context → (p k : ℕ) → IsEntering edges spans c p k → holds_in context p ≡ true → start_of context < p → is_header_in spans p ≡ false → (walk : List NumberedEdge) → IsPathTo edges spans c context (edge_at edges k).from walk → IsPathTo edges spans c context p (walk ++ edge_at edges k ∷ [])
  step context here p k by inside later plain walk path =
      let e = edge_at edges k in
      let in_graph : Contains edges e = edge_at-in edges k by.inside in
      let goes_in : holds_in context e.to ≡ true = subst (λ (x : ℕ). holds_in context x ≡ true) (sym by.ends) inside in
      let later_e : start_of context < e.to = omega (arith, by.ends) in
      let number : found_at spans c p ≡ distance_of c p = rw plain refl in
      subst (λ (x : ℕ). IsPathTo edges spans c context x (walk ++ e ∷ [])) by.ends
      (W.by_step edges spans bound_of (distance_of c) (arrival_of c) (round_of c) st context here e in_graph
      (λ j j_in is. both_ways (is_header_in spans p) plain (header_there spans p j j_in (sym by.ends ∙ is)))
      goes_in (no_turn context e later_e) (ap (λ (x : ℕ). distance_of c x) by.ends ∙ sym number ∙ by.asks) (begins_in exit edges spans order context here e in_graph goes_in later_e) walk path)

  -- an edge to a header, and all rounds of its instance
  pub enter : (context : Option Span) → InTree spans context → (p k : ℕ) → IsEntering edges spans c p k → holds_in context p ≡ true → start_of context < p → (s : Span) → Contains spans s → p ≡ s.header → (rounds walk : List NumberedEdge) → AreRoundsOf edges spans c s rounds → IsPathTo edges spans c context (edge_at edges k).from walk → IsPathTo edges spans c context p ((walk ++ edge_at edges k ∷ []) ++ rounds)
  enter context here p k by inside later s s_in is rounds walk all path =
      let e = edge_at edges k in
      let in_graph : Contains edges e = edge_at-in edges k by.inside in
      let goes_in : holds_in context e.to ≡ true = subst (λ (x : ℕ). holds_in context x ≡ true) (sym by.ends) inside in
      let later_e : start_of context < e.to = omega (arith, by.ends) in
      let header : is_header_in spans p ≡ true = header_there spans p s s_in is in
      let number : found_at spans c p ≡ arrival_of c s = rw header (ap (λ (x : ℕ). slice_index c.arrivals.items x) is) in
      subst (λ (x : ℕ). IsPathTo edges spans c context x ((walk ++ e ∷ []) ++ rounds)) by.ends
      (W.by_header edges spans bound_of (distance_of c) (arrival_of c) (round_of c) st context here e s in_graph s_in (by.ends ∙ is)
      (⊎_elim (λ holds_from. absurd (omega (arith, member_header s e.from holds_from, by.up, is))) (λ out. out) (cases_Bool (is_in s e.from)))
      (is_below context s (subst (λ (x : ℕ). holds_in context x ≡ true) is inside) (omega (arith, is)))
      goes_in (no_turn context e later_e) (ap (λ (x : ℕ). distance_of c x) by.ends ∙ found.passed.header_distance p header) (sym number ∙ by.asks)
      (begins_in exit edges spans order context here e in_graph goes_in later_e) rounds walk all path)

  -- a back edge closes a round
  pub turn : (s : Span) → Contains spans s → (k : ℕ) → IsTurning edges spans c s k → (walk : List NumberedEdge) → IsPathTo edges spans c (Some s) (edge_at edges k).from walk → IsRoundOf edges spans c s (walk ++ edge_at edges k ∷ [])
  turn s s_in k by walk path =
      W.by_back edges spans bound_of (distance_of c) (arrival_of c) (round_of c) st s (edge_at edges k) s_in (edge_at-in edges k by.inside)
      (member_from s (edge_at edges k).from by.low by.high) by.ends by.asks walk path

  -- as many rounds as the bound says
  pub rounds : (s : Span) → Contains spans s → (walk : List NumberedEdge) → IsRoundOf edges spans c s walk → AreRoundsOf edges spans c s (repeat s.bound walk)
  rounds s s_in walk one = W.by_repeat edges spans bound_of (distance_of c) (arrival_of c) (round_of c) st s s_in walk one

  -- no round, where a round costs nothing
  pub no_rounds : (s : Span) → round_of c s ≡ 0 → AreRoundsOf edges spans c s []
  no_rounds s none = W.by_none edges spans bound_of (distance_of c) (arrival_of c) (round_of c) s (rw none (omega arith))

  no_terms : (context : Option Span) (p : ℕ) → ((j : Span) → Contains spans j → is_in j p ≡ true → below context j ≡ true → ⊥) → sum_by (λ j. cond (is_in j p && below context j) (arrival_of c j + j.bound * round_of c j) 0) spans ≡ 0
  no_terms context p none = sum_by-same_all (λ j. cond (is_in j p && below context j) (arrival_of c j + j.bound * round_of c j) 0) (λ j. 0) spans
      (λ j j_in. ⊎_elim (λ both. let parts : (is_in j p ≡ true) × (below context j ≡ true) = and_parts (is_in j p) (below context j) both in absurd (none j j_in parts.0 parts.1))
      (λ out. rw out refl) (cases_Bool (is_in j p && below context j)))
      ∙ sum_zero spans

  -- the walk of no edge
  stay : (context : Option Span) (p : ℕ) → start_of context ≡ p → distance_of c p ≡ 0 → ((j : Span) → Contains spans j → is_in j p ≡ true → below context j ≡ true → ⊥) → IsPathTo edges spans c context p []
  stay context p starts zero_here none = (
    record {
      walk = [];
      leads = starts;
      within = refl;
      no_turn = All-nil (λ x. R.turns_in edges spans bound_of (distance_of c) (arrival_of c) (round_of c) context x ≡ false);
      kept = λ j j_in. omega arith;
      cost = omega (arith, no_terms context p none, zero_here);
    },
    refl,
  )

  -- it stays at the header of an instance, ..
  pub at_header : (s : Span) → Contains spans s → IsPathTo edges spans c (Some s) s.header []
  at_header s s_in = stay (Some s) s.header refl (found.passed.header_distance s.header (header_there spans s.header s s_in refl))
      (λ j j_in inside lower. both_ways (is_in j s.header) (st.apart s j s_in j_in lower) inside)

  -- .. and at the entry, where that is no header
  pub at_entry : is_header_in spans 0 ≡ false → IsPathTo edges spans c None 0 []
  at_entry plain =
      let number : found_at spans c 0 ≡ distance_of c 0 = rw plain refl in
      stay None 0 refl (⊎_elim (λ first. sym number ∙ first.1) (λ by. absurd (omega (arith, by.3))) (found.passed.attained 0 (omega arith)))
      (λ j j_in inside lower. both_ways (is_header_in spans 0) plain (header_there spans 0 j j_in (order.entry_at_header j j_in inside)))

  -- at the entry, where that is a header, all rounds of its instance
  pub entry_rounds : (s : Span) → Contains spans s → 0 ≡ s.header → (walk : List NumberedEdge) → AreRoundsOf edges spans c s walk → IsPathTo edges spans c None 0 walk
  entry_rounds s s_in is walk (r, r_is) =
      let header : is_header_in spans 0 ≡ true = header_there spans 0 s s_in is in
      let number : found_at spans c 0 ≡ arrival_of c s = rw header (ap (λ (x : ℕ). slice_index c.arrivals.items x) is) in
      let none : arrival_of c s ≡ 0 = ⊎_elim (λ first. sym number ∙ first.1) (λ by. absurd (omega (arith, by.3))) (found.passed.attained 0 (omega arith)) in (
        record {
          walk = r.walk;
          leads = subst (λ (x : ℕ). Leads edges x r.walk x) (sym is) r.leads;
          within = R.list_all_weaker (is_inside s) (λ x. true) (λ x inside. refl) r.walk r.within;
          no_turn = λ k d small. refl;
          kept = λ j j_in. r.kept j j_in [] (omega arith) (λ same. refl);
          cost =
              let stay_all = λ (j : Span). arrival_of c j + j.bound * round_of c j in
              let terms : sum_by (λ j. cond (is_in j 0 && true) (stay_all j) 0) spans ≡ sum_by (λ j. cond (eqb j.header s.header) (stay_all j) 0) spans =
              sum_by-same_all (λ j. cond (is_in j 0 && true) (stay_all j) 0) (λ j. cond (eqb j.header s.header) (stay_all j) 0) spans
              (λ j j_in. R.start_pick (is_in j 0) (eqb j.header s.header) (stay_all j)
              (λ same. member_from j 0 (omega (arith, eqb-true j.header s.header same)) (omega arith))
              (λ other inside. eqb-false j.header s.header other (sym (order.entry_at_header j j_in inside) ∙ is))) in
              omega (arith, r.cost, terms, st.once stay_all s s_in, found.passed.header_distance 0 header, none);
        },
        r_is,
      )
