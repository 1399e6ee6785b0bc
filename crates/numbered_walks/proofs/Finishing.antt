-- The numbers at the end of the pass meet the rows and yield the greatest bound.
use Rattle.std.proofs.Common.{◌≡◌, ℕ, ◌+◌, ◌^◌, ◌<◌, ◌≤◌, Bool, true, false, cond, not, ◌&&◌, eqb, List, [], ◌∷◌, ◌++◌, ◌⊎◌, ⊎_elim, inl, inr, length, get_or, slice_index, Option, Some, None, All, Contains, sum_by, refl, sym, ap, ◌∙◌, subst, arith}
use Rattle.std.specs.List.{find}
use Rattle.std.specs.Option.{IfSome}
use Rattle.std.proofs.lemmas.List.{get_or_default}
use Rattle.std.proofs.lemmas.Bool.{false≢true, cases_Bool, cases_lt, both_ways, eqb-true, eqb-false, eq-eqb, ne_eqb}
use Rattle.std.proofs.lemmas.List.Elements.{All-contains}
use Rattle.walks.specs.Rows.{limit_at, place_limit}
use Rattle.walks.proofs.SumLe.{sum_by-same_all}
use Rattle.walks.proofs.Joins.{keeps_from_most}
use Rattle.walks.proofs.Leading.{Leads-append}
use Rattle.walks.proofs.RowLemmas.{find_some, walk_to-le}
use Rattle.numbered_walks.specs.declared.span.NumberedEdge.{NumberedEdge}
use Rattle.numbered_walks.specs.declared.span.Span.{Span}
use Rattle.numbered_walks.specs.declared.tables.Tables.{Tables}
use Rattle.numbered_walks.specs.Ordered.{IsOrdered, number_shape, span_loops, Leads, KeepsBounds, IsComplete, IsGreatest, TooLarge, cost_of, is_in, is_inside, ends_at_header}
use Rattle.numbered_walks.specs.Tables.{IsPassed, AllEntered, potentials_of, stay_of, needed, distance_of, arrival_of, round_of, RowsHold, RowsFit, total_of, found_at, is_header_in, is_exit}
use Rattle.numbered_walks.specs.Index.{span_at}
use Rattle.numbered_walks.proofs.Members.{IsReachable, header_in, member_header, member_last, no_span, reachable}
use Rattle.numbered_walks.proofs.Nesting.{same_header}
use Rattle.numbered_walks.proofs.Reaching as R
use Rattle.numbered_walks.proofs.Reaching.{sum_zero}
use Rattle.numbered_walks.proofs.Passing.{reached, header_there}

pub header_find : (tree : List Span) (e : NumberedEdge) → is_header_in tree e.to ≡ true → find (λ i. ends_at_header i e) tree ≡ None → ⊥
header_find [] e is none = false≢true is
header_find (i ∷ tree) e is none =
    elim (eqb e.to i.header) as (λ v. eqb e.to i.header ≡ v → cond v (Some i) (find (λ j. ends_at_header j e) tree) ≡ None → ⊥) [
      | true ↦ λ here found. absurd cc
      | false ↦ λ other found.
          let apart : eqb i.header e.to ≡ false = ne_eqb i.header e.to (λ same. eqb-false e.to i.header other (sym same)) in
          let rest : is_header_in tree e.to ≡ true = subst (λ (b : Bool). cond b true (is_header_in tree e.to) ≡ true) apart is in
          header_find tree e rest found
    ] refl none

module _ (exit : ℕ) (edges : List NumberedEdge) (tree : List Span) (c : Tables) (order : IsOrdered exit edges tree) (pass : IsPassed edges tree (length tree) (exit + 1) c) (closes : c.bound ≡ distance_of c exit) where
  abbrev pub Fits : NumberedEdge → Option ℕ → Type 0
  Fits e o = IfSome o (λ n. needed tree c e ≤ n) × IfSome o (λ _. needed tree c e < 2 ^ 63)

  back_fits : (e : NumberedEdge) (b : ℕ) (r : ℕ) → (0 < b → (needed tree c e ≤ r) × (needed tree c e < 2 ^ 63)) → Fits e (cond (eqb b 0) None (Some r))
  back_fits e b r row =
      elim (eqb b 0) as (λ v. eqb b 0 ≡ v → Fits e (cond v None (Some r))) [
        | true ↦ λ none. (tt, tt)
        | false ↦ λ some. row (⊎_elim (λ positive. positive) (λ zero_is. absurd (eqb-false b 0 some (omega arith))) (cases_lt 0 b))
      ] refl

  exit_pick : (b : Bool) (m n : ℕ) → (b ≡ true → m ≡ n) → cond {A = ℕ} b m n ≡ n
  exit_pick true m n same = same refl
  exit_pick false m n same = refl

  edge_up : (e : NumberedEdge) → Contains edges e → ((i : Span) → Contains tree i → is_in i e.from ≡ true → e.to ≡ i.header → ⊥) → e.from < e.to
  edge_up e in_graph none = ⊎_elim (λ up. up) (λ b. absurd (none b.0 b.1 b.2 b.3)) (order.goes_up e in_graph)

  up_row : (e : NumberedEdge) → Contains edges e → e.from < e.to → (needed tree c e ≤ found_at tree c e.to) × (needed tree c e < 2 ^ 63)
  up_row e in_graph up = pass.rows e in_graph up (omega (arith, (order.places e in_graph).1))

  row_at : (e : NumberedEdge) → Contains edges e → (o : Option Span) → find (λ i. ends_at_header i e) tree ≡ o → Fits e (limit_at number_shape span_loops tree (potentials_of c) (is_exit exit) e o)
  row_at e in_graph None is =
      let no_header : is_header_in tree e.to ≡ false = ⊎_elim (λ header. absurd (header_find tree e header is)) (λ other. other) (cases_Bool (is_header_in tree e.to)) in
      let up : e.from < e.to = edge_up e in_graph (λ i i_in holds to_header. both_ways (is_header_in tree e.to) no_header (header_there tree e.to i i_in to_header)) in
      let row = up_row e in_graph up in
      let number : found_at tree c e.to ≡ distance_of c e.to = rw no_header refl in
      let limit : place_limit number_shape span_loops tree (potentials_of c) (is_exit exit) e ≡ distance_of c e.to = exit_pick (eqb e.to exit) c.bound (distance_of c e.to) (λ at_exit. closes ∙ ap (λ (p : ℕ). distance_of c p) (sym (eqb-true e.to exit at_exit))) in
      (omega (arith, row.0, number, limit), row.1)
  row_at e in_graph (Some i) is =
      let found = find_some (λ j. ends_at_header j e) tree i is in
      let to_header : e.to ≡ i.header = eqb-true e.to i.header found.1 in
      elim (is_in i e.from) as (λ v. is_in i e.from ≡ v → Fits e (cond v (cond (eqb i.bound 0) None (Some (round_of c i))) (Some (arrival_of c i)))) [
        | true ↦ λ inside.
            let n = found.0.0 in
            let at_n : span_at tree n ≡ i = sym (get_or_default tree n i no_span found.0.1) ∙ found.0.2 in
            back_fits e i.bound (round_of c i) (λ some.
            let low : i.header ≤ e.from = member_header i e.from inside in
            let row = pass.round_rows n found.0.1 (subst (λ (x : Span). 0 < x.bound) (sym at_n) some) e in_graph (to_header ∙ ap (λ (x : Span). x.header) (sym at_n)) (omega arith) in
            (subst (λ (x : Span). needed tree c e ≤ round_of c x) at_n row.1, row.2))
        | false ↦ λ outside.
            let up : e.from < e.to = edge_up e in_graph (λ j j_in holds to_j.
            let same : j ≡ i = same_header tree order.headers_differ j i j_in found.0 (sym to_j ∙ to_header) in
            both_ways (is_in i e.from) outside (subst (λ (x : Span). is_in x e.from ≡ true) same holds)) in
            let row = up_row e in_graph up in
            let header : is_header_in tree e.to ≡ true = header_there tree e.to i found.0 to_header in
            let number : found_at tree c e.to ≡ arrival_of c i = rw header (ap (λ (p : ℕ). slice_index c.arrivals.items p) to_header) in
            (omega (arith, row.0, number), row.1)
      ] refl

  pub rows_fit : RowsFit exit edges tree (potentials_of c)
  rows_fit e in_graph = (row_at e in_graph (find (λ i. ends_at_header i e) tree) refl).1

  pub rows_hold : RowsHold exit edges tree (potentials_of c)
  rows_hold e in_graph = (row_at e in_graph (find (λ i. ends_at_header i e) tree) refl).0

  headers : (i : Span) → Contains tree i → (p : ℕ) → eqb p i.header ≡ true → is_in i p ≡ true
  headers i i_in p is = subst (λ (x : ℕ). is_in i x ≡ true) (sym (eqb-true p i.header is)) (header_in exit edges tree order i i_in)

  exit_outside : (i : Span) → Contains tree i → (p : ℕ) → eqb p exit ≡ true → is_in i p ≡ false
  exit_outside i i_in p is = ⊎_elim (λ holds. absurd (omega (arith, member_last i p holds, (order.shape i i_in).1, eqb-true p exit is))) (λ out. out) (cases_Bool (is_in i p))

  exit_last : (e : NumberedEdge) → Contains edges e → eqb e.from exit ≡ false
  exit_last e in_graph = ne_eqb e.from exit (λ is. absurd (omega (arith, (order.places e in_graph).0)))

  -- what the greatest walk to the number costs at most
  walk-le : (q : ℕ) (walk : List NumberedEdge) → Leads edges 0 walk q → KeepsBounds tree walk → cost_of walk ≤ total_of tree c q
  walk-le q walk leads keeps =
      let at_q : cond {A = ℕ} (eqb q exit) c.bound (distance_of c q) ≡ distance_of c q = exit_pick (eqb q exit) c.bound (distance_of c q) (λ at_exit. closes ∙ ap (λ (p : ℕ). distance_of c p) (sym (eqb-true q exit at_exit))) in
      omega (arith, at_q, walk_to-le number_shape span_loops (is_exit exit) (Contains edges) tree (potentials_of c) headers exit_outside exit_last rows_hold 0 q walk leads keeps)

  always : (b : Bool) (n : ℕ) → cond {A = ℕ} (b && true) n 0 ≡ cond b n 0
  always true n = refl
  always false n = refl

  -- a walk to a number that takes all its rounds costs its total, and keeps the bounds
  pub reach_costs : (p : ℕ) (r : R.Reach edges tree (λ i. i.bound) (distance_of c) (arrival_of c) (round_of c) None p) → cost_of r.walk ≡ total_of tree c p
  reach_costs p r =
      let sums : sum_by (λ i. cond (is_in i p && true) (stay_of c i) 0) tree ≡ sum_by (λ i. cond (is_in i p) (stay_of c i) 0) tree =
      sum_by-same_all (λ i. cond (is_in i p && true) (stay_of c i) 0) (λ i. cond (is_in i p) (stay_of c i) 0) tree (λ i i_in. always (is_in i p) (stay_of c i)) in
      omega (arith, r.cost, sums)

  pub reach_keeps : (p : ℕ) (r : R.Reach edges tree (λ i. i.bound) (distance_of c) (arrival_of c) (round_of c) None p) → KeepsBounds tree r.walk
  reach_keeps p r = λ i i_in. keeps_from_most (is_inside i) (ends_at_header i) i.bound r.walk (r.kept i i_in)

  -- a walk to the number that keeps the bounds and costs its total
  pub record WalkTo (p : ℕ) : Type 0 where
    pub walk : List NumberedEdge
    pub leads : Leads edges 0 walk p
    pub kept : KeepsBounds tree walk
    pub costs : cost_of walk ≡ total_of tree c p

  pub walk_to : (p : ℕ) → p < exit + 1 → WalkTo p
  walk_to p placed =
      let r : R.Reach edges tree (λ i. i.bound) (distance_of c) (arrival_of c) (round_of c) None p = reached exit edges tree (length tree) (exit + 1) c order pass (omega arith) (λ i. i.bound) (distance_of c) (λ x. refl) (λ x. refl) p placed in
      record { walk = r.walk; leads = r.leads; kept = reach_keeps p r; costs = reach_costs p r }

  pub total-exit : total_of tree c exit ≡ c.bound
  total-exit =
      let none : sum_by (λ i. cond (is_in i exit) (stay_of c i) 0) tree ≡ sum_by (λ i. 0) tree =
      sum_by-same_all (λ i. cond (is_in i exit) (stay_of c i) 0) (λ i. 0) tree (λ i i_in. rw (exit_outside i i_in exit (eq-eqb exit exit refl)) refl) in
      omega (arith, none, sum_zero tree, closes)

  -- no walk to a number that keeps the bounds costs more than its total, and one costs as much
  pub greatest_to : (p : ℕ) → p < exit + 1 → IsGreatest p edges tree (total_of tree c p)
  greatest_to p placed =
      let w : WalkTo p = walk_to p placed in
      record {
        walk = w.walk;
        complete = w.leads;
        kept = w.kept;
        costs = w.costs;
        upper = λ other leads keeps. walk-le p other leads keeps;
      }

  pub is_greatest : IsGreatest exit edges tree c.bound
  is_greatest = subst (λ (n : ℕ). IsGreatest exit edges tree n) total-exit (greatest_to exit (omega arith))

  end_within : (p q : ℕ) (walk : List NumberedEdge) → p < exit + 1 → Leads edges p walk q → q < exit + 1
  end_within p q [] small is = omega arith
  end_within p q (e ∷ rest) small (in_graph, starts, leads) = end_within e.to q rest (omega (arith, (order.places e in_graph).1)) leads

  pub none_too_large : ((p : ℕ) → p < exit + 1 → total_of tree c p < 2 ^ 63) → TooLarge exit edges tree → ⊥
  none_too_large small over =
      let placed : over.place < exit + 1 = end_within 0 over.place over.walk (omega arith) over.leads in
      absurd (omega (arith, walk-le over.place over.walk over.leads over.kept, over.costs, small over.place placed))

  pub total_over : (p : ℕ) → p < exit + 1 → 2 ^ 63 ≤ total_of tree c p → TooLarge exit edges tree
  total_over p placed over =
      let w : WalkTo p = walk_to p placed in
      record { place = p; walk = w.walk; leads = w.leads; kept = w.kept; costs = omega (arith, w.costs) }

way_pick : (x y : Bool) (s : ℕ) → y ≡ false → cond {A = ℕ} (x && not y) s 0 ≡ cond x s 0
way_pick true y s is = rw is refl
way_pick false y s is = refl

-- an edge of no cost to Exit needs what the greatest walk costs
pub total-needed : (tree : List Span) (c : Tables) (exit place : ℕ) → All (λ i. i.last < exit) tree → needed tree c (record { from = place; to = exit; cost = 0 }) ≡ total_of tree c place
total-needed tree c exit place ended =
    let sums : sum_by (λ i. cond (is_in i place && not (is_in i exit)) (stay_of c i) 0) tree ≡ sum_by (λ i. cond (is_in i place) (stay_of c i) 0) tree =
    sum_by-same_all (λ i. cond (is_in i place && not (is_in i exit)) (stay_of c i) 0) (λ i. cond (is_in i place) (stay_of c i) 0) tree
    (λ i i_in. way_pick (is_in i place) (is_in i exit) (stay_of c i) (⊎_elim (λ holds. absurd (omega (arith, member_last i exit holds, All-contains (λ j. j.last < exit) tree i ended i_in))) (λ out. out) (cases_Bool (is_in i exit)))) in
    omega (arith, sums)

last_edge : (edges : List NumberedEdge) (p q : ℕ) (walk : List NumberedEdge) → Leads edges p walk q → (p ≡ q) ⊎ ((e : NumberedEdge) × Contains edges e × (e.to ≡ q))
last_edge edges p q [] is = inl is
last_edge edges p q (e ∷ rest) (in_graph, starts, leads) =
    ⊎_elim (λ same. inr (e, in_graph, same)) (λ later. inr later) (last_edge edges e.to q rest leads)

module _ (exit : ℕ) (edges : List NumberedEdge) (tree : List Span) (order : IsOrdered exit edges tree) where
  -- with no edge to Exit there is no complete walk
  pub none_complete : ((e : NumberedEdge) × Contains edges e × (e.to ≡ exit) → ⊥) → (walk : List NumberedEdge) → IsComplete exit edges walk → ⊥
  none_complete none walk complete =
      ⊎_elim (λ same. absurd (omega (arith, order.some))) (λ last. none last) (last_edge edges 0 exit walk complete)

  -- an edge to Exit goes up
  pub exit_entered : (e : NumberedEdge) × Contains edges e × (e.to ≡ exit) → AllEntered edges (exit + 1)
  exit_entered (e, in_graph, to_exit) = λ p some small.
      ⊎_elim
      (λ before. order.entered_up p some before)
      (λ last. (e, in_graph, omega (arith, to_exit), omega (arith, (order.places e in_graph).0)))
      (cases_lt p exit)

  pub complete_walk : (e : NumberedEdge) × Contains edges e × (e.to ≡ exit) → IsReachable edges exit
  complete_walk (e, in_graph, to_exit) =
      let before : IsReachable edges e.from = reachable exit edges tree order e.from (order.places e in_graph).0 in
      (before.0 ++ e ∷ [], Leads-append number_shape (Contains edges) 0 e.from exit before.0 (e ∷ []) before.1 (in_graph, refl, to_exit))

-- nothing is found yet
pub none_passed : (edges : List NumberedEdge) (tree : List Span) (c : Tables) → ((p : ℕ) → slice_index c.distances.items p ≡ 0) → ((p : ℕ) → slice_index c.rounds.items p ≡ 0) → IsPassed edges tree 0 0 c
none_passed edges tree c distances rounds = record {
  closed = λ n small. absurd (omega arith);
  later_distance = λ p later. distances p;
  header_distance = λ p header. distances p;
  later_round = λ n later inside. rounds (span_at tree n).header;
  rows = λ e in_graph up small. absurd (omega arith);
  round_rows = λ n small. absurd (omega arith);
  round_zero = λ n small. absurd (omega arith);
  attained = λ p small. absurd (omega arith);
  round_attained = λ n small. absurd (omega arith);
}

-- the tables with this bound
abbrev pub bounded : ℕ → Tables → Tables
bounded b c = record { bound = b; distances = c.distances; arrivals = c.arrivals; rounds = c.rounds }

-- the bound is no part of what the pass finds
pub with_bound : (edges : List NumberedEdge) (tree : List Span) (k q b : ℕ) (c : Tables) → IsPassed edges tree k q c → IsPassed edges tree k q (bounded b c)
with_bound edges tree k q b c pass = record {
  closed = pass.closed;
  later_distance = pass.later_distance;
  header_distance = pass.header_distance;
  later_round = pass.later_round;
  rows = pass.rows;
  round_rows = pass.round_rows;
  round_zero = pass.round_zero;
  attained = pass.attained;
  round_attained = pass.round_attained;
}

-- what the pass found, bounded by what is at Exit
pub record IsClosed (exit : ℕ) (edges : List NumberedEdge) (tree : List Span) (c : Tables) : Type 0 where
  pub passed : IsPassed edges tree (length tree) (exit + 1) c
  pub closes : c.bound ≡ distance_of c exit

pub closed_at_exit : (exit : ℕ) (edges : List NumberedEdge) (tree : List Span) (c : Tables) (b : ℕ) → b ≡ get_or c.distances.items exit b → length c.distances.items ≡ exit + 1 → IsPassed edges tree (length tree) (exit + 1) c → IsClosed exit edges tree (bounded b c)
closed_at_exit exit edges tree c b at whole pass = record {
  passed = with_bound edges tree (length tree) (exit + 1) b c pass;
  closes = at ∙ get_or_default c.distances.items exit b 0 (omega (arith, whole));
}
