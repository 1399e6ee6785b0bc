-- Nodes hold each number once, and edges lead to nodes.
use Rattle.std.proofs.Common.{◌≡◌, ◌∙◌, ℕ, suc, ◌+◌, ◌-◌, ◌<◌, ◌≤◌, inl, inr, ⊎_elim, Bool, true, false, ◌&&◌, not, cond, eqb, List, ◌∷◌, ◌++◌, [], length, take, take-take, get_or, refl, sym, ap, subst, arith}
use Rattle.std.specs.Prelude.{Contains, count_by, nat_lt}
use Rattle.std.specs.List.{range_with_len}
use Rattle.std.proofs.lemmas.Bool.{and_parts, cases_Bool, cases_lt, eq-eqb, eqb-true}
use Rattle.std.proofs.lemmas.Bool.Decides.{nat_tests}
use Rattle.std.proofs.lemmas.List.{get_or_default}
use Rattle.std.proofs.lemmas.List.Elements.{All-get_or}
use Rattle.std.proofs.lemmas.List.FromFn.{get_or-range_with_len, length-range_with_len}
use Rattle.std.proofs.lemmas.List.Sums.{count_by_more_yes, sum_by-take-le}
use Rattle.control_flow.specs.Flow.{Flow, IsWellFormed}
use Rattle.control_flow.specs.Places.{place_at}
use Rattle.control_flow.specs.declared.places.Place.TheVariants.{Exit}
use Rattle.control_flow.proofs.Firsts.{no_edge, part_fits}
use Rattle.loop_bounds.specs.Tree.{IsTree, Tree, end_edge, first_edge, place_in}
use Rattle.loop_bounds.proofs.Positions.{places_once}
use Rattle.longest_walk.proofs.CarryWalks.{edge_same, number_is}
use Rattle.numbered_walks.specs.Index.{edge_at}
use Rattle.numbered_walks.specs.declared.span.NumberedEdge.{NumberedEdge}
use Rattle.walk_counts.proofs.SumLemmas.{range_push}
use Rattle.text_graph.specs.Chains.{last_in}
use Rattle.text_graph.specs.Nodes.{HoldEachOnce, LeadToNodes}
use Rattle.text_graph.specs.Stretches.{AreNumbers, are_together, arrivals, between, end_of, is_begin, is_only_way, leads_on, stretch_from}
use Rattle.text_graph.proofs.ChainLaws.{all_below, begin_or_next, chain_ends, chain_inside, chain_some, once}

-- ## Ranges

pub first_more : (n : ℕ) → range_with_len 0 (suc n) ≡ range_with_len 0 n ++ n ∷ []
first_more n = let is : 0 + n ≡ n = omega arith in range_push n 0 ∙ ap (λ k. range_with_len 0 n ++ k ∷ []) is

within : (first end k : ℕ) → Contains (between first end) k → (first ≤ k) × (k < end)
within first end k has =
    let lt : has.0 < length (between first end) = has.1 in
    let few : has.0 < end - first = omega (arith, lt, length-range_with_len first (end - first)) in
    let is : first + has.0 ≡ k = sym (get_or-range_with_len first (end - first) has.0 k few) ∙ has.2 in
    (omega (arith, is), omega (arith, is, few))

-- ## One alone

pub one_alone : {X : Type 0} (p : X → Bool) (xs : List X) (d : X) (i j : ℕ) → count_by p xs ≡ 1 → i < length xs → j < length xs → p (get_or xs i d) ≡ true → p (get_or xs j d) ≡ true → i ≡ j
one_alone p xs d i j one i_in j_in at_i at_j = ⊎_elim
    (λ (less : i < j). absurd (apart i j less i_in j_in at_i at_j))
    (λ (le : j ≤ i). ⊎_elim (λ (more : j < i). absurd (apart j i more j_in i_in at_j at_i)) (λ (ge : i ≤ j). omega (arith, le, ge)) (cases_lt j i))
    (cases_lt i j)
  where
    counts_up : (k l : ℕ) → k ≤ l → count_by p (take k xs) ≤ count_by p (take l xs)
    counts_up k l le = omega (arith, sum_by-take-le (λ x. cond (p x) 1 0) (take l xs) k, ap (count_by p) (take-take k l xs le))

    apart : (k l : ℕ) → k < l → k < length xs → l < length xs → p (get_or xs k d) ≡ true → p (get_or xs l d) ≡ true → ⊥
    apart k l less k_in l_in at_k at_l =
        let up : count_by p (take (k + 1) xs) ≤ count_by p (take l xs) = counts_up (k + 1) l (omega (arith, less)) in
        omega (arith, one, count_by_more_yes p xs k d k_in at_k, count_by_more_yes p xs l d l_in at_l, sum_by-take-le (λ x. cond (p x) 1 0) xs (l + 1), up)

-- what it says that the stretch of a number goes on
pub record Way (flow : Flow) (tree : Tree) (n : ℕ) : Type 0 where
  pub one : end_edge flow tree n - first_edge flow tree n ≡ 1
  pub alone : arrivals flow tree (end_of flow tree n) ≡ 1
  pub no_entry : end_of flow tree n ≡ 0 → ⊥
  pub inside : end_of flow tree n < length flow.places
  pub together : are_together flow tree n (end_of flow tree n) ≡ true

pub way : (flow : Flow) (tree : Tree) (n : ℕ) → leads_on flow tree n ≡ true → Way flow tree n
way flow tree n on =
    let e = end_of flow tree n in
    let both = and_parts (is_only_way flow tree n) (are_together flow tree n e) on in
    let ways = and_parts (eqb (end_edge flow tree n - first_edge flow tree n) 1) (eqb (arrivals flow tree e) 1 && (not (eqb e 0) && nat_lt e (length flow.places))) both.0 in
    let ends = and_parts (eqb (arrivals flow tree e) 1) (not (eqb e 0) && nat_lt e (length flow.places)) ways.1 in
    let last = and_parts (not (eqb e 0)) (nat_lt e (length flow.places)) ends.1 in
    let inside : e < length flow.places = grind (arith, nat_tests, last.1) in
    record {
      one = eqb-true (end_edge flow tree n - first_edge flow tree n) 1 ways.0;
      alone = eqb-true (arrivals flow tree e) 1 ends.0;
      no_entry = λ is. let no : false ≡ true = sym (ap not (eq-eqb e 0 is)) ∙ last.0 in absurd cc;
      inside = inside;
      together = both.1;
    }

-- what is made of a stretch by its list
pub are_numbers : (flow : Flow) (tree : Tree) (n : ℕ) (ns : List ℕ) → n < length flow.places → ns ≡ stretch_from flow tree n → AreNumbers flow ns
are_numbers flow tree n ns n_in is = subst (AreNumbers flow) (sym is) (record {
  some = chain_some (leads_on flow tree) (end_of flow tree) (length flow.places) n (omega (arith, n_in));
  inside = λ i lt.
      All-get_or (λ j. j < length flow.places) (stretch_from flow tree n) i 0 lt
      (chain_inside (leads_on flow tree) (end_of flow tree) (length flow.places) (λ j j_lt on. (way flow tree j on).inside) (length flow.places) n n_in);
})

module _ (flow : Flow) (tree : Tree) (well : IsWellFormed flow) (t : IsTree flow tree) where
  -- ## Edges

  -- one edge leaves one number alone
  one_number : (m n k : ℕ) → m < length flow.places → n < length flow.places → first_edge flow tree m ≤ k → k < end_edge flow tree m → first_edge flow tree n ≤ k → k < end_edge flow tree n → m ≡ n
  one_number m n k m_in n_in m_low m_high n_low n_high =
      let u = get_or tree.order m 0 in
      let v = get_or tree.order n 0 in
      let same : u ≡ v = places_once flow.places well.ordered u v Exit (t.inside m m_in) (t.inside n n_in)
      (sym (well.part u k no_edge (t.inside m m_in) m_low m_high) ∙ well.part v k no_edge (t.inside n n_in) n_low n_high) in
      let whole : length tree.order ≡ length flow.places + 1 = t.whole in
      ⊎_elim
      (λ (less : m < n). absurd (t.distinct m n less (omega (arith, n_in, whole)) same))
      (λ (le : n ≤ m). ⊎_elim (λ (more : n < m). absurd (t.distinct n m more (omega (arith, m_in, whole)) (sym same))) (λ (ge : m ≤ n). omega (arith, le, ge)) (cases_lt n m))
      (cases_lt m n)

  pub edge_in : (n k : ℕ) → n < length flow.places → k < end_edge flow tree n → k < length tree.edges
  edge_in n k n_in high =
      let fits : end_edge flow tree n ≤ length flow.edges = part_fits flow well (get_or tree.order n 0) (t.inside n n_in) in
      let same : length tree.edges ≡ length flow.edges = t.numbered.same in
      omega (arith, high, fits, same)

  -- the edge that alone leads to a number
  pub led_alone : (n j k : ℕ) → arrivals flow tree n ≡ 1 → j < length tree.edges → k < length tree.edges → (edge_at tree.edges j).to ≡ n → (edge_at tree.edges k).to ≡ n → j ≡ k
  led_alone n j k alone j_in k_in j_to k_to =
      one_alone (λ e. eqb e.to n) tree.edges (record { from = 0; to = 0; cost = 0 }) j k alone j_in k_in (eq-eqb (edge_at tree.edges j).to n j_to) (eq-eqb (edge_at tree.edges k).to n k_to)

  -- the place of a number, by its position
  pub at_place : (n : ℕ) → n < length flow.places → place_in flow tree n ≡ place_at flow.places (get_or tree.order n 0)
  at_place n n_in =
      let whole : length tree.order ≡ length flow.places + 1 = t.whole in
      ap (place_at flow.places) (get_or_default tree.order n (length flow.places) 0 (omega (arith, n_in, whole)))

  -- an edge leaves the number of its range
  pub leaves : (n k : ℕ) → n < length flow.places → first_edge flow tree n ≤ k → k < end_edge flow tree n → (edge_at tree.edges k).from ≡ n
  leaves n k n_in low high =
      let k_in = edge_in n k n_in high in
      let same : length tree.edges ≡ length flow.edges = t.numbered.same in
      let e = edge_same flow tree well t k (omega (arith, k_in, same)) in
      let le : (edge_at tree.edges k).from ≤ length flow.places = omega (arith, e.from_in) in
      number_is flow tree well t (edge_at tree.edges k).from n le (omega (arith, n_in))
      (e.from_is ∙ well.part (get_or tree.order n 0) k no_edge (t.inside n n_in) low high ∙ sym (at_place n n_in))

  -- ## Where stretches go on

  abbrev pub exit : ℕ
  exit = length flow.places

  first_in_range : (n : ℕ) → Way flow tree n → n < exit → first_edge flow tree n < end_edge flow tree n
  first_in_range n w n_in = omega (arith, w.one)

  pub up : (n : ℕ) → n < length flow.places → leads_on flow tree n ≡ true → (n < end_of flow tree n) × (end_of flow tree n < length flow.places)
  up n n_in on =
      let w = way flow tree n on in
      let k = first_edge flow tree n in
      let high = first_in_range n w n_in in
      let k_in = edge_in n k n_in high in
      let no_entry : end_of flow tree n ≡ 0 → ⊥ = w.no_entry in
      let some : 0 < end_of flow tree n = ⊎_elim (λ (lt : 0 < end_of flow tree n). lt) (λ (le : end_of flow tree n ≤ 0). absurd (no_entry (omega (arith, le)))) (cases_lt 0 (end_of flow tree n)) in
      let e = t.ordered.entered_up (end_of flow tree n) some w.inside in
      let at : edge_at tree.edges e.1.0 ≡ e.0 = get_or_default tree.edges e.1.0 (record { from = 0; to = 0; cost = 0 }) e.0 e.1.1 ∙ e.1.2 in
      let same : e.1.0 ≡ k = led_alone (end_of flow tree n) e.1.0 k w.alone e.1.1 k_in (ap (λ (x : NumberedEdge). x.to) at ∙ e.2) refl in
      let lower : (e.0).from < end_of flow tree n = e.3 in
      let from : (e.0).from ≡ n = sym (ap (λ (x : NumberedEdge). x.from) at) ∙ ap (λ j. (edge_at tree.edges j).from) same ∙ leaves n k n_in (omega arith) high in
      (omega (arith, lower, from), w.inside)

  pub apart : (m n : ℕ) → m < length flow.places → n < length flow.places → leads_on flow tree m ≡ true → leads_on flow tree n ≡ true → end_of flow tree m ≡ end_of flow tree n → m ≡ n
  apart m n m_in n_in m_on n_on same =
      let v = way flow tree m m_on in
      let w = way flow tree n n_on in
      let m_high = first_in_range m v m_in in
      let n_high = first_in_range n w n_in in
      let at : first_edge flow tree m ≡ first_edge flow tree n = led_alone (end_of flow tree n) (first_edge flow tree m) (first_edge flow tree n) w.alone (edge_in m (first_edge flow tree m) m_in m_high) (edge_in n (first_edge flow tree n) n_in n_high) same refl in
      one_number m n (first_edge flow tree m) m_in n_in (omega arith) m_high (omega (arith, at)) (omega (arith, at, n_high))

  -- ## Nodes

  pub each_once : HoldEachOnce flow tree
  each_once = record {
    once = once (leads_on flow tree) (end_of flow tree) exit up apart;
    others = all_below (leads_on flow tree) (end_of flow tree) exit up apart;
  }

  -- the last number of a stretch, which does not go on
  pub last_ends : (n : ℕ) → n < length flow.places → (leads_on flow tree (last_in (stretch_from flow tree n)) ≡ false) × (last_in (stretch_from flow tree n) < length flow.places)
  last_ends n n_in = chain_ends (leads_on flow tree) (end_of flow tree) exit up exit n n_in (omega arith)

  pub lead_to_nodes : LeadToNodes flow tree
  lead_to_nodes n k n_in first has =
      let l = last_in (stretch_from flow tree n) in
      let ends = last_ends n n_in in
      let l_in : l < exit = ends.1 in
      let inside = within (first_edge flow tree l) (end_edge flow tree l) k has in
      let to = (edge_at tree.edges k).to in
      let k_in = edge_in l k l_in inside.1 in
      let le : to ≤ exit = (t.ordered.places (edge_at tree.edges k) (k, k_in, get_or_default tree.edges k (edge_at tree.edges k) (record { from = 0; to = 0; cost = 0 }) k_in)).1 in
      ⊎_elim
      (λ (lt : to < exit). inr (
        lt,
        elim (cases_Bool (is_begin flow tree to)) [
          | inl on ↦ on
          | inr off ↦
              let w = begin_or_next (leads_on flow tree) (end_of flow tree) exit to off in
              let v = way flow tree w.0 w.2 in
              let high = first_in_range w.0 v w.1 in
              let j = first_edge flow tree w.0 in
              let alone : arrivals flow tree to ≡ 1 = ap (arrivals flow tree) (sym w.3) ∙ v.alone in
              let at : k ≡ j = led_alone to k j alone k_in (edge_in w.0 j w.1 high) refl w.3 in
              let same : l ≡ w.0 = one_number l w.0 k l_in w.1 inside.0 inside.1 (omega (arith, at)) (omega (arith, at, high)) in
              let no : false ≡ true = sym ends.0 ∙ ap (leads_on flow tree) same ∙ w.2 in
              absurd cc
        ],
      ))
      (λ (ge : exit ≤ to). inl (omega (arith, le, ge)))
      (cases_lt to exit)
