-- The ticks of all nodes are what the walk costs.
use Rattle.std.proofs.Common.{◌≡◌, ◌∙◌, ℕ, zero, suc, ◌+◌, ◌-◌, ◌*◌, ◌^◌, ◌<◌, ◌≤◌, ⊎_elim, true, false, cond, eqb, if◌then◌else◌, List, [], ◌∷◌, ◌++◌, length, get_or, refl, sym, ap, subst, arith}
use Rattle.std.specs.Prelude.{count_by, sum_by}
use Rattle.std.specs.List.{range_with_len}
use Rattle.std.proofs.lemmas.Bool.{cases_lt, eq-eqb, ne_eqb}
use Rattle.std.proofs.lemmas.List.Elements.{All-from_get_or, All-get_or}
use Rattle.std.proofs.lemmas.List.FromFn.{get_or-range_with_len, length-range_with_len}
use Rattle.std.proofs.lemmas.List.Sums.{sum_by-append, sum_by-cons, sum_by_push}
use Rattle.control_flow.specs.Flow.{Flow, IsWellFormed}
use Rattle.loop_bounds.specs.Tree.{IsTree, Tree}
use Rattle.longest_walk.specs.Built.{step_at}
use Rattle.longest_walk.specs.Folded.{unfolded}
use Rattle.longest_walk.specs.Longest.{IsWalkOf}
use Rattle.longest_walk.specs.declared.folded.Item.{Item}
use Rattle.walk_counts.specs.Counts.{AreCounts, capped, counted_cost}
use Rattle.walk_counts.proofs.CountLemmas.{total}
use Rattle.walk_counts.proofs.SumLemmas.{picked, same_sums, sums_by_number}
use Rattle.text_graph.specs.Nodes.{all_numbers, all_ticks, node_ticks, numbers_in}
use Rattle.text_graph.specs.Stretches.{between, edge_ticks, is_begin, leaving, stretch_from, stretch_ticks, ticks}
use Rattle.text_graph.proofs.ChainLaws.{sum_by-flat_map}
use Rattle.text_graph.proofs.NodeLaws.{each_once, first_more}

-- ## Ranges

range_join : (a m n : ℕ) → range_with_len a m ++ range_with_len (a + m) n ≡ range_with_len a (m + n)
range_join a zero n = let is : a + 0 ≡ a = omega arith in let whole : n ≡ 0 + n = omega arith in (λ i. range_with_len (is i) (whole i))
range_join a (suc m) n =
    let is : a + suc m ≡ a + 1 + m = omega arith in
    let whole : suc (m + n) ≡ suc m + n = omega arith in
    ap (λ b. a ∷ range_with_len (a + 1) m ++ range_with_len b n) is ∙ ap (λ ks. a ∷ ks) (range_join (a + 1) m n) ∙ ap (range_with_len a) whole

between_join : (a b c : ℕ) → a ≤ b → b ≤ c → between a b ++ between b c ≡ between a c
between_join a b c low high =
    let is : b ≡ a + (b - a) = omega arith in
    let whole : b - a + (c - b) ≡ c - a = omega arith in
    ap (λ k. between a b ++ range_with_len k (c - b)) is ∙ range_join a (b - a) (c - b) ∙ ap (range_with_len a) whole

-- parts that follow on one another
parts_sum : (first : ℕ → ℕ) (g : ℕ → ℕ) (n : ℕ) → first 0 ≡ 0 → ((v : ℕ) → v < n → first v ≤ first (v + 1))
    → (sum_by (λ v. sum_by g (between (first v) (first (v + 1)))) (range_with_len 0 n) ≡ sum_by g (between 0 (first n)))
parts_sum first g zero starts rises = ap (λ k. sum_by g (between 0 k)) (sym starts)
parts_sum first g (suc n) starts rises =
    let part = λ (v : ℕ). sum_by g (between (first v) (first (v + 1))) in
    let is : n + 1 ≡ suc n = omega arith in
    let here : first n ≤ first (n + 1) = rises n (omega arith) in
    ap (sum_by part) (first_more n) ∙ sum_by_push part (range_with_len 0 n) n
    ∙ ap (λ s. s + part n) (parts_sum first g n starts (λ v lt. rises v (omega arith)))
    ∙ sym (sum_by-append g (between 0 (first n)) (between (first n) (first (n + 1))))
    ∙ ap (sum_by g) (between_join 0 (first n) (first (n + 1)) (omega arith) here) ∙ ap (λ k. sum_by g (between 0 (first k))) is

-- ## Orders

-- each number below another is at one place below it
module _ (at : ℕ → ℕ) (n : ℕ) (inside : (k : ℕ) → k < n → at k < n) (all : (v : ℕ) → v < n → (k : ℕ) × (k < n) × (at k ≡ v))
    (distinct : (j k : ℕ) → j < n → k < n → at j ≡ at k → j ≡ k) where
  once : (v : ℕ) → v < n → count_by (λ k. eqb (at k) v) (range_with_len 0 n) ≡ 1
  once v lt =
      let w = all v lt in
      let j = w.0 in
      same_sums (λ k. cond (eqb (at k) v) 1 0) (λ k. cond (eqb j k) 1 0 * 1) n 0 (λ k low high. same j w.1 w.2 k (omega arith))
      ∙ picked j (λ k. 1) n 0 (omega arith) (omega (arith, w.1))
    where
      same : (j : ℕ) → j < n → at j ≡ v → (k : ℕ) → k < n → cond (eqb (at k) v) 1 0 ≡ cond (eqb j k) 1 0 * 1
      same j j_in is k k_in = ⊎_elim
          (λ (less : j < k). other (λ e. absurd (omega (arith, less, e))))
          (λ (le : k ≤ j). ⊎_elim (λ (more : k < j). other (λ e. absurd (omega (arith, more, e)))) (λ (ge : j ≤ k). here (omega (arith, le, ge))) (cases_lt k j))
          (cases_lt j k)
        where
          here : j ≡ k → cond (eqb (at k) v) 1 0 ≡ cond (eqb j k) 1 0 * 1
          here e = (λ i. cond (eq-eqb (at k) v (ap at (sym e) ∙ is) i) 1 0) ∙ (λ i. cond (sym (eq-eqb j k e) i) 1 0 * 1)

          other : (j ≡ k → ⊥) → cond (eqb (at k) v) 1 0 ≡ cond (eqb j k) 1 0 * 1
          other differ =
              (λ i. cond (ne_eqb (at k) v (λ e. differ (distinct j k j_in k_in (is ∙ sym e))) i) 1 0) ∙ (λ i. cond (sym (ne_eqb j k differ) i) 1 0 * 1)

  ordered_sum : (h : ℕ → ℕ) → sum_by (λ k. h (at k)) (range_with_len 0 n) ≡ sum_by h (range_with_len 0 n)
  ordered_sum h =
      sym (sums_by_number at (λ k. h (at k)) h n (range_with_len 0 n)
      (All-from_get_or (λ k. (at k < n) × (h (at k) ≡ h (at k))) (range_with_len 0 n) 0
      (λ k lt. let few : k < n = omega (arith, lt, length-range_with_len 0 n) in
      let is : 0 + k ≡ k = omega arith in
      let there : k ≡ get_or (range_with_len 0 n) k 0 = sym (get_or-range_with_len 0 n k 0 few ∙ is) in
      (moved k few (get_or (range_with_len 0 n) k 0) there, refl))))
      ∙ same_sums (λ v. count_by (λ k. eqb (at k) v) (range_with_len 0 n) * h v) h n 0
      (λ v low high. ap (λ c. c * h v) (once v (omega arith)) ∙ omega arith)
    where
      moved : (k : ℕ) → k < n → (j : ℕ) → k ≡ j → at j < n
      moved k lt j is = inside j (omega (arith, lt, is))

-- ## Sums counted up to a greatest number

-- at most, and counted up to the greatest number the same
abbrev AgreesCapped : ℕ → ℕ → Type 0
AgreesCapped m n = (m ≤ n) × (capped m ≡ capped n)

agrees_capped : (m n : ℕ) → AgreesCapped m n → AgreesCapped (capped m) n
agrees_capped m n h =
    let le : m ≤ n = h.0 in
    let same : capped m ≡ capped n = h.1 in
    (omega arith, omega arith)

agrees_sum : {X : Type 0} (f g : X → ℕ) → ((x : X) → AgreesCapped (f x) (g x)) → (xs : List X) → AgreesCapped (sum_by f xs) (sum_by g xs)
agrees_sum f g h [] = (omega arith, refl)
agrees_sum f g h (x ∷ xs) =
    let here : f x ≤ g x = (h x).0 in
    let same : capped (f x) ≡ capped (g x) = (h x).1 in
    let rest = agrees_sum f g h xs in
    let le : sum_by f xs ≤ sum_by g xs = rest.0 in
    let more : capped (sum_by f xs) ≡ capped (sum_by g xs) = rest.1 in
    (omega (arith, here, le, sum_by-cons f x xs, sum_by-cons g x xs), omega (arith, same, more, sum_by-cons f x xs, sum_by-cons g x xs))

agrees_below_cap : (m n : ℕ) → AgreesCapped m n → n < 2 ^ 64 → m ≡ n
agrees_below_cap m n h lt =
    let le : m ≤ n = h.0 in
    let same : capped m ≡ capped n = h.1 in
    omega arith

-- ## All nodes

module _ (flow : Flow) (tree : Tree) (counts : List ℕ) where
  -- the ticks of an edge, and of all that leave a number
  abbrev of_edge : ℕ → ℕ
  of_edge k = get_or counts k 0 * (step_at flow.edges k).cost

  abbrev of_number : ℕ → ℕ
  of_number n = sum_by of_edge (leaving flow tree n)

  abbrev of_node : ℕ → ℕ
  of_node n = if is_begin flow tree n then sum_by of_number (stretch_from flow tree n) else 0

  node_is : (n : ℕ) → of_node n ≡ sum_by of_number (numbers_in flow tree n)
  node_is n = elim (is_begin flow tree n) as (λ b. (if b then sum_by of_number (stretch_from flow tree n) else 0) ≡ sum_by of_number (if b then stretch_from flow tree n else [])) [
    | true ↦ refl
    | false ↦ refl
  ]

  -- each number is in one node
  nodes_sum : IsWellFormed flow → IsTree flow tree → sum_by of_node (range_with_len 0 (length flow.places)) ≡ sum_by of_number (range_with_len 0 (length flow.places))
  nodes_sum well t =
      let exit = length flow.places in
      let each = each_once flow tree well t in
      let all = all_numbers flow tree in
      same_sums of_node (λ n. sum_by of_number (numbers_in flow tree n)) exit 0 (λ n low high. node_is n)
      ∙ sym (sum_by-flat_map of_number (numbers_in flow tree) (range_with_len 0 exit))
      ∙ sym (sums_by_number (λ n. n) of_number of_number exit all
      (All-from_get_or (λ k. (k < exit) × (of_number k ≡ of_number k)) all 0 (λ i lt. (All-get_or (λ k. k < exit) all i 0 lt each.others, refl))))
      ∙ same_sums (λ v. count_by (λ k. eqb k v) all * of_number v) of_number exit 0
      (λ v low high. ap (λ c. c * of_number v) (each.once v (omega arith)) ∙ omega arith)

  -- all edges leave some number
  numbers_sum : IsWellFormed flow → IsTree flow tree → sum_by of_number (range_with_len 0 (length flow.places)) ≡ counted_cost flow.edges counts
  numbers_sum well t =
      let exit = length flow.places in
      let whole : length tree.order ≡ exit + 1 = t.whole in
      let all : get_or flow.firsts exit 0 - 0 ≡ length flow.edges = omega (arith, well.last_all) in
      ordered_sum (λ n. get_or tree.order n 0) exit t.inside t.all
      (λ j k j_in k_in same. ⊎_elim
      (λ (less : j < k). absurd (t.distinct j k less (omega (arith, k_in, whole)) same))
      (λ (le : k ≤ j). ⊎_elim (λ (more : k < j). absurd (t.distinct k j more (omega (arith, j_in, whole)) (sym same))) (λ (ge : j ≤ k). omega (arith, le, ge)) (cases_lt k j))
      (cases_lt j k))
      (λ v. sum_by of_edge (between (get_or flow.firsts v 0) (get_or flow.firsts (v + 1) 0)))
      ∙ parts_sum (λ v. get_or flow.firsts v 0) of_edge exit well.first_zero well.rising
      ∙ ap (λ n. sum_by of_edge (range_with_len 0 n)) all

  agrees_edge : (k : ℕ) → AgreesCapped (edge_ticks flow counts k) (of_edge k)
  agrees_edge k = agrees_capped (of_edge k) (of_edge k) (omega arith, refl)

  agrees_number : (n : ℕ) → AgreesCapped (ticks flow tree counts n) (of_number n)
  agrees_number n =
      agrees_capped (sum_by (edge_ticks flow counts) (leaving flow tree n)) (of_number n) (agrees_sum (edge_ticks flow counts) of_edge agrees_edge (leaving flow tree n))

  agrees_stretch : (ns : List ℕ) → AgreesCapped (stretch_ticks flow tree counts ns) (sum_by of_number ns)
  agrees_stretch ns = agrees_capped (sum_by (ticks flow tree counts) ns) (sum_by of_number ns) (agrees_sum (ticks flow tree counts) of_number agrees_number ns)

  agrees_node : (n : ℕ) → AgreesCapped (node_ticks flow tree counts n) (of_node n)
  agrees_node n =
      let ns = stretch_from flow tree n in
      elim (is_begin flow tree n) as (λ b. AgreesCapped (if b then stretch_ticks flow tree counts ns else 0) (if b then sum_by of_number ns else 0)) [
        | true ↦ agrees_stretch ns
        | false ↦ (omega arith, refl)
      ]

pub ticks_in_all : (flow : Flow) (tree : Tree) (cost : ℕ) (items : List Item) (counts : List ℕ) → IsWellFormed flow → IsTree flow tree → IsWalkOf flow tree cost items → cost < 2 ^ 64
    → AreCounts flow.edges (unfolded items) counts → all_ticks flow tree counts ≡ cost
ticks_in_all flow tree cost items counts well t walk fits are =
    let numbers = range_with_len 0 (length flow.places) in
    let all : sum_by (of_node flow tree counts) numbers ≡ cost =
    nodes_sum flow tree counts well t ∙ numbers_sum flow tree counts well t ∙ total flow items counts tree cost well are walk fits in
    agrees_below_cap (all_ticks flow tree counts) (sum_by (of_node flow tree counts) numbers) (agrees_sum (node_ticks flow tree counts) (of_node flow tree counts) (agrees_node flow tree counts) numbers)
    (subst (λ n. n < 2 ^ 64) (sym all) fits)
    ∙ all
