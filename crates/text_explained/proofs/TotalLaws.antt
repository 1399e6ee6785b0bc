-- The numbers of a walk of the graph are exact, and add up to what it costs.
use Rattle.std.proofs.Common.{◌≡◌, ◌∙◌, refl, ℕ, ◌-◌, ◌*◌, ◌^◌, ◌<◌, ◌≤◌, Bool, true, false, cond, List, length, flat_map, map, Option, Some, None, ⊎_elim, sym, ap, subst, arith}
use Rattle.std.specs.Prelude.{◌↔◌, ◌&&◌, ◌==◌, All, Contains, if◌then◌else◌, is_some, nat_lt, sum_by}
use Rattle.std.proofs.lemmas.Bool.{and_parts, both_ways, cases_Bool, eq-eqb, eqb-true, lt-ltb, ltb-true}
use Rattle.std.proofs.lemmas.List.Elements.{All-contains, All-contains_itself, All-weaker}
use Rattle.std.proofs.lemmas.List.{get_or_default}
use Rattle.std.proofs.lemmas.List.Folds.{list_any_at, list_any_none}
use Rattle.assembler.specs.declared.placed_line.PlacedLine.{PlacedLine}
use Rattle.control_flow.specs.declared.places.Place.TheVariants.{Exit}
use Rattle.control_flow.specs.declared.edges.Edge.{Edge}
use Rattle.control_flow.specs.declared.edges.Label.TheVariants.{Do}
use Rattle.control_flow.specs.Flow.{Flow, HasEdge, IsWellFormed, edge_shape}
use Rattle.control_flow.proofs.Firsts.{no_edge}
use Rattle.image.specs.Image.{Words}
use Rattle.loop_bounds.specs.Tree.{Tree}
use Rattle.longest_walk.specs.Built.{step_at}
use Rattle.longest_walk.specs.Folded.{unfolded}
use Rattle.longest_walk.specs.Longest.{IsWalkOf}
use Rattle.longest_walk.specs.declared.folded.Item.{Item}
use Rattle.walks.proofs.SumLe.{sum_by-le_all}
use Rattle.walks.specs.Walk.{cost_of}
use Rattle.walk_counts.specs.Counts.{capped, is_same_label, number_of, occurrences}
use Rattle.walk_counts.proofs.CountLemmas.{along}
use Rattle.walk_counts.proofs.NumberLemmas.{known_edge}
use Rattle.walk_counts.proofs.SumLemmas.{sum_none, sums_by_number}
use Rattle.text_explained.specs.Table.{costs_of, done_of, image_ticks, is_any_reached, line_taken, passes_of, prices_of, source_ticks, ticks_in, ticks_of, told_at, words_of}
use Rattle.text_explained.specs.Taken.{AreCostsAt, IsCostAt, AreListedOnce, cost_at, costs_where, done_at, in_all, is_at, is_from, is_reached, is_taken_from, pass_at, range_of, taken_at, taken_of}
use Rattle.text_explained.specs.declared.walk_tally.Costs.{Costs}
use Rattle.text_explained.specs.declared.walk_tally.Taken.{Taken}
use Rattle.text_explained.proofs.RangeLaws.{HasCost, IsRange, is_counted, range_is, some_counted}
use Rattle.text_explained.proofs.SumLaws.{capped_sums, counted_sum, exchanged, same_terms, sum-flat_map, sum-map_terms}
use Rattle.text_explained.proofs.TallyLaws.{reached, same_taken}

-- a number that counts only where a test passes
pub cond_within : (b : Bool) (n cost : ℕ) → n ≤ cost → cond b n 0 ≤ cost
cond_within true n cost le = le
cond_within false n cost le = omega arith

module _ (flow : Flow) (walk : List Edge) (well : IsWellFormed flow) (on : All (HasEdge flow) walk) (fits : cost_of edge_shape walk < 2 ^ 64) where
  -- what is added up over the graph's edges is added up over the walk
  all_of_walk : (number : Edge → ℕ) → in_all flow.edges walk (length flow.edges) number ≡ sum_by number walk
  all_of_walk number =
      sums_by_number (number_of flow.edges) number (λ k. number (step_at flow.edges k)) (length flow.edges) walk
      (All-weaker (HasEdge flow) (λ e. (number_of flow.edges e < length flow.edges) × (number (step_at flow.edges (number_of flow.edges e)) ≡ number e))
      (λ e has. let k = known_edge flow.edges e has in (k.0, ap number k.1)) walk on)

  part_of_cost : (number : Edge → ℕ) → ((e : Edge) → 0 < e.cost → number e ≤ e.cost) → capped (in_all flow.edges walk (length flow.edges) number) ≡ sum_by number walk
  part_of_cost number part =
      let is = all_of_walk number in
      let le : sum_by number walk ≤ sum_by (λ e. e.cost) walk =
      sum_by-le_all number (λ e. e.cost) walk (All-weaker (HasEdge flow) (λ e. number e ≤ e.cost) (λ e has. part e (well.costs_some e has)) walk on) in
      let small : capped (sum_by number walk) ≡ sum_by number walk = omega arith in
      ap capped is ∙ small

  passes_is : (a : ℕ) → capped (in_all flow.edges walk (length flow.edges) (pass_at a)) ≡ sum_by (pass_at a) walk
  passes_is a = part_of_cost (pass_at a) (λ e some. cond_within (is_at a e.from) 1 e.cost (omega arith))

  done_is : (a : ℕ) → capped (in_all flow.edges walk (length flow.edges) (done_at a)) ≡ sum_by (done_at a) walk
  done_is a = part_of_cost (done_at a) (λ e some. cond_within (is_at a e.from && is_same_label e.label Do) 1 e.cost (omega arith))

  ticks_is : (a : ℕ) → capped (in_all flow.edges walk (length flow.edges) (cost_at a)) ≡ sum_by (cost_at a) walk
  ticks_is a = part_of_cost (cost_at a) (λ e some. cond_within (is_at a e.from) e.cost e.cost (omega arith))

  abbrev pub costs_here : ℕ → Option Costs
  costs_here a = range_of (costs_where flow.edges (is_taken_from flow.edges walk a) (length flow.edges))

  abbrev pub prices_here : ℕ → Option Costs
  prices_here a = range_of (costs_where flow.edges (is_from flow.edges a) (length flow.edges))

  abbrev pub taken_here : ℕ → Taken
  taken_here a = record { passes = sum_by (pass_at a) walk; done = sum_by (done_at a) walk; ticks = sum_by (cost_at a) walk; costs = costs_here a; prices = prices_here a }

  exact_taken : (a : ℕ) → taken_of flow.edges walk (length flow.edges) a ≡ taken_here a
  exact_taken a = same_taken (taken_of flow.edges walk (length flow.edges) a) (taken_here a) (passes_is a) (done_is a) (ticks_is a) refl refl

  taken_is : (a : ℕ) → is_reached flow.places a ≡ true → taken_at flow walk a ≡ Some (taken_here a)
  taken_is a known =
      ap (λ b. if b then Some (taken_of flow.edges walk (length flow.edges) a) else None) known ∙ ap (λ (t : Taken). Some t) (exact_taken a)

  -- ## The costs of the walk's edges

  module _ (a : ℕ) where
    abbrev pub Has : ℕ → Type 0
    Has = HasCost (is_taken_from flow.edges walk a) (λ k. (step_at flow.edges k).cost) (length flow.edges)

    -- an edge that is taken is one of the walk
    of_walk : (n : ℕ) → Has n → IsCostAt a walk n
    of_walk n h =
        let parts = and_parts (is_at a (step_at flow.edges h.number).from) (nat_lt 0 (occurrences flow.edges walk h.number)) h.passes in
        let found = some_counted (λ e. number_of flow.edges e == h.number) walk (ltb-true 0 (occurrences flow.edges walk h.number) parts.1) in
        let number : number_of flow.edges found.0 ≡ h.number = eqb-true (number_of flow.edges found.0) h.number found.2 in
        let known = known_edge flow.edges found.0 (All-contains (HasEdge flow) walk found.0 on found.1) in
        let same : step_at flow.edges h.number ≡ found.0 = ap (step_at flow.edges) (sym number) ∙ known.1 in
        record {
          edge = found.0;
          among = found.1;
          leaves = ap (λ (e : Edge). is_at a e.from) (sym same) ∙ parts.0;
          costs = ap (λ (e : Edge). e.cost) (sym same) ∙ h.costs;
        }

    -- and the other way round
    is_taken : (n : ℕ) → IsCostAt a walk n → Has n
    is_taken n c =
        let k = number_of flow.edges c.edge in
        let known = known_edge flow.edges c.edge (All-contains (HasEdge flow) walk c.edge on c.among) in
        let some : 0 < occurrences flow.edges walk k = is_counted (λ e. number_of flow.edges e == k) walk c.edge c.among (eq-eqb k k refl) in
        record {
          number = k;
          below = known.0;
          passes = ap (λ b. b && nat_lt 0 (occurrences flow.edges walk k)) (ap (λ (e : Edge). is_at a e.from) known.1 ∙ c.leaves) ∙ lt-ltb 0 (occurrences flow.edges walk k) some;
          costs = ap (λ (e : Edge). e.cost) known.1 ∙ c.costs;
        }

    are_costs : (r : Option Costs) → IsRange (is_taken_from flow.edges walk a) (λ k. (step_at flow.edges k).cost) (length flow.edges) r → AreCostsAt a walk r
    are_costs None none = λ n c. none n (is_taken n c)
    are_costs (Some c) all = (of_walk c.least all.0, of_walk c.greatest all.1, λ n h. all.2 n (is_taken n h))

    -- ## The costs of the graph's edges

    abbrev pub Leaves : ℕ → Type 0
    Leaves = HasCost (is_from flow.edges a) (λ k. (step_at flow.edges k).cost) (length flow.edges)

    of_graph : (n : ℕ) → Leaves n → IsCostAt a flow.edges n
    of_graph n h =
        let e = step_at flow.edges h.number in
        record { edge = e; among = (h.number, h.below, get_or_default flow.edges h.number e no_edge h.below); leaves = h.passes; costs = h.costs }

    leaves_it : (n : ℕ) → IsCostAt a flow.edges n → Leaves n
    leaves_it n c =
        let k = c.among.0 in
        let same : step_at flow.edges k ≡ c.edge = sym (get_or_default flow.edges k c.edge no_edge c.among.1) ∙ c.among.2 in
        record {
          number = k;
          below = c.among.1;
          passes = ap (λ (e : Edge). is_at a e.from) same ∙ c.leaves;
          costs = ap (λ (e : Edge). e.cost) same ∙ c.costs;
        }

    are_prices : (r : Option Costs) → IsRange (is_from flow.edges a) (λ k. (step_at flow.edges k).cost) (length flow.edges) r → AreCostsAt a flow.edges r
    are_prices None none = λ n c. none n (leaves_it n c)
    are_prices (Some c) all = (of_graph c.least all.0, of_graph c.greatest all.1, λ n h. all.2 n (leaves_it n h))

  pub numbers_are : (a : ℕ) → is_reached flow.places a ≡ true
      → (costs prices : Option Costs) × AreCostsAt a walk costs × AreCostsAt a flow.edges prices
      × (taken_at flow walk a ≡ Some (record { passes = sum_by (pass_at a) walk; done = sum_by (done_at a) walk; ticks = sum_by (cost_at a) walk; costs = costs; prices = prices }))
  numbers_are a known = (
    costs_here a,
    prices_here a,
    are_costs a (costs_here a) (range_is (is_taken_from flow.edges walk a) (λ k. (step_at flow.edges k).cost) (length flow.edges)),
    are_prices a (prices_here a) (range_is (is_from flow.edges a) (λ k. (step_at flow.edges k).cost) (length flow.edges)),
    taken_is a known,
  )

  -- ## Sums

  -- no edge leaves an address that is not reached
  none_leaves : (a : ℕ) → is_reached flow.places a ≡ false → sum_by (cost_at a) walk ≡ 0
  none_leaves a never =
      same_terms (cost_at a) (λ e. 0) walk
      (All-weaker (HasEdge flow) (λ e. cost_at a e ≡ 0)
      (λ e has. ⊎_elim
      (λ at. absurd (both_ways (is_reached flow.places a) never (reached flow.places e.from a (well.starts e has) at)))
      (λ apart. ap (λ b. cond b e.cost 0) apart)
      (cases_Bool (is_at a e.from))) walk on)
      ∙ sum_none walk

  ticks_of_walk : (a : ℕ) → ticks_of (taken_at flow walk a) ≡ sum_by (cost_at a) walk
  ticks_of_walk a = ⊎_elim
      (λ known. ap ticks_of (taken_is a known))
      (λ never. ap (λ b. ticks_of (if b then Some (taken_of flow.edges walk (length flow.edges) a) else None)) never ∙ sym (none_leaves a never))
      (cases_Bool (is_reached flow.places a))

  -- the ticks at addresses at which each place is once
  all_ticks : (all : List ℕ) → AreListedOnce flow.places all → sum_by (λ a. ticks_of (taken_at flow walk a)) all ≡ cost_of edge_shape walk
  all_ticks all once =
      (λ i. sum_by (λ a. ticks_of_walk a i) all) ∙ exchanged cost_at all walk
      ∙ same_terms (λ e. sum_by (λ a. cost_at a e) all) (λ e. e.cost) walk
      (All-weaker (HasEdge flow) (λ e. sum_by (λ a. cost_at a e) all ≡ e.cost)
      (λ e has. counted_sum (λ a. is_at a e.from) e.cost all ∙ ap (λ n. n * e.cost) (once e.from (well.starts e has)) ∙ omega arith) walk on)

  pub source_total : (placed : List PlacedLine) → AreListedOnce flow.places (flat_map words_of placed) → source_ticks (taken_at flow walk) placed ≡ cost_of edge_shape walk
  source_total placed once =
      let f = λ (a : ℕ). ticks_of (taken_at flow walk a) in
      let all : sum_by (λ (p : PlacedLine). sum_by f (words_of p)) placed ≡ cost_of edge_shape walk = sym (sum-flat_map words_of f placed) ∙ all_ticks (flat_map words_of placed) once in
      let small : capped (cost_of edge_shape walk) ≡ cost_of edge_shape walk = omega arith in
      capped_sums (2 ^ 64 - 1) (λ (p : PlacedLine). sum_by f (words_of p)) placed ∙ ap capped all ∙ small

  pub image_total : (words : Words) → AreListedOnce flow.places (map (λ e. e.0) words) → image_ticks (taken_at flow walk) words ≡ cost_of edge_shape walk
  image_total words once =
      let f = λ (a : ℕ). ticks_of (taken_at flow walk a) in
      let all : sum_by (λ (e : ℕ × ℕ). f e.0) words ≡ cost_of edge_shape walk = sym (sum-map_terms (λ (e : ℕ × ℕ). e.0) f words) ∙ all_ticks (map (λ e. e.0) words) once in
      let small : capped (cost_of edge_shape walk) ≡ cost_of edge_shape walk = omega arith in
      ap capped all ∙ small

-- ## Walks that are complete

on_graph : (flow : Flow) (tree : Tree) (cost : ℕ) (items : List Item) → IsWalkOf flow tree cost items → All (HasEdge flow) (unfolded items)
on_graph flow tree cost items walk = along flow flow.entry Exit (unfolded items) walk.complete

fitting : (flow : Flow) (tree : Tree) (cost : ℕ) (items : List Item) → IsWalkOf flow tree cost items → cost < 2 ^ 64 → cost_of edge_shape (unfolded items) < 2 ^ 64
fitting flow tree cost items walk fits = subst (λ n. n < 2 ^ 64) (sym walk.costs) fits

pub numbers_of_walk : (flow : Flow) (tree : Tree) (cost : ℕ) (items : List Item) (a : ℕ) → IsWellFormed flow → IsWalkOf flow tree cost items → cost < 2 ^ 64 → is_reached flow.places a ≡ true
    → (costs prices : Option Costs) × AreCostsAt a (unfolded items) costs × AreCostsAt a flow.edges prices
    × (taken_at flow (unfolded items) a ≡ Some (record { passes = sum_by (pass_at a) (unfolded items); done = sum_by (done_at a) (unfolded items); ticks = sum_by (cost_at a) (unfolded items); costs = costs; prices = prices }))
numbers_of_walk flow tree cost items a well walk fits known =
    numbers_are flow (unfolded items) well (on_graph flow tree cost items walk) (fitting flow tree cost items walk fits) a known

pub source_sum : (flow : Flow) (tree : Tree) (cost : ℕ) (items : List Item) (placed : List PlacedLine) → IsWellFormed flow → IsWalkOf flow tree cost items → cost < 2 ^ 64
    → AreListedOnce flow.places (flat_map words_of placed) → source_ticks (taken_at flow (unfolded items)) placed ≡ cost
source_sum flow tree cost items placed well walk fits once =
    source_total flow (unfolded items) well (on_graph flow tree cost items walk) (fitting flow tree cost items walk fits) placed once ∙ walk.costs

pub image_sum : (flow : Flow) (tree : Tree) (cost : ℕ) (items : List Item) (words : Words) → IsWellFormed flow → IsWalkOf flow tree cost items → cost < 2 ^ 64
    → AreListedOnce flow.places (map (λ e. e.0) words) → image_ticks (taken_at flow (unfolded items)) words ≡ cost
image_sum flow tree cost items words well walk fits once =
    image_total flow (unfolded items) well (on_graph flow tree cost items walk) (fitting flow tree cost items walk fits) words once ∙ walk.costs

-- ## Lines without a place

is_line : (flow : Flow) (walk : List Edge) (a : ℕ) (b : Bool) → is_reached flow.places a ≡ b → is_some (taken_at flow walk a) ≡ b
is_line flow walk a true known = ap (λ c. is_some (if c then Some (taken_of flow.edges walk (length flow.edges) a) else None)) known
is_line flow walk a false never = ap (λ c. is_some (if c then Some (taken_of flow.edges walk (length flow.edges) a) else None)) never

pub unreached : (flow : Flow) (walk : List Edge) (line : PlacedLine) → (line_taken (taken_at flow walk) line ≡ None) ↔ ((a : ℕ) → Contains (words_of line) a → is_reached flow.places a ≡ false)
unreached flow walk line = (
  λ none a has. ⊎_elim
      (λ known. absurd (both_ways (is_any_reached taken line.at line.words) (not_any none) (list_any_at (λ x. is_some (taken x)) (words_of line) has.0 a has.1 (ap (λ x. is_some (taken x)) has.2 ∙ is_line flow walk a true known))))
      (λ never. never)
      (cases_Bool (is_reached flow.places a)),
  λ never. ap (λ b. if b then Some found else None)
      (list_any_none (λ x. is_some (taken x)) (words_of line) (All-weaker (Contains (words_of line)) (λ x. is_some (taken x) ≡ false) (λ x has. is_line flow walk x false (never x has)) (words_of line) (All-contains_itself (words_of line)))),
)
  where
    taken : ℕ → Option Taken
    taken = taken_at flow walk

    found : Taken
    found = record { passes = passes_of (taken (told_at taken line)); done = done_of (taken (told_at taken line)); ticks = ticks_in taken line.at line.words; costs = costs_of (taken (told_at taken line)); prices = prices_of (taken (told_at taken line)) }

    not_any : line_taken taken line ≡ None → is_any_reached taken line.at line.words ≡ false
    not_any none = ⊎_elim
        (λ any. let both : Some found ≡ None = sym (ap (λ b. if b then Some found else None) any) ∙ none in cc)
        (λ no_place. no_place)
        (cases_Bool (is_any_reached taken line.at line.words))
