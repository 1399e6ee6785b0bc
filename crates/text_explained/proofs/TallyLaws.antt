-- An edge more in a tally.
use Rattle.std.proofs.Common.{◌≡◌, ◌∙◌, ℕ, ◌+◌, ◌-◌, ◌*◌, ◌^◌, ◌<◌, ◌≤◌, min, true, false, cond, List, length, get_or, Some, None, unwrap_or, ⊎_elim, sym, ap, arith, add-one}
use Rattle.std.specs.Prelude.{Bool, Contains, Option, ◌&&◌, ◌==◌, if◌then◌else◌, nat_lt, sum_by}
use Rattle.std.specs.BTreeMap.{get}
use Rattle.std.specs.List.{range_with_len}
use Rattle.std.specs.Ordering.{nat_cmp}
use Rattle.std.proofs.lemmas.Bool.{cases_Bool, cases_lt, eq-eqb, le-ltb, lt-ltb, ne_eqb}
use Rattle.std.proofs.lemmas.List.{get_or_default}
use Rattle.std.proofs.lemmas.List.Folds.{list_any_at}
use Rattle.std.proofs.lemmas.List.Sums.{sum_by_push}
use Rattle.control_flow.specs.declared.places.Place.{Place}
use Rattle.control_flow.specs.declared.edges.Edge.{Edge}
use Rattle.control_flow.specs.declared.edges.Label.TheVariants.{Do}
use Rattle.control_flow.specs.Flow.{Flow, IsWellFormed}
use Rattle.control_flow.proofs.Firsts.{no_edge}
use Rattle.longest_walk.specs.Built.{step_at}
use Rattle.walk_counts.specs.Counts.{capped, is_same_label, occurrences}
use Rattle.walk_counts.proofs.SumLemmas.{capped_times, range_push}
use Rattle.text_explained.specs.Taken.{Adds, HasAdded, Starts, cost_at, costs_where, done_at, in_all, is_at, is_from, is_reached, is_taken_from, with_edge, nothing, pass_at, range_of, taken_by, taken_of, widened}
use Rattle.text_explained.proofs.RangeLaws.{range_kept, range_left}
use Rattle.text_explained.specs.declared.walk_tally.Costs.{Costs}
use Rattle.text_explained.specs.declared.walk_tally.Taken.{Taken}
use Rattle.text_explained.specs.declared.walk_tally.WalkTally.{WalkTally}

zero_more : (m x : ℕ) → min x m ≡ min (0 + x) m
zero_more m x = omega arith

in_all_more : (edges walk : List Edge) (i : ℕ) (number : Edge → ℕ) → in_all edges walk (i + 1) number ≡ in_all edges walk i number + occurrences edges walk i * number (step_at edges i)
in_all_more edges walk i number =
    let term = λ (k : ℕ). occurrences edges walk k * number (step_at edges k) in
    ap (λ n. sum_by term (range_with_len 0 n)) (add-one i) ∙ ap (sum_by term) (range_push i 0) ∙ sum_by_push term (range_with_len 0 i) (0 + i) ∙ ap (λ k. sum_by term (range_with_len 0 i) + term k) (omega arith)

-- the next edge adds how often it is taken where it counts once, and nothing where it does not count
module _ (edges walk : List Edge) (i : ℕ) (number : Edge → ℕ) where
  pub counts_once : (count : ℕ) → count ≡ capped (occurrences edges walk i) → number (step_at edges i) ≡ 1
      → capped (capped (in_all edges walk i number) + count) ≡ capped (in_all edges walk (i + 1) number)
  counts_once count count_is once =
      let s = in_all edges walk i number in
      let n = occurrences edges walk i in
      let one : n * number (step_at edges i) ≡ n = ap (λ m. n * m) once ∙ omega arith in
      let sum : capped (capped s + capped n) ≡ capped (s + n) = omega arith in
      ap (λ c. capped (capped s + c)) count_is ∙ sum ∙ ap (λ m. capped (s + m)) (sym one) ∙ ap capped (sym (in_all_more edges walk i number))

  pub counts_not : number (step_at edges i) ≡ 0 → capped (in_all edges walk i number) ≡ capped (in_all edges walk (i + 1) number)
  counts_not none =
      let s = in_all edges walk i number in
      let same : s ≡ s + occurrences edges walk i * 0 = omega arith in
      ap capped (same ∙ ap (λ m. s + occurrences edges walk i * m) (sym none) ∙ sym (in_all_more edges walk i number))

  -- or so many ticks each time
  pub counts_cost : (count cost : ℕ) → count ≡ capped (occurrences edges walk i) → number (step_at edges i) ≡ cost
      → capped (capped (in_all edges walk i number) + capped (count * cost)) ≡ capped (in_all edges walk (i + 1) number)
  counts_cost count cost count_is each =
      let s = in_all edges walk i number in
      let n = occurrences edges walk i in
      let once : capped (capped n * cost) ≡ capped (n * cost) = zero_more (2 ^ 64 - 1) (capped n * cost) ∙ capped_times (2 ^ 64 - 1) 0 n cost ∙ sym (zero_more (2 ^ 64 - 1) (n * cost)) in
      let sum : capped (capped s + capped (n * cost)) ≡ capped (s + n * cost) = omega arith in
      ap (λ c. capped (capped s + capped (c * cost))) count_is ∙ ap (λ c. capped (capped s + c)) once ∙ sum
      ∙ ap (λ c. capped (s + n * c)) (sym each) ∙ ap capped (sym (in_all_more edges walk i number))

pub same_taken : (s t : Taken) → s.passes ≡ t.passes → s.done ≡ t.done → s.ticks ≡ t.ticks → s.costs ≡ t.costs → s.prices ≡ t.prices → s ≡ t
same_taken s t passes done ticks costs prices = λ i. record { passes = passes i; done = done i; ticks = ticks i; costs = costs i; prices = prices i }

-- the place of an edge is reached
pub reached : (places : List Place) (p : Place) (a : ℕ) → Contains places p → is_at a p ≡ true → is_reached places a ≡ true
reached places p a has at = list_any_at (is_at a) places has.0 p has.1 (ap (is_at a) has.2 ∙ at)

module _ (edges walk : List Edge) (i : ℕ) (e : Edge) (count : ℕ) (e_is : e ≡ step_at edges i) (count_is : count ≡ capped (occurrences edges walk i)) where
  -- an edge that leaves the address
  leaving : (a : ℕ) → is_at a e.from ≡ true → with_edge (taken_of edges walk i a) e count ≡ taken_of edges walk (i + 1) a
  leaving a at = same_taken (with_edge (taken_of edges walk i a) e count) (taken_of edges walk (i + 1) a) passes done ticks costs prices
    where
      n : ℕ
      n = occurrences edges walk i

      here : is_at a (step_at edges i).from ≡ true
      here = ap (λ (x : Edge). is_at a x.from) (sym e_is) ∙ at

      cost : (step_at edges i).cost ≡ e.cost
      cost = ap (λ (x : Edge). x.cost) (sym e_is)

      passes : capped (capped (in_all edges walk i (pass_at a)) + count) ≡ capped (in_all edges walk (i + 1) (pass_at a))
      passes = counts_once edges walk i (pass_at a) count count_is (ap (λ b. cond b 1 0) here)

      label : is_same_label (step_at edges i).label Do ≡ is_same_label e.label Do
      label = ap (λ (x : Edge). is_same_label x.label Do) (sym e_is)

      does : (b : Bool) → is_same_label e.label Do ≡ b → done_at a (step_at edges i) ≡ cond b 1 0
      does b is = ap (λ c. cond (c && is_same_label (step_at edges i).label Do) 1 0) here ∙ ap (λ c. cond c 1 0) (label ∙ is)

      done : capped (capped (in_all edges walk i (done_at a)) + cond (is_same_label e.label Do) count 0) ≡ capped (in_all edges walk (i + 1) (done_at a))
      done =
          let s = in_all edges walk i (done_at a) in
          ⊎_elim
          (λ (yes : is_same_label e.label Do ≡ true).
          ap (λ b. capped (capped s + cond b count 0)) yes ∙ counts_once edges walk i (done_at a) count count_is (does true yes))
          (λ (no : is_same_label e.label Do ≡ false).
          let still : capped (capped s + 0) ≡ capped s = omega arith in
          ap (λ b. capped (capped s + cond b count 0)) no ∙ still ∙ counts_not edges walk i (done_at a) (does false no))
          (cases_Bool (is_same_label e.label Do))

      ticks : capped (capped (in_all edges walk i (cost_at a)) + capped (count * e.cost)) ≡ capped (in_all edges walk (i + 1) (cost_at a))
      ticks =
          let s = in_all edges walk i (cost_at a) in
          let all : n * cost_at a (step_at edges i) ≡ n * e.cost = ap (λ b. n * cond b (step_at edges i).cost 0) here ∙ ap (λ c. n * c) cost in
          let once : capped (capped n * e.cost) ≡ capped (n * e.cost) =
          zero_more (2 ^ 64 - 1) (capped n * e.cost) ∙ capped_times (2 ^ 64 - 1) 0 n e.cost ∙ sym (zero_more (2 ^ 64 - 1) (n * e.cost)) in
          let sum : capped (capped s + capped (n * e.cost)) ≡ capped (s + n * e.cost) = omega arith in
          ap (λ c. capped (capped s + capped (c * e.cost))) count_is ∙ ap (λ c. capped (capped s + c)) once ∙ sum
          ∙ ap (λ m. capped (s + m)) (sym all) ∙ ap capped (sym (in_all_more edges walk i (cost_at a)))

      before : Option Costs
      before = range_of (costs_where edges (is_taken_from edges walk a) i)

      costs : (if count == 0 then before else widened before e.cost) ≡ range_of (costs_where edges (is_taken_from edges walk a) (i + 1))
      costs = ⊎_elim
          (λ (some : 0 < n).
          let counted : (count == 0) ≡ false = ne_eqb count 0 (λ none. absurd (let both : capped n ≡ 0 = sym count_is ∙ none in omega arith)) in
          let met : is_taken_from edges walk a i ≡ true = ap (λ b. b && nat_lt 0 n) here ∙ lt-ltb 0 n some in
          ap (λ b. if b then before else widened before e.cost) counted ∙ ap (λ c. widened before c) (sym cost)
          ∙ sym (range_kept (is_taken_from edges walk a) (λ k. (step_at edges k).cost) i met))
          (λ (none : n ≤ 0).
          let counted : (count == 0) ≡ true = eq-eqb count 0 (let e : capped n ≡ 0 = omega arith in count_is ∙ e) in
          let unmet : is_taken_from edges walk a i ≡ false = ap (λ b. b && nat_lt 0 n) here ∙ le-ltb 0 n none in
          ap (λ b. if b then before else widened before e.cost) counted
          ∙ sym (range_left (is_taken_from edges walk a) (λ k. (step_at edges k).cost) i unmet))
          (cases_lt 0 n)

      prices : widened (range_of (costs_where edges (is_from edges a) i)) e.cost ≡ range_of (costs_where edges (is_from edges a) (i + 1))
      prices =
          ap (λ c. widened (range_of (costs_where edges (is_from edges a) i)) c) (sym cost)
          ∙ sym (range_kept (is_from edges a) (λ k. (step_at edges k).cost) i here)

  -- one that does not
  passing : (a : ℕ) → is_at a e.from ≡ false → taken_of edges walk i a ≡ taken_of edges walk (i + 1) a
  passing a at = same_taken (taken_of edges walk i a) (taken_of edges walk (i + 1) a)
      (counts_not edges walk i (pass_at a) (ap (λ b. cond b 1 0) here))
      (counts_not edges walk i (done_at a) (ap (λ b. cond (b && is_same_label (step_at edges i).label Do) 1 0) here))
      (counts_not edges walk i (cost_at a) (ap (λ b. cond b (step_at edges i).cost 0) here))
      (sym (range_left (is_taken_from edges walk a) (λ k. (step_at edges k).cost) i (ap (λ b. b && nat_lt 0 (occurrences edges walk i)) here)))
      (sym (range_left (is_from edges a) (λ k. (step_at edges k).cost) i here))
    where
      here : is_at a (step_at edges i).from ≡ false
      here = ap (λ (x : Edge). is_at a x.from) (sym e_is) ∙ at

-- the tally of the places alone is that of no edge
pub none_added : (flow : Flow) (walk : List Edge) (t : WalkTally) → Starts flow.places t → HasAdded flow walk 0 t
none_added flow walk t starts = λ a. starts a

pub one_added : (flow : Flow) (walk : List Edge) (i : ℕ) (e : Edge) (count : ℕ) (old new : WalkTally) → IsWellFormed flow → i < length flow.edges
    → e ≡ get_or flow.edges i e → count ≡ capped (occurrences flow.edges walk i) → HasAdded flow walk i old → Adds e count old new → HasAdded flow walk (i + 1) new
one_added flow walk i e count old new well lt at count_is h adds = λ a. ⊎_elim (taken a) (left a) (cases_Bool (is_at a e.from))
  where
    e_is : e ≡ step_at flow.edges i
    e_is = at ∙ get_or_default flow.edges i e no_edge lt

    taken : (a : ℕ) → is_at a e.from ≡ true → get nat_cmp new.by_address a ≡ taken_by flow walk (i + 1) a
    taken a here =
        let known : is_reached flow.places a ≡ true = reached flow.places e.from a (well.starts e (i, lt, sym at)) here in
        let before : get nat_cmp old.by_address a ≡ Some (taken_of flow.edges walk i a) =
        h a ∙ ap (λ b. if b then Some (taken_of flow.edges walk i a) else None) known in
        adds a ∙ ap (λ b. if b then Some (with_edge (unwrap_or (get nat_cmp old.by_address a) nothing) e count) else get nat_cmp old.by_address a) here
        ∙ ap (λ o. Some (with_edge (unwrap_or o nothing) e count)) before
        ∙ ap (λ (t : Taken). Some t) (leaving flow.edges walk i e count e_is count_is a here)
        ∙ ap (λ b. if b then Some (taken_of flow.edges walk (i + 1) a) else None) (sym known)

    left : (a : ℕ) → is_at a e.from ≡ false → get nat_cmp new.by_address a ≡ taken_by flow walk (i + 1) a
    left a apart =
        adds a ∙ ap (λ b. if b then Some (with_edge (unwrap_or (get nat_cmp old.by_address a) nothing) e count) else get nat_cmp old.by_address a) apart
        ∙ h a ∙ ap (λ (t : Taken). if is_reached flow.places a then Some t else None) (passing flow.edges walk i e count e_is count_is a apart)
