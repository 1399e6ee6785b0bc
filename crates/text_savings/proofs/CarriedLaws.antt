-- An edge more, and what the times are.
use Rattle.std.proofs.Common.{◌≡◌, ◌∙◌, ℕ, ◌+◌, ◌^◌, ◌<◌, ◌≤◌, Bool, true, false, cond, List, length, get_or, refl, sym, ap, subst, arith}
use Rattle.std.specs.Prelude.{All, count_by, if◌then◌else◌}
use Rattle.std.specs.BTreeMap.{BTreeMap}
use Rattle.std.proofs.lemmas.List.Elements.{All-weaker}
use Rattle.std.proofs.lemmas.List.{get_or_default}
use Rattle.text_explained.specs.Taken.{in_all}
use Rattle.text_explained.proofs.TallyLaws.{counts_not, counts_once}
use Rattle.text_explained.proofs.TotalLaws.{cond_within}
use Rattle.control_flow.specs.declared.places.Place.TheVariants.{Exit}
use Rattle.control_flow.specs.declared.edges.Edge.{Edge}
use Rattle.control_flow.specs.Flow.{Flow, HasEdge, IsWellFormed, edge_shape}
use Rattle.control_flow.proofs.Firsts.{no_edge}
use Rattle.loop_bounds.specs.Tree.{Tree}
use Rattle.longest_walk.specs.Built.{step_at}
use Rattle.longest_walk.specs.Folded.{unfolded}
use Rattle.longest_walk.specs.Longest.{IsWalkOf}
use Rattle.longest_walk.specs.declared.folded.Item.{Item}
use Rattle.walks.proofs.SumLe.{sum_by-le_all}
use Rattle.walks.specs.Walk.{cost_of}
use Rattle.walk_counts.specs.Counts.{capped, number_of, occurrences}
use Rattle.walk_counts.proofs.CountLemmas.{along}
use Rattle.walk_counts.proofs.NumberLemmas.{known_edge}
use Rattle.walk_counts.proofs.SumLemmas.{sums_by_number}
use Rattle.text_savings.specs.Carried.{Adds, AreTimes, HasAdded, carries_out, done_at, times_by, times_done, times_in}

-- ## An edge more

module _ (edges walk : List Edge) (i : ℕ) (count : ℕ) (count_is : count ≡ capped (occurrences edges walk i)) (a : ℕ) where
  one : (b : Bool) → carries_out a (step_at edges i) ≡ b
      → (if b then capped (times_by edges walk i a + count) else times_by edges walk i a) ≡ times_by edges walk (i + 1) a
  one true here = counts_once edges walk i (done_at a) count count_is (ap (λ b. cond b 1 0) here)
  one false apart = counts_not edges walk i (done_at a) (ap (λ b. cond b 1 0) apart)

pub one_added : (edges walk : List Edge) (i : ℕ) (e : Edge) (count : ℕ) (old new : BTreeMap ℕ ℕ) → i < length edges → e ≡ get_or edges i e
    → count ≡ capped (occurrences edges walk i) → HasAdded edges walk i old → Adds e count old new → HasAdded edges walk (i + 1) new
one_added edges walk i e count old new lt at count_is h adds = λ a.
    let e_is : e ≡ step_at edges i = at ∙ get_or_default edges i e no_edge lt in
    adds a ∙ ap (λ (x : Edge). if carries_out a x then capped (times_in old a + count) else times_in old a) e_is
    ∙ ap (λ n. if carries_out a (step_at edges i) then capped (n + count) else n) (h a)
    ∙ one edges walk i count count_is a (carries_out a (step_at edges i)) refl

pub all_added : (edges walk : List Edge) (i : ℕ) (times : BTreeMap ℕ ℕ) → i ≡ length edges → HasAdded edges walk i times → AreTimes edges walk times
all_added edges walk i times is h = λ a. h a ∙ ap (λ n. times_by edges walk n a) is

-- before any edge
pub none_added : (edges walk : List Edge) (times : BTreeMap ℕ ℕ) → ((a : ℕ) → times_in times a ≡ 0) → HasAdded edges walk 0 times
none_added edges walk times none = none

-- ## The times of a walk

module _ (flow : Flow) (walk : List Edge) (well : IsWellFormed flow) (on : All (HasEdge flow) walk) (a : ℕ) where
  all_of_walk : in_all flow.edges walk (length flow.edges) (done_at a) ≡ count_by (carries_out a) walk
  all_of_walk =
      sums_by_number (number_of flow.edges) (done_at a) (λ k. done_at a (step_at flow.edges k)) (length flow.edges) walk
      (All-weaker (HasEdge flow) (λ e. (number_of flow.edges e < length flow.edges) × (done_at a (step_at flow.edges (number_of flow.edges e)) ≡ done_at a e))
      (λ e has. let k = known_edge flow.edges e has in (k.0, ap (done_at a) k.1)) walk on)

  few : count_by (carries_out a) walk ≤ cost_of edge_shape walk
  few =
      sum_by-le_all (done_at a) (λ e. e.cost) walk
      (All-weaker (HasEdge flow) (λ e. done_at a e ≤ e.cost) (λ e has. let some : 0 < e.cost = well.costs_some e has in cond_within (carries_out a e) 1 e.cost (omega arith)) walk on)

  pub times_are : cost_of edge_shape walk < 2 ^ 64 → times_done flow.edges walk a ≡ count_by (carries_out a) walk
  times_are fits =
      let small : capped (count_by (carries_out a) walk) ≡ count_by (carries_out a) walk = omega (arith, few, fits) in
      ap capped all_of_walk ∙ small

pub times_of_walk : (flow : Flow) (tree : Tree) (cost : ℕ) (items : List Item) (a : ℕ) → IsWellFormed flow → IsWalkOf flow tree cost items → cost < 2 ^ 64
    → times_done flow.edges (unfolded items) a ≡ count_by (carries_out a) (unfolded items)
times_of_walk flow tree cost items a well walk fits =
    times_are flow (unfolded items) well (along flow flow.entry Exit (unfolded items) walk.complete) a (subst (λ n. n < 2 ^ 64) (sym walk.costs) fits)
