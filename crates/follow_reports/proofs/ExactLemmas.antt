-- The numbers of a kept run and of a greatest walk are at most the bound, and so printed as they are.
use Rattle.std.proofs.Common.{◌≡◌, ◌∙◌, ℕ, ◌+◌, ◌^◌, ◌<◌, ◌≤◌, Bool, true, false, cond, List, [], ◌∷◌, length, Some, None, ⊎_elim, refl, sym, ap, subst, arith}
use Rattle.std.specs.Prelude.{◌&&◌, Option, if◌then◌else◌, sum_by}
use Rattle.std.proofs.lemmas.Bool.{cases_Bool, true≢false}
use Rattle.std.proofs.lemmas.List.Sums.{sum_by-cons}
use Rattle.image.specs.Image.{Words}
use Rattle.statement.specs.Stated.{Stated}
use Rattle.arm2_exec.specs.State.{State}
use Rattle.arm2_exec.specs.declared.machine.Input.{Input}
use Rattle.arm2_exec.specs.declared.machine.Stepped.{Stepped}
use Rattle.arm2_exec.proofs.StepLemmas.{one_step}
use Rattle.walks.specs.Walk.{Leads, cost_of}
use Rattle.control_flow.specs.Flow.{Flow, HasEdge, IsWellFormed, edge_shape}
use Rattle.control_flow.specs.Places.{place_at}
use Rattle.flow_graph.specs.StepLaw.{Follows, StepCost}
use Rattle.control_flow.specs.declared.edges.Edge.{Edge}
use Rattle.control_flow.specs.declared.edges.Label.TheVariants.{Do}
use Rattle.control_flow.specs.declared.places.Place.{Place}
use Rattle.control_flow.specs.declared.places.Place.TheVariants.{Exit}
use Rattle.loop_bounds.specs.Tree.{Tree}
use Rattle.longest_walk.specs.Folded.{unfolded}
use Rattle.longest_walk.specs.Longest.{IsLongest}
use Rattle.longest_walk.specs.declared.folded.Longest.{Longest}
use Rattle.text_explained.specs.Table.{done_of, passes_of, ticks_of}
use Rattle.text_explained.specs.Taken.{cost_at, done_at, is_at, is_reached, pass_at, taken_at, taken_of}
use Rattle.text_explained.specs.declared.walk_tally.Taken.{Taken}
use Rattle.text_explained.proofs.TallyLaws.{reached}
use Rattle.text_explained.proofs.TotalLaws.{cond_within, numbers_of_walk}
use Rattle.kept_runs.specs.Passing.{ArePasses, Pass}
use Rattle.walk_counts.specs.Counts.{capped, is_same_label}
use Rattle.follow_reports.proofs.DifferenceLemmas.{same_compared, same_numbers}
use Rattle.follow_reports.specs.declared.differences.Compared.{Compared}
use Rattle.follow_reports.specs.Differences.{compared_at, run_at, capped_at, walk_at}
use Rattle.follow_reports.specs.DifferenceText.{IsTable}
use Rattle.handlers.proofs.ReportLemmas.{bound_fits}
use Rattle.sources.specs.File.{File}

capped_is : (n : ℕ) → n < 2 ^ 64 → capped n ≡ n
capped_is n small = omega arith

-- ## The run

module _ (words : Words) (st : Stated) (flow : Flow) (well : IsWellFormed flow) (law : StepCost) (weight : Pass → ℕ) (fits : (p : Pass) (cost : ℕ) → 0 < cost → p.ticks ≤ cost → weight p ≤ cost) where
  -- a number of each step that is at most its edge's cost
  weights_most : (s : State) (inputs : List Input) (from : Place) (walk : List Edge) (passes : List Pass)
      → Leads edge_shape (HasEdge flow) from walk Exit → Follows words st flow.profile s inputs walk → ArePasses flow s inputs walk passes
      → sum_by weight passes ≤ cost_of edge_shape walk
  weights_most s [] from [] passes leads follows are =
      let none : sum_by weight passes ≡ 0 = ap (sum_by weight) are in
      omega (arith, none)
  weights_most s [] from (e ∷ walk) passes leads follows are = absurd follows
  weights_most s (i ∷ inputs) from [] passes leads follows are = absurd follows
  weights_most s (i ∷ inputs) from (e ∷ walk) passes (has, starts, leads) (stepped, next, edge, follows) (other, after, step, (pass, later, is, are, eq)) =
      let same = one_step s i stepped other next after edge.executes.step step in
      let cheap : stepped.ticks ≤ e.cost = law words st flow.profile s i stepped next e edge in
      let own : pass.ticks ≤ e.cost = subst (λ (n : ℕ). n ≤ e.cost) (sym (is.ticks_are ∙ ap (λ (x : Stepped). x.ticks) same.0)) cheap in
      let here : weight pass ≤ e.cost = fits pass e.cost (well.costs_some e has) own in
      let rest = weights_most next inputs e.to walk later leads follows (subst (λ (x : State). ArePasses flow x inputs walk later) same.1 are) in
      let front : sum_by weight passes ≡ weight pass + sum_by weight later = ap (sum_by weight) eq ∙ sum_by-cons weight pass later in
      let cost : cost_of edge_shape (e ∷ walk) ≡ e.cost + cost_of edge_shape walk = sum_by-cons (λ (x : Edge). x.cost) e walk in
      omega (arith, front, cost, here, rest)

-- ## The walk

module _ (flow : Flow) (well : IsWellFormed flow) (a : ℕ) (none : is_reached flow.places a ≡ false) (number : Edge → ℕ) (elsewhere : (e : Edge) → is_at a e.from ≡ false → number e ≡ 0) where
  -- where no place is, no edge leaves
  none_leaves : (from : Place) (walk : List Edge) → Leads edge_shape (HasEdge flow) from walk Exit → sum_by number walk ≡ 0
  none_leaves from [] leads = refl
  none_leaves from (e ∷ walk) (has, starts, leads) =
      let out : is_at a e.from ≡ false = ⊎_elim
      (λ (at : is_at a e.from ≡ true). absurd (true≢false (sym (reached flow.places e.from a (well.starts e has) at) ∙ none)))
      (λ (out : is_at a e.from ≡ false). out)
      (cases_Bool (is_at a e.from)) in
      let here : number e ≡ 0 = elsewhere e out in
      let rest = none_leaves e.to walk leads in
      omega (arith, sum_by-cons number e walk, here, rest)

module _ (flow : Flow) (well : IsWellFormed flow) (tree : Tree) (longest : Longest) (is : IsLongest flow tree longest) (a : ℕ) where
  walk_exact : (number : Option Taken → ℕ) (sum : ℕ)
      → ((known : is_reached flow.places a ≡ true) → number (taken_at flow (unfolded longest.walk) a) ≡ sum) → number None ≡ 0 → ((none : is_reached flow.places a ≡ false) → sum ≡ 0)
      → number (taken_at flow (unfolded longest.walk) a) ≡ sum
  walk_exact number sum there nowhere zero = ⊎_elim there
      (λ (none : is_reached flow.places a ≡ false).
      ap (λ (b : Bool). number (if b then Some (taken_of flow.edges (unfolded longest.walk) (length flow.edges) a) else None)) none ∙ nowhere ∙ sym (zero none))
      (cases_Bool (is_reached flow.places a))

  passes_exact : passes_of (taken_at flow (unfolded longest.walk) a) ≡ sum_by (pass_at a) (unfolded longest.walk)
  passes_exact = walk_exact (λ o. passes_of o) (sum_by (pass_at a) (unfolded longest.walk))
      (λ known. ap (λ (o : Option Taken). passes_of o) (numbers_of_walk flow tree longest.bound longest.walk a well is.walk_is (bound_fits flow tree longest is) known).4)
      refl
      (λ none. none_leaves flow well a none (pass_at a) (λ e out. ap (λ (b : Bool). cond b 1 0) out) flow.entry (unfolded longest.walk) is.walk_is.complete)

  done_exact : done_of (taken_at flow (unfolded longest.walk) a) ≡ sum_by (done_at a) (unfolded longest.walk)
  done_exact = walk_exact (λ o. done_of o) (sum_by (done_at a) (unfolded longest.walk))
      (λ known. ap (λ (o : Option Taken). done_of o) (numbers_of_walk flow tree longest.bound longest.walk a well is.walk_is (bound_fits flow tree longest is) known).4)
      refl
      (λ none. none_leaves flow well a none (done_at a) (λ e out. ap (λ (b : Bool). cond (b && is_same_label e.label Do) 1 0) out) flow.entry (unfolded longest.walk) is.walk_is.complete)

  ticks_exact : ticks_of (taken_at flow (unfolded longest.walk) a) ≡ sum_by (cost_at a) (unfolded longest.walk)
  ticks_exact = walk_exact (λ o. ticks_of o) (sum_by (cost_at a) (unfolded longest.walk))
      (λ known. ap (λ (o : Option Taken). ticks_of o) (numbers_of_walk flow tree longest.bound longest.walk a well is.walk_is (bound_fits flow tree longest is) known).4)
      refl
      (λ none. none_leaves flow well a none (cost_at a) (λ e out. ap (λ (b : Bool). cond b e.cost 0) out) flow.entry (unfolded longest.walk) is.walk_is.complete)

-- ## Both

pub table_exact : (source : File) (words : Words) (st : Stated) (flow : Flow) (tree : Tree) (longest : Longest) (s : State) (inputs : List Input) (walk : List Edge) (passes : List Pass) (text : List ℕ)
    → IsWellFormed flow → StepCost → IsLongest flow tree longest → Leads edge_shape (HasEdge flow) flow.entry walk Exit → Follows words st flow.profile s inputs walk → ArePasses flow s inputs walk passes
    → cost_of edge_shape walk ≤ longest.bound → IsTable source words st flow (capped_at flow passes (unfolded longest.walk)) text → IsTable source words st flow (compared_at flow passes (unfolded longest.walk)) text
table_exact source words st flow tree longest s inputs walk passes text well law is leads follows are most table =
    subst (λ (f : ℕ → Compared). IsTable source words st flow f text) same table
  where
    small : (weight : Pass → ℕ) → ((p : Pass) (cost : ℕ) → 0 < cost → p.ticks ≤ cost → weight p ≤ cost) → sum_by weight passes < 2 ^ 64
    small weight fits =
        let all = weights_most words st flow well law weight fits s inputs flow.entry walk passes leads follows are in
        let bound = bound_fits flow tree longest is in
        omega (arith, all, most, bound)

    at : (a : ℕ) → capped_at flow passes (unfolded longest.walk) a ≡ compared_at flow passes (unfolded longest.walk) a
    at a = same_compared (capped_at flow passes (unfolded longest.walk) a) (compared_at flow passes (unfolded longest.walk) a)
        (same_numbers _ (run_at flow passes a)
        (capped_is (run_at flow passes a).passes
        (small (λ p. cond (is_at a (place_at flow.places p.place)) 1 0) (λ p cost some ticks. cond_within (is_at a (place_at flow.places p.place)) 1 cost some)))
        (capped_is (run_at flow passes a).done
        (small (λ p. cond (is_at a (place_at flow.places p.place) && p.done) 1 0) (λ p cost some ticks. cond_within (is_at a (place_at flow.places p.place) && p.done) 1 cost some)))
        (capped_is (run_at flow passes a).ticks
        (small (λ p. cond (is_at a (place_at flow.places p.place)) p.ticks 0) (λ p cost some ticks. cond_within (is_at a (place_at flow.places p.place)) p.ticks cost ticks))))
        (same_numbers _ (walk_at (unfolded longest.walk) a) (passes_exact flow well tree longest is a) (done_exact flow well tree longest is a) (ticks_exact flow well tree longest is a))

    same : capped_at flow passes (unfolded longest.walk) ≡ compared_at flow passes (unfolded longest.walk)
    same = λ i a. at a i
