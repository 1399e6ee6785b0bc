-- What visits of FIQ add to the run of a handler that they interrupt.
use Rattle.std.proofs.Common.{◌≡◌, ◌∙◌, ℕ, ◌+◌, ◌*◌, ◌<◌, ◌≤◌, List, [], ◌∷◌, ◌++◌, length, None, sym, ap}
use Rattle.std.proofs.Common.{subst, arith}
use Rattle.std.proofs.Math.Nat.{add-mul, mul-add, mul-le-mul_right, suc-mul}
use Rattle.std.proofs.lemmas.List.Sums.{sum_by-cons}
use Rattle.bus_ticks.specs.declared.profile.Class.TheVariants.{Any}
use Rattle.bus_ticks.specs.declared.profile.Profile.{Profile}
use Rattle.bus_ticks.specs.Worst.{IsGreatest, IsTargetOf, fiq_entry, fiq_entry_price}
use Rattle.image.specs.Image.{Words}
use Rattle.walks.specs.Walk.{cost_of}
use Rattle.arm2_exec.specs.Kept.{interrupted_in}
use Rattle.arm2_exec.specs.Run.{Runs, why_stopped}
use Rattle.arm2_exec.specs.State.{State}
use Rattle.arm2_exec.specs.Step.{Step, address_in}
use Rattle.arm2_exec.specs.declared.machine.Input.{Input}
use Rattle.arm2_exec.specs.declared.machine.Ran.{Ran}
use Rattle.arm2_exec.specs.declared.machine.Stepped.{Stepped}
use Rattle.arm2_exec.proofs.TakenLemmas.{fiq_costs}
use Rattle.control_flow.specs.Flow.{Flow, edge_shape}
use Rattle.flow_graph.specs.StepLaw.{Follows, IsEdgeOf, bursts_of}
use Rattle.control_flow.specs.declared.edges.Edge.{Edge}
use Rattle.flow_graph.proofs.StepLemmas.{cost, goes_on}
use Rattle.statement.specs.Stated.{Stated}
use Rattle.loop_bounds.specs.Bounds.{IsGreatestCost}
use Rattle.longest_walk.specs.Visits.{visits_bound}
use Rattle.handlers.specs.Keeping.{KeepsStatement, TakesAtMost}
use Rattle.kept_runs.specs.Visited.{AreVisits, FollowsVisited, IsVisit, MainStep, Visit, inputs_of}
use Rattle.kept_runs.specs.Visited.{visits_before, visits_of}
use Rattle.handlers.specs.Visits.{BoundsVisitedRuns}

-- ## Parts of a run

module _ (profile : Profile) where
  -- a run whose first steps take at most so many ticks, with the price of their bursts, and what is left of
  -- it
  record StartsWithin (most : ℕ) (inputs : List Input) (ran : Ran) (mid : State) (rest : List Input)
      (after : State) : Type 0 where
    more : Ran
    runs : Runs mid rest more after
    ticks : ran.ticks ≤ most + more.ticks
    elapsed : ran.elapsed + profile.burst * bursts_of rest ≤ most + profile.burst * bursts_of
        inputs + more.elapsed

  cheaper : (most top : ℕ) (inputs : List Input) (ran : Ran) (mid : State) (rest : List Input) (after : State)
      → most ≤ top → StartsWithin most inputs ran mid rest after → StartsWithin top inputs ran mid rest after
  cheaper most top inputs ran mid rest after le is =
      record {
        more = is.more;
        runs = is.runs;
        ticks = omega (arith, le, is.ticks);
        elapsed = omega (arith, le, is.elapsed);
      }

  joined : (first second : ℕ) (inputs between rest : List Input) (ran : Ran) (mid last after : State)
      (is : StartsWithin first inputs ran mid between after)
      → StartsWithin second between is.more last rest after
      → StartsWithin (first + second) inputs ran last rest after
  joined first second inputs between rest ran mid last after is then_is = record {
    more = then_is.more;
    runs = then_is.runs;
    ticks = omega (arith, is.ticks, then_is.ticks);
    elapsed = omega (arith, is.elapsed, then_is.elapsed);
  }

  no_start : (ran : Ran) (s after : State) (rest : List Input) → Runs s rest ran after
      → StartsWithin 0 rest ran s rest after
  no_start ran s after rest runs =
      record { more = ran; runs = runs; ticks = omega arith; elapsed = omega arith }

  a_step : (most : ℕ) (s : State) (i : Input) (rest : List Input) (ran : Ran) (after : State)
      (stepped : Stepped) (next : State) → s.profile ≡ profile
      → Step s i stepped next → why_stopped stepped.kind ≡ None → stepped.ticks ≤ most
      → Runs s (i ∷ rest) ran after → StartsWithin most (i ∷ rest) ran next rest after
  a_step most s i rest ran after stepped next prices step goes_on_is le runs =
      let on = goes_on s i rest ran after stepped next step goes_on_is runs in
      let more : Ran = on.0 in
      let ticks : ran.ticks ≡ stepped.ticks + more.ticks = ap (λ (r : Ran). r.ticks) on.2 in
      let elapsed : ran.elapsed ≡ stepped.ticks + s.profile.burst * i.bursts + more.elapsed =
      ap (λ (r : Ran). r.elapsed) on.2 in
      let paid : s.profile.burst * i.bursts ≡ profile.burst * i.bursts =
      ap (λ (p : Profile). p.burst * i.bursts) prices in
      let all : profile.burst * bursts_of (i ∷ rest) ≡ profile.burst * i.bursts + profile.burst * bursts_of
      rest = ap (λ n. profile.burst * n) (sum_by-cons (λ (x : Input). x.bursts) i rest)
      ∙ mul-add profile.burst i.bursts (bursts_of rest) in
      record {
        more = more;
        runs = on.1;
        ticks = omega (arith, ticks, le);
        elapsed = omega (arith, elapsed, paid, all, le);
      }

  -- ## Steps along a walk

  module _ (words : Words) (st : Stated) where
    an_edge : (s : State) (i : Input) (rest : List Input) (ran : Ran) (after : State) (stepped : Stepped)
        (next : State) (e : Edge) → IsEdgeOf words st profile s i stepped next e
        → Runs s (i ∷ rest) ran after → StartsWithin e.cost (i ∷ rest) ran next rest after
    an_edge s i rest ran after stepped next e is runs =
        a_step e.cost s i rest ran after stepped next is.executes.prices is.executes.step
        (ap why_stopped is.executes.plain) (cost words st profile s i stepped next e is) runs

    -- a run that follows a walk, of a longer run
    along : (s : State) (inputs rest : List Input) (walk : List Edge) (front ran : Ran) (mid after : State)
        → Follows words st profile s inputs walk → Runs s inputs front mid
        → Runs s (inputs ++ rest) ran after
        → StartsWithin (cost_of edge_shape walk) (inputs ++ rest) ran mid rest after
    along s [] rest [] front ran mid after follows done runs =
        no_start ran mid after rest (subst (λ n. Runs n rest ran after) (sym done.1) runs)
    along s [] rest (e ∷ walk) front ran mid after follows done runs = absurd follows
    along s (i ∷ inputs) rest [] front ran mid after follows done runs = absurd follows
    along s (i ∷ inputs) rest (e ∷ walk) front ran mid after follows done runs =
        let edge : IsEdgeOf words st profile s i follows.0 follows.1 e = follows.2 in
        let on = goes_on s i inputs front mid follows.0 follows.1 edge.executes.step
        (ap why_stopped edge.executes.plain) done in
        let first = an_edge s i (inputs ++ rest) ran after follows.0 follows.1 e edge runs in
        cheaper (e.cost + cost_of edge_shape walk) (cost_of edge_shape (e ∷ walk))
        (i ∷ (inputs ++ rest)) ran mid rest after
        (omega (arith, sum_by-cons (λ (x : Edge). x.cost) e walk))
        (joined e.cost (cost_of edge_shape walk) (i ∷ (inputs ++ rest)) (inputs ++ rest) rest ran follows.1
        mid after first
        (along follows.1 inputs rest walk on.0 first.more mid after follows.3 on.1 first.runs))

-- ## Visits

module _ (irq_words fiq_words : Words) (fiq : Stated) (profile : Profile) (fiq_flow : Flow) (bound : ℕ)
    (dearest : IsGreatest (IsTargetOf Any) (fiq_entry_price profile) (fiq_entry profile))
    (greatest : IsGreatestCost fiq_flow fiq.loops bound) where
  -- what a visit costs at most
  abbrev visit_cost : ℕ
  visit_cost = bound + fiq_entry profile

  in_memory : (s : State) → address_in s.regs < 0x4000000
  in_memory s = omega arith

  pub takes_fiq_within : (s : State) (v : Visit) (after : State)
      (is : IsVisit (KeepsStatement fiq_words fiq profile fiq_flow) profile s v after)
      → is.stepped.ticks ≤ fiq_entry profile
  takes_fiq_within s v after is =
      let ticks : is.stepped.ticks ≡ fiq_entry_price profile (interrupted_in s) =
      fiq_costs s v.taking is.stepped is.entered is.step is.takes_fiq
      ∙ ap (λ (p : Profile). fiq_entry_price p (interrupted_in s)) is.prices in
      let most = dearest.none_above (interrupted_in s) (record { below = in_memory s; is_of = tt }) in
      omega (arith, ticks, most)

  a_visit : (s : State) (v : Visit) (rest : List Input) (ran : Ran) (next after : State)
      → IsVisit (KeepsStatement fiq_words fiq profile fiq_flow) profile s v next
      → Runs s (v.taking ∷ (v.handling ++ rest)) ran after
      → StartsWithin profile visit_cost (v.taking ∷ (v.handling ++ rest)) ran next rest after
  a_visit s v rest ran next after is runs =
      let taken =
      a_step profile (fiq_entry profile) s v.taking (v.handling ++ rest) ran after is.stepped is.entered
      is.prices is.step (ap why_stopped is.takes_fiq) (takes_fiq_within s v next is) runs in
      let walk = is.keeps.walk in
      let most : cost_of edge_shape walk ≤ bound = greatest.upper walk is.keeps.complete is.keeps.kept in
      let handled =
      along profile fiq_words fiq is.entered v.handling rest walk is.ran taken.more next after
      is.keeps.follows is.runs taken.runs in
      cheaper profile (fiq_entry profile + cost_of edge_shape walk) visit_cost
      (v.taking ∷ (v.handling ++ rest)) ran next rest after (omega (arith, most))
      (joined profile (fiq_entry profile) (cost_of edge_shape walk) (v.taking ∷ (v.handling ++ rest))
      (v.handling ++ rest) rest ran is.entered next after taken handled)

  all_visits : (s : State) (visits : List Visit) (rest : List Input) (ran : Ran) (visited after : State)
      → AreVisits (KeepsStatement fiq_words fiq profile fiq_flow) profile s visits visited
      → Runs s (visits_before visits rest) ran after → StartsWithin profile (length visits * visit_cost)
      (visits_before visits rest) ran visited rest after
  all_visits s [] rest ran visited after are runs =
      cheaper profile 0 (0 * visit_cost) rest ran visited rest after (omega arith)
      (no_start profile ran visited after rest (subst (λ n. Runs n rest ran after) (sym are) runs))
  all_visits s (v ∷ visits) rest ran visited after are runs =
      let first = a_visit s v (visits_before visits rest) ran are.0 after are.1 runs in
      let all : length (v ∷ visits) * visit_cost ≡ length visits * visit_cost + visit_cost =
      suc-mul (length visits) visit_cost in
      cheaper profile (visit_cost + length visits * visit_cost) (length (v ∷ visits) * visit_cost)
      (visits_before (v ∷ visits) rest) ran visited rest after (omega (arith, all))
      (joined profile visit_cost (length visits * visit_cost) (visits_before (v ∷ visits) rest)
      (visits_before visits rest) rest ran are.0 visited after first
      (all_visits are.0 visits rest first.more visited after are.2 first.runs))

  -- ## Whole runs

  module _ (irq : Stated) where
    main_steps : (s : State) (steps : List MainStep) (walk : List Edge) (ran : Ran) (after : State)
        → FollowsVisited (KeepsStatement fiq_words fiq profile fiq_flow) profile irq_words irq s steps walk
        → Runs s (inputs_of steps) ran after
        → TakesAtMost profile (cost_of edge_shape walk + visits_of steps * visit_cost) (inputs_of steps) ran
    main_steps s [] [] ran after follows runs =
        let ticks : ran.ticks ≡ 0 = ap (λ (r : Ran). r.ticks) runs.0 in
        let elapsed : ran.elapsed ≡ 0 = ap (λ (r : Ran). r.elapsed) runs.0 in
        record { ticks = omega (arith, ticks); elapsed = omega (arith, elapsed) }
    main_steps s [] (e ∷ walk) ran after follows runs = absurd follows
    main_steps s (m ∷ steps) [] ran after follows runs = absurd follows
    main_steps s (m ∷ steps) (e ∷ walk) ran after follows runs =
        let visited : State = follows.0 in
        let stepped : Stepped = follows.2.0 in
        let next : State = follows.2.1 in
        let n = length m.visits in
        let front = all_visits s m.visits (m.input ∷ inputs_of steps) ran visited after follows.1 runs in
        let step =
        an_edge profile irq_words irq visited m.input (inputs_of steps) front.more after stepped next e
        follows.2.2 front.runs in
        let both = joined profile (n * visit_cost) e.cost (inputs_of (m ∷ steps)) (m.input ∷ inputs_of steps)
        (inputs_of steps) ran visited next after front step in
        let left = main_steps next steps walk both.more after follows.2.3 both.runs in
        let walked : cost_of edge_shape (e ∷ walk) ≡ e.cost + cost_of edge_shape walk =
        sum_by-cons (λ (x : Edge). x.cost) e walk in
        let counted_is : visits_of (m ∷ steps) * visit_cost ≡ n * visit_cost + visits_of steps * visit_cost =
        ap (λ k. k * visit_cost) (sum_by-cons (λ (x : MainStep). length x.visits) m steps)
        ∙ add-mul n (visits_of steps) visit_cost in
        record {
          ticks = omega (arith, both.ticks, left.ticks, walked, counted_is);
          elapsed = omega (arith, both.elapsed, left.elapsed, walked, counted_is);
        }

    -- a run with at most k visits takes at most both bounds' total
    pub bounds_visited : (irq_flow : Flow) (irq_bound k : ℕ) → IsGreatestCost irq_flow irq.loops irq_bound
        → BoundsVisitedRuns irq_words fiq_words fiq profile fiq_flow irq irq_flow k
        (visits_bound profile irq_bound bound k)
    bounds_visited irq_flow irq_bound k most s steps ran after keeps few runs =
        let taken = main_steps s steps keeps.walk ran after keeps.follows runs in
        let walked : cost_of edge_shape keeps.walk ≤ irq_bound =
        most.upper keeps.walk keeps.complete keeps.kept in
        let visits : visits_of steps * visit_cost ≤ k * visit_cost = mul-le-mul_right visit_cost few in
        record {
          ticks = omega (arith, taken.ticks, walked, visits);
          elapsed = omega (arith, taken.elapsed, walked, visits);
        }
