-- What visits of FIQ's handler add to the response time of IRQ.
use Rattle.std.proofs.Common.{◌≡◌, ◌∙◌, ℕ, ◌+◌, ◌*◌, ◌≤◌, List, [], ◌∷◌, ◌++◌, length, Option, Some, None}
use Rattle.std.proofs.Common.{sym, ap, subst, arith}
use Rattle.std.proofs.Math.Nat.{add-mul, mul-add, mul-le-mul_right, suc-mul}
use Rattle.std.proofs.lemmas.List.Sums.{sum_by-append, sum_by-cons, sum_by_push}
use Rattle.bus_ticks.specs.Worst.{fiq_entry}
use Rattle.bus_ticks.specs.declared.profile.Profile.{Profile}
use Rattle.image.specs.Image.{Words}
use Rattle.walks.specs.Walk.{cost_of}
use Rattle.arm2_effect.specs.declared.step_end.Why.{Why}
use Rattle.arm2_exec.specs.Run.{Ends, Runs, why_stopped}
use Rattle.arm2_exec.specs.State.{State}
use Rattle.arm2_exec.specs.Step.{Step}
use Rattle.arm2_exec.specs.declared.machine.Input.{Input}
use Rattle.arm2_exec.specs.declared.machine.Ran.{Ran}
use Rattle.arm2_exec.specs.declared.machine.Stepped.{Stepped}
use Rattle.arm2_exec.proofs.StepLemmas.{same_profile}
use Rattle.control_flow.specs.declared.edges.Edge.{Edge}
use Rattle.control_flow.specs.Flow.{Flow, edge_shape}
use Rattle.flow_graph.specs.StepLaw.{Follows, IsEdgeOf, bursts_of}
use Rattle.flow_graph.proofs.StepLemmas.{cost, goes_on}
use Rattle.statement.specs.Stated.{Stated}
use Rattle.longest_walk.specs.Visits.{visits_bound}
use Rattle.kept_runs.specs.Visited.{AreVisits, FollowsVisited, IsVisit, MainStep, Visit, inputs_of}
use Rattle.kept_runs.specs.Visited.{visits_before, visits_of}
use Rattle.responses.specs.declared.interrupts.Interrupt.TheVariants.{Irq, Fiq}
use Rattle.responses.specs.Entry.{entry_ticks}
use Rattle.responses.specs.Response.{BoundsArrivals, BoundsStepsAt, TakesAtMost, is_at, response_time}
use Rattle.responses.specs.Visited.{BoundsHandler, KeepsStated, ServesVisited, VisitedResponseLaw}
use Rattle.responses.specs.Visited.{VisitedService, WaitsVisited, service_inputs, steps_of}
use Rattle.responses.proofs.EntryLemmas.{takes_within}

-- ## Prices

ended : (why : Option Why) (s : State) (ran : Ran) (after : State) (Goes : Type 0)
    → (Goes → after.profile ≡ s.profile) → Ends why s ran after Goes → after.profile ≡ s.profile
ended None s ran after Goes on end = on end
ended (Some why) s ran after Goes on end = ap (λ (t : State). t.profile) end.1

-- a run changes no prices
run_prices : (s : State) (inputs : List Input) (ran : Ran) (after : State) → Runs s inputs ran after
    → after.profile ≡ s.profile
run_prices s [] ran after runs = ap (λ (t : State). t.profile) runs.1
run_prices s (i ∷ inputs) ran after runs =
    ended (why_stopped runs.0.kind) s ran after _
    (λ on. run_prices runs.1 inputs on.0 after on.1 ∙ same_profile s i runs.0 runs.1 runs.2)
    runs.3

-- ## Parts of a run

module _ (profile : Profile) where
  -- a run whose first steps take at most so many ticks, with the price of their bursts, and what is left of
  -- it
  record StartsWithin (most : ℕ) (inputs : List Input) (ran : Ran) (mid : State) (rest : List Input)
      (after : State) : Type 0 where
    more : Ran
    runs : Runs mid rest more after
    ticks : ran.ticks ≤ most + more.ticks
    elapsed : ran.elapsed + profile.burst * bursts_of rest ≤ most + profile.burst * bursts_of
        inputs + more.elapsed

  cheaper : (most top : ℕ) (inputs : List Input) (ran : Ran) (mid : State) (rest : List Input) (after : State)
      → most ≤ top → StartsWithin most inputs ran mid rest after → StartsWithin top inputs ran mid rest after
  cheaper most top inputs ran mid rest after le is =
      record {
        more = is.more;
        runs = is.runs;
        ticks = omega (arith, le, is.ticks);
        elapsed = omega (arith, le, is.elapsed);
      }

  joined : (first second : ℕ) (inputs between rest : List Input) (ran : Ran) (mid last after : State)
      (is : StartsWithin first inputs ran mid between after)
      → StartsWithin second between is.more last rest after
      → StartsWithin (first + second) inputs ran last rest after
  joined first second inputs between rest ran mid last after is then_is = record {
    more = then_is.more;
    runs = then_is.runs;
    ticks = omega (arith, is.ticks, then_is.ticks);
    elapsed = omega (arith, is.elapsed, then_is.elapsed);
  }

  no_start : (ran : Ran) (s after : State) (rest : List Input) → Runs s rest ran after
      → StartsWithin 0 rest ran s rest after
  no_start ran s after rest runs =
      record { more = ran; runs = runs; ticks = omega arith; elapsed = omega arith }

  a_step : (most : ℕ) (s : State) (i : Input) (rest : List Input) (ran : Ran) (after : State)
      (stepped : Stepped) (next : State) → s.profile ≡ profile
      → Step s i stepped next → why_stopped stepped.kind ≡ None → stepped.ticks ≤ most
      → Runs s (i ∷ rest) ran after → StartsWithin most (i ∷ rest) ran next rest after
  a_step most s i rest ran after stepped next prices step goes_on_is le runs =
      let on = goes_on s i rest ran after stepped next step goes_on_is runs in
      let more : Ran = on.0 in
      let ticks : ran.ticks ≡ stepped.ticks + more.ticks = ap (λ (r : Ran). r.ticks) on.2 in
      let elapsed : ran.elapsed ≡ stepped.ticks + s.profile.burst * i.bursts + more.elapsed =
      ap (λ (r : Ran). r.elapsed) on.2 in
      let paid : s.profile.burst * i.bursts ≡ profile.burst * i.bursts =
      ap (λ (p : Profile). p.burst * i.bursts) prices in
      let all : profile.burst * bursts_of (i ∷ rest) ≡ profile.burst * i.bursts + profile.burst * bursts_of
      rest = ap (λ n. profile.burst * n) (sum_by-cons (λ (x : Input). x.bursts) i rest)
      ∙ mul-add profile.burst i.bursts (bursts_of rest) in
      record {
        more = more;
        runs = on.1;
        ticks = omega (arith, ticks, le);
        elapsed = omega (arith, elapsed, paid, all, le);
      }

  module _ (words : Words) (st : Stated) where
    an_edge : (s : State) (i : Input) (rest : List Input) (ran : Ran) (after : State) (stepped : Stepped)
        (next : State) (e : Edge) → IsEdgeOf words st profile s i stepped next e
        → Runs s (i ∷ rest) ran after → StartsWithin e.cost (i ∷ rest) ran next rest after
    an_edge s i rest ran after stepped next e is runs =
        a_step e.cost s i rest ran after stepped next is.executes.prices is.executes.step
        (ap why_stopped is.executes.plain) (cost words st profile s i stepped next e is) runs

    -- a run that follows a walk, of a longer run
    along : (s : State) (inputs rest : List Input) (walk : List Edge) (front ran : Ran) (mid after : State)
        → Follows words st profile s inputs walk → Runs s inputs front mid
        → Runs s (inputs ++ rest) ran after
        → StartsWithin (cost_of edge_shape walk) (inputs ++ rest) ran mid rest after
    along s [] rest [] front ran mid after follows done runs =
        no_start ran mid after rest (subst (λ n. Runs n rest ran after) (sym done.1) runs)
    along s [] rest (e ∷ walk) front ran mid after follows done runs = absurd follows
    along s (i ∷ inputs) rest [] front ran mid after follows done runs = absurd follows
    along s (i ∷ inputs) rest (e ∷ walk) front ran mid after follows done runs =
        let edge : IsEdgeOf words st profile s i follows.0 follows.1 e = follows.2 in
        let on = goes_on s i inputs front mid follows.0 follows.1 edge.executes.step
        (ap why_stopped edge.executes.plain) done in
        let first = an_edge s i (inputs ++ rest) ran after follows.0 follows.1 e edge runs in
        cheaper (e.cost + cost_of edge_shape walk) (cost_of edge_shape (e ∷ walk))
        (i ∷ (inputs ++ rest)) ran mid rest after
        (omega (arith, sum_by-cons (λ (x : Edge). x.cost) e walk))
        (joined e.cost (cost_of edge_shape walk) (i ∷ (inputs ++ rest)) (inputs ++ rest) rest ran follows.1
        mid after first
        (along follows.1 inputs rest walk on.0 first.more mid after follows.3 on.1 first.runs))

-- ## Visits

module _ (fiq_words : Words) (fiq : Stated) (profile : Profile) (fiq_flow : Flow) (most : ℕ)
    (bounds : BoundsHandler fiq_flow fiq.loops most) where
  abbrev Keeps : State → List Input → Type 0
  Keeps = KeepsStated fiq_words fiq profile fiq_flow

  -- what a visit takes at most
  abbrev visit : ℕ
  visit = most + fiq_entry profile

  a_visit : (s : State) (v : Visit) (rest : List Input) (ran : Ran) (next after : State)
      → IsVisit Keeps profile s v next → Runs s (v.taking ∷ (v.handling ++ rest)) ran after
      → StartsWithin profile visit (v.taking ∷ (v.handling ++ rest)) ran next rest after
  a_visit s v rest ran next after is runs =
      let entry : is.stepped.ticks ≤ fiq_entry profile =
      subst (λ (q : Profile). is.stepped.ticks ≤ entry_ticks q Fiq) is.prices
      (takes_within Fiq s v.taking is.stepped is.entered is.step is.takes_fiq) in
      let taken =
      a_step profile (fiq_entry profile) s v.taking (v.handling ++ rest) ran after is.stepped is.entered
      is.prices is.step (ap why_stopped is.takes_fiq) entry runs in
      let walk = is.keeps.walk in
      let dear : cost_of edge_shape walk ≤ most = bounds walk is.keeps.complete is.keeps.kept in
      let handled =
      along profile fiq_words fiq is.entered v.handling rest walk is.ran taken.more next after
      is.keeps.follows is.runs taken.runs in
      cheaper profile (fiq_entry profile + cost_of edge_shape walk) visit (v.taking ∷ (v.handling ++ rest))
      ran next rest after (omega (arith, dear))
      (joined profile (fiq_entry profile) (cost_of edge_shape walk) (v.taking ∷ (v.handling ++ rest))
      (v.handling ++ rest) rest ran is.entered next after taken handled)

  all_visits : (s : State) (visits : List Visit) (rest : List Input) (ran : Ran) (visited after : State)
      → AreVisits Keeps profile s visits visited
      → Runs s (visits_before visits rest) ran after
      → StartsWithin profile (length visits * visit) (visits_before visits rest) ran visited rest after
  all_visits s [] rest ran visited after are runs =
      cheaper profile 0 (0 * visit) rest ran visited rest after (omega arith)
      (no_start profile ran visited after rest (subst (λ n. Runs n rest ran after) (sym are) runs))
  all_visits s (v ∷ visits) rest ran visited after are runs =
      let first = a_visit s v (visits_before visits rest) ran are.0 after are.1 runs in
      let all : length (v ∷ visits) * visit ≡ length visits * visit + visit = suc-mul (length visits) visit in
      cheaper profile (visit + length visits * visit) (length (v ∷ visits) * visit)
      (visits_before (v ∷ visits) rest) ran visited rest after (omega (arith, all))
      (joined profile visit (length visits * visit) (visits_before (v ∷ visits) rest)
      (visits_before visits rest) rest ran are.0 visited after first
      (all_visits are.0 visits rest first.more visited after are.2 first.runs))

  pub visit_prices : (s : State) (visits : List Visit) (after : State)
      → AreVisits Keeps profile s visits after → s.profile ≡ profile → after.profile ≡ profile
  visit_prices s [] after are prices = ap (λ (t : State). t.profile) are ∙ prices
  visit_prices s (v ∷ visits) after are prices =
      let is : IsVisit Keeps profile s v are.0 = are.1 in
      visit_prices are.0 visits after are.2 (run_prices is.entered v.handling is.ran are.0 is.runs
      ∙ same_profile s v.taking is.stepped is.entered is.step ∙ is.prices)

  abbrev in_visits : List MainStep → ℕ
  in_visits steps = visits_of steps * visit

  one_more : (m : MainStep) (steps : List MainStep)
      → in_visits (m ∷ steps) ≡ length m.visits * visit + in_visits steps
  one_more m steps = ap (λ k. k * visit) (sum_by-cons (λ (x : MainStep). length x.visits) m steps)
      ∙ add-mul (length m.visits) (visits_of steps) visit

  -- visits, and a main step of so many ticks
  after_visits : (s : State) (m : MainStep) (rest : List Input) (ran : Ran) (visited next after : State)
      (stepped : Stepped) (top : ℕ) → AreVisits Keeps profile s m.visits visited → visited.profile ≡ profile
      → Step visited m.input stepped next → why_stopped stepped.kind ≡ None → stepped.ticks ≤ top
      → Runs s (visits_before m.visits (m.input ∷ rest)) ran after
      → StartsWithin profile (length m.visits * visit + top) (visits_before m.visits (m.input ∷ rest)) ran
      next rest after
  after_visits s m rest ran visited next after stepped top are prices step on le runs =
      let front = all_visits s m.visits (m.input ∷ rest) ran visited after are runs in
      joined profile (length m.visits * visit) top (visits_before m.visits (m.input ∷ rest))
      (m.input ∷ rest) rest ran visited next after front
      (a_step profile top visited m.input rest front.more after stepped next prices step on le front.runs)

  -- ## The wait

  record WaitedVisited (ticks : ℕ) (steps rest : List MainStep) (ran : Ran)
      (held after : State) : Type 0 where
    prices : held.profile ≡ profile
    start : StartsWithin profile (ticks + in_visits steps) (inputs_of (steps ++ rest)) ran held
        (inputs_of rest) after

  waiting : (s : State) (steps rest : List MainStep) (ticks : ℕ) (held : State) (ran : Ran) (after : State)
      → s.profile ≡ profile → WaitsVisited Keeps profile s steps ticks held
      → Runs s (inputs_of (steps ++ rest)) ran after → WaitedVisited ticks steps rest ran held after
  waiting s [] rest ticks held ran after prices waits runs = record {
    prices = ap (λ (t : State). t.profile) waits.1 ∙ prices;
    start = cheaper profile 0 (ticks + in_visits []) (inputs_of rest) ran held (inputs_of rest) after
        (omega arith)
        (no_start profile ran held after (inputs_of rest)
        (subst (λ n. Runs n (inputs_of rest) ran after) (sym waits.1) runs));
  }
  waiting s (m ∷ steps) rest ticks held ran after prices waits runs =
      let visited : State = waits.0 in
      let stepped : Stepped = waits.2.0 in
      let next : State = waits.2.1 in
      let step : Step visited m.input stepped next = waits.2.2 in
      let more = waits.2.5.0 in
      let paid : visited.profile ≡ profile = visit_prices s m.visits visited waits.1 prices in
      let first =
      after_visits s m (inputs_of (steps ++ rest)) ran visited next after stepped stepped.ticks waits.1
      paid step waits.2.3 (omega arith) runs in
      let left =
      waiting next steps rest more held first.more after (same_profile visited m.input stepped next step
      ∙ paid) waits.2.5.1 first.runs in
      let sum : ticks ≡ stepped.ticks + more = waits.2.5.2 in
      record {
        prices = left.prices;
        start = cheaper profile (length m.visits * visit + stepped.ticks + (more + in_visits steps))
            (ticks + in_visits (m ∷ steps)) (inputs_of (m ∷ (steps ++ rest))) ran held (inputs_of rest) after
            (omega (arith, sum, one_more m steps))
            (joined profile (length m.visits * visit + stepped.ticks) (more + in_visits steps)
            (inputs_of (m ∷ (steps ++ rest))) (inputs_of (steps ++ rest)) (inputs_of rest) ran next held after
            first left.start);
      }

  -- ## The handler's steps

  module _ (words : Words) (irq : Stated) where
    main_steps : (s : State) (steps : List MainStep) (walk : List Edge) (ran : Ran) (after : State)
        → FollowsVisited Keeps profile words irq s steps walk → Runs s (inputs_of steps) ran after
        → TakesAtMost profile (cost_of edge_shape walk + in_visits steps) (inputs_of steps) ran
    main_steps s [] [] ran after follows runs =
        let ticks : ran.ticks ≡ 0 = ap (λ (r : Ran). r.ticks) runs.0 in
        let elapsed : ran.elapsed ≡ 0 = ap (λ (r : Ran). r.elapsed) runs.0 in
        record { ticks = omega (arith, ticks); elapsed = omega (arith, elapsed) }
    main_steps s [] (e ∷ walk) ran after follows runs = absurd follows
    main_steps s (m ∷ steps) [] ran after follows runs = absurd follows
    main_steps s (m ∷ steps) (e ∷ walk) ran after follows runs =
        let visited : State = follows.0 in
        let stepped : Stepped = follows.2.0 in
        let next : State = follows.2.1 in
        let edge : IsEdgeOf words irq profile visited m.input stepped next e = follows.2.2 in
        let both =
        after_visits s m (inputs_of steps) ran visited next after stepped e.cost follows.1
        edge.executes.prices edge.executes.step (ap why_stopped edge.executes.plain)
        (cost words irq profile visited m.input stepped next e edge) runs in
        let left = main_steps next steps walk both.more after follows.2.3 both.runs in
        let walked : cost_of edge_shape (e ∷ walk) ≡ e.cost + cost_of edge_shape walk =
        sum_by-cons (λ (x : Edge). x.cost) e walk in
        record {
          ticks = omega (arith, both.ticks, left.ticks, walked, one_more m steps);
          elapsed = omega (arith, both.elapsed, left.elapsed, walked, one_more m steps);
        }

-- ## The whole

module _ (words fiq_words : Words) (irq fiq : Stated) (flow fiq_flow : Flow)
    (address longest masked arrival own most visits : ℕ)
    (arrivals : BoundsArrivals flow irq.loops address arrival) (steps : BoundsStepsAt flow address own)
    (bounds : BoundsHandler fiq_flow fiq.loops most) (s : State) (service : VisitedService)
    (is : ServesVisited words fiq_words irq fiq flow fiq_flow address masked s service)
    (long : is.in_progress.ticks ≤ longest)
    (few : visits_of (steps_of service) ≤ visits) where
  abbrev p : Profile
  p = flow.profile

  abbrev each : ℕ
  each = most + fiq_entry flow.profile

  walked : cost_of edge_shape (is.walk ++ is.last ∷ []) ≤ arrival + own
  walked =
      let cost_is : cost_of edge_shape (is.walk ++ is.last ∷ []) ≡ cost_of edge_shape is.walk + is.last.cost =
      sum_by_push (λ (e : Edge). e.cost) is.walk is.last in
      let first : cost_of edge_shape is.walk ≤ arrival = arrivals is.walk is.place is.comes in
      let then : is.last.cost ≤ own =
      steps is.last is.is_edge (ap (is_at address) is.from ∙ is.comes.there) in
      omega (arith, cost_is, first, then)

  -- the visits before the parts are all
  counted : visits_of service.waiting * each + (length (service.taking).visits * each + visits_of
      service.handling * each) ≤ visits * each
  counted =
      let n = visits_of service.waiting in
      let m = length (service.taking).visits in
      let k = visits_of service.handling in
      let parts : visits_of (steps_of service) ≡ n + (m + k) =
      sum_by-append (λ (x : MainStep). length x.visits) service.waiting (service.taking ∷ service.handling)
      ∙ ap (λ i. n + i) (sum_by-cons (λ (x : MainStep). length x.visits) service.taking
      service.handling) in
      let all : (n + (m + k)) * each ≡ n * each + (m * each + k * each) = add-mul n (m + k) each
      ∙ ap (λ i. n * each + i) (add-mul m k each) in
      let most_is : (n + (m + k)) * each ≤ visits * each =
      mul-le-mul_right each (subst (λ i. i ≤ visits) parts few) in
      omega (arith, all, most_is)

  whole : (ran : Ran) (after : State) → Runs s (service_inputs service) ran after
      → TakesAtMost flow.profile
      (visits_bound flow.profile (response_time flow.profile Irq longest masked arrival own) most visits)
      (service_inputs service) ran
  whole ran after runs =
      let served : List MainStep = service.taking ∷ service.handling in
      let begun =
      a_step p longest s service.in_progress (inputs_of (steps_of service)) ran after is.in_progress
      is.risen is.progresses.prices is.progresses.step is.progresses.goes_on long runs in
      let prices : is.risen.profile ≡ p =
      same_profile s service.in_progress is.in_progress is.risen is.progresses.step
      ∙ is.progresses.prices in
      let waited =
      waiting fiq_words fiq p fiq_flow most bounds is.risen service.waiting served is.waited is.unmasked
      begun.more after prices is.waits begun.runs in
      let start = waited.start in
      let paid : is.visited.profile ≡ p = visit_prices fiq_words fiq p fiq_flow most bounds is.unmasked
      (service.taking).visits is.visited is.visits waited.prices in
      let entry : is.taking.ticks ≤ entry_ticks p Irq =
      subst (λ (q : Profile). is.taking.ticks ≤ entry_ticks q Irq) paid
      (takes_within Irq is.visited (service.taking).input is.taking is.entered is.takes is.taken) in
      let taken = after_visits fiq_words fiq p fiq_flow most bounds is.unmasked service.taking
      (inputs_of service.handling) start.more is.visited is.entered after is.taking
      (entry_ticks p Irq) is.visits paid is.takes (ap why_stopped is.taken) entry start.runs in
      let handled = main_steps fiq_words fiq p fiq_flow most bounds words irq is.entered service.handling
      (is.walk ++ is.last ∷ []) taken.more after is.follows taken.runs in
      let held : is.waited ≤ masked = is.waited_most in
      record {
        ticks = omega (arith, begun.ticks, start.ticks, taken.ticks, handled.ticks, held, walked, counted);
        elapsed =
            omega (
              arith,
              begun.elapsed,
              start.elapsed,
              taken.elapsed,
              handled.elapsed,
              held,
              walked,
              counted,
            );
      }

pub visited_law : VisitedResponseLaw
visited_law words fiq_words irq fiq flow fiq_flow address longest masked arrival own most visits arrivals
    steps bounds s service ran after is long few runs =
    whole words fiq_words irq fiq flow fiq_flow address longest masked arrival own most visits arrivals steps
    bounds s service is long few ran after runs
