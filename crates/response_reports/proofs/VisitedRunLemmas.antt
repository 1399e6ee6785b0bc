-- Where FIQ is taken at most once in so many ticks, a response has no more visits than the fewest that are enough.
use Rattle.std.proofs.Common.{◌≡◌, ◌∙◌, ℕ, ◌+◌, ◌*◌, ◌≤◌, List, [], ◌∷◌, ◌++◌, length, Option, Some, None, refl, sym, ap, subst, arith}
use Rattle.std.specs.Prelude.{unwrap_or}
use Rattle.std.proofs.lemmas.List.Sums.{sum_by-append, sum_by-cons, sum_by_push}
use Rattle.bus_ticks.specs.declared.profile.Profile.{Profile}
use Rattle.image.specs.Image.{Words}
use Rattle.walks.specs.Walk.{cost_of}
use Rattle.arm2_exec.specs.Run.{Runs, why_stopped}
use Rattle.arm2_exec.specs.State.{State}
use Rattle.arm2_exec.specs.Step.{Step}
use Rattle.arm2_exec.specs.declared.machine.Input.{Input}
use Rattle.arm2_exec.specs.declared.machine.Ran.{Ran}
use Rattle.arm2_exec.specs.declared.machine.Stepped.{Stepped}
use Rattle.arm2_exec.proofs.StepLemmas.{same_profile}
use Rattle.control_flow.specs.declared.edges.Edge.{Edge}
use Rattle.control_flow.specs.Flow.{Flow, edge_shape}
use Rattle.flow_graph.specs.StepLaw.{IsEdgeOf}
use Rattle.statement.specs.Stated.{Stated}
use Rattle.longest_walk.specs.Visits.{visits_bound}
use Rattle.kept_runs.specs.Visited.{FollowsVisited, MainStep, inputs_of, visits_of}
use Rattle.responses.specs.declared.interrupts.Interrupt.TheVariants.{Irq}
use Rattle.responses.specs.Entry.{entry_ticks}
use Rattle.responses.specs.Longest.{longest_step}
use Rattle.responses.specs.Response.{BoundsArrivals, BoundsStepsAt, TakesAtMost, is_at, response_time}
use Rattle.responses.specs.Visited.{BoundsHandler, KeepsStated, ServesVisited, VisitedResponseLaw, VisitedService, WaitsVisited, service_inputs, steps_of}
use Rattle.responses.proofs.EntryLemmas.{takes_within}
use Rattle.responses.proofs.LongestLemmas.{none_above}
use Rattle.responses.proofs.VisitedLemmas.{visit_prices}
use Rattle.handlers.specs.Visits.{AreEnoughVisits, IsTakenEvery}
use Rattle.handlers.proofs.VisitRateLemmas.{AreSoFar, GoesWithin, all_visits, at_first, far_step, few_visits, less, some_cost}
use Rattle.response_reports.specs.RespondReport.{RespondsVisited}

module _ (words fiq_words : Words) (irq fiq : Stated) (flow fiq_flow : Flow) (most : ℕ) (bounds : BoundsHandler fiq_flow fiq.loops most) where
  abbrev p : Profile
  p = flow.profile

  abbrev Keeps : State → List Input → Type 0
  Keeps = KeepsStated fiq_words fiq flow.profile fiq_flow

  kept_within : (s : State) (inputs : List Input) → Keeps s inputs → GoesWithin fiq_words fiq flow.profile most s inputs
  kept_within s inputs keeps = record { walk = keeps.walk; follows = keeps.follows; within = bounds keeps.walk keeps.complete keeps.kept }

  -- ## Prices

  waits_prices : (s : State) (steps : List MainStep) (ticks : ℕ) (held : State) → s.profile ≡ p → WaitsVisited Keeps p s steps ticks held → held.profile ≡ p
  waits_prices s [] ticks held prices waits = ap (λ (t : State). t.profile) waits.1 ∙ prices
  waits_prices s (m ∷ steps) ticks held prices waits =
      let visited : State = waits.0 in
      let next : State = waits.2.1 in
      let paid : visited.profile ≡ p = visit_prices fiq_words fiq p fiq_flow most bounds s m.visits visited waits.1 prices in
      waits_prices next steps waits.2.5.0 held (same_profile visited m.input waits.2.0 next waits.2.2 ∙ paid) waits.2.5.1

  -- ## The handler's steps

  -- a walk that is followed up to an edge costs something
  some_own : (s : State) (steps : List MainStep) (walk : List Edge) (last : Edge) → FollowsVisited Keeps p words irq s steps (walk ++ last ∷ []) → 1 ≤ cost_of edge_shape (walk ++ last ∷ [])
  some_own s [] [] last follows = absurd follows
  some_own s [] (e ∷ walk) last follows = absurd follows
  some_own s (m ∷ steps) [] last follows =
      let edge : IsEdgeOf words irq p follows.0 m.input follows.2.0 follows.2.1 last = follows.2.2 in
      let costs = some_cost words irq p follows.0 m.input follows.2.0 follows.2.1 last edge in
      omega (arith, costs, sum_by-cons (λ (x : Edge). x.cost) last [])
  some_own s (m ∷ steps) (e ∷ walk) last follows =
      let edge : IsEdgeOf words irq p follows.0 m.input follows.2.0 follows.2.1 e = follows.2.2 in
      let costs = some_cost words irq p follows.0 m.input follows.2.0 follows.2.1 e edge in
      omega (arith, costs, sum_by-cons (λ (x : Edge). x.cost) e (walk ++ last ∷ []))

  module _ (address masked arrival own : ℕ) (arrivals : BoundsArrivals flow irq.loops address arrival) (at_most : BoundsStepsAt flow address own) (s : State) (service : VisitedService)
      (is : ServesVisited words fiq_words irq fiq flow fiq_flow address masked s service) where
    abbrev walked : ℕ
    walked = cost_of edge_shape (is.walk ++ is.last ∷ [])

    few_walked : walked ≤ arrival + own
    few_walked =
        let cost_is : walked ≡ cost_of edge_shape is.walk + is.last.cost = sum_by_push (λ (e : Edge). e.cost) is.walk is.last in
        let first : cost_of edge_shape is.walk ≤ arrival = arrivals is.walk is.place is.comes in
        let then : is.last.cost ≤ own = at_most is.last is.is_edge (ap (is_at address) is.from ∙ is.comes.there) in
        omega (arith, cost_is, first, then)

    some_walked : 1 ≤ walked
    some_walked = some_own is.entered service.handling is.walk is.last is.follows

    -- the visits before the parts are all
    counted : visits_of (steps_of service) ≡ visits_of service.waiting + length (service.taking).visits + visits_of service.handling
    counted =
        let front : visits_of (steps_of service) ≡ visits_of service.waiting + visits_of (service.taking ∷ service.handling) = sum_by-append (λ (x : MainStep). length x.visits) service.waiting (service.taking ∷ service.handling) in
        let rest : visits_of (service.taking ∷ service.handling) ≡ length (service.taking).visits + visits_of service.handling = sum_by-cons (λ (x : MainStep). length x.visits) service.taking service.handling in
        omega (arith, front, rest)

  -- ## How many visits there are

  module _ (bound every waited fewest : ℕ) (some : 1 ≤ bound) (enough : AreEnoughVisits flow.profile bound most every waited fewest) where
    abbrev Far : State → List Input → (own visits : ℕ) → Type 0
    Far = AreSoFar fiq_words fiq p most Keeps kept_within bound every waited fewest some enough

    waits_far : (s : State) (steps rest : List MainStep) (ticks : ℕ) (held : State) (own visits : ℕ) → 1 ≤ own → WaitsVisited Keeps p s steps ticks held → Far s (inputs_of (steps ++ rest)) (ticks + own) visits
        → Far held (inputs_of rest) own (visits + visits_of steps)
    waits_far s [] rest ticks held own visits some_own waits far =
        let same : visits ≡ visits + 0 = omega arith in
        let there : Far held (inputs_of rest) (ticks + own) visits = subst (λ n. Far n (inputs_of rest) (ticks + own) visits) (sym waits.1) far in
        subst (Far held (inputs_of rest) own) same
        (less fiq_words fiq p most Keeps kept_within bound every waited fewest some enough held (inputs_of rest) (ticks + own) own visits (omega arith) there)
    waits_far s (m ∷ steps) rest ticks held own visits some_own waits far =
        let visited : State = waits.0 in
        let stepped : Stepped = waits.2.0 in
        let next : State = waits.2.1 in
        let more = waits.2.5.0 in
        let sum : ticks ≡ stepped.ticks + more = waits.2.5.2 in
        let all = all_visits fiq_words fiq p most Keeps kept_within bound every waited fewest some enough s m.visits (m.input ∷ inputs_of (steps ++ rest)) visited (ticks + own) visits (omega (arith, some_own)) waits.1 far in
        let split : ticks + own ≡ stepped.ticks + (more + own) = omega (arith, sum) in
        let step = far_step fiq_words fiq p most Keeps kept_within bound every waited fewest some enough visited m.input (inputs_of (steps ++ rest)) stepped next stepped.ticks (more + own) (visits + length m.visits) waits.2.2 waits.2.3 (omega arith)
        (subst (λ n. Far visited (m.input ∷ inputs_of (steps ++ rest)) n (visits + length m.visits)) split all) in
        let left = waits_far next steps rest more held own (visits + length m.visits) some_own waits.2.5.1 step in
        let counted : visits + length m.visits + visits_of steps ≡ visits + visits_of (m ∷ steps) = omega (arith, sum_by-cons (λ (x : MainStep). length x.visits) m steps) in
        subst (Far held (inputs_of rest) own) counted left

    module _ (address longest masked arrival own : ℕ) (arrivals : BoundsArrivals flow irq.loops address arrival) (at_most : BoundsStepsAt flow address own)
        (all_is : bound ≡ response_time flow.profile Irq longest masked arrival own) (s : State) (service : VisitedService) (is : ServesVisited words fiq_words irq fiq flow fiq_flow address masked s service)
        (long : is.in_progress.ticks ≤ longest) (taken : IsTakenEvery every waited s (service_inputs service)) where
      abbrev walk_cost : ℕ
      walk_cost = walked address masked arrival own arrivals at_most s service is

      pub few : visits_of (steps_of service) ≤ fewest
      few =
          let entry = entry_ticks p Irq in
          let served : List MainStep = service.taking ∷ service.handling in
          let n = visits_of service.waiting in
          let m = length (service.taking).visits in
          let costs : 1 ≤ walk_cost = some_walked address masked arrival own arrivals at_most s service is in
          let walk_few : walk_cost ≤ arrival + own = few_walked address masked arrival own arrivals at_most s service is in
          let all_are = counted address masked arrival own arrivals at_most s service is in
          let first = at_first fiq_words fiq p most Keeps kept_within bound every waited fewest some enough s (service_inputs service) (longest + (masked + (entry + walk_cost))) (omega (arith, all_is, walk_few)) taken in
          let begun = far_step fiq_words fiq p most Keeps kept_within bound every waited fewest some enough s service.in_progress (inputs_of (steps_of service)) is.in_progress is.risen longest (masked + (entry + walk_cost)) 0
          is.progresses.step is.progresses.goes_on long first in
          let held : is.waited ≤ masked = is.waited_most in
          let less_held = less fiq_words fiq p most Keeps kept_within bound every waited fewest some enough is.risen (inputs_of (steps_of service)) (masked + (entry + walk_cost)) (is.waited + (entry + walk_cost)) 0 (omega (arith, held)) begun in
          let waited_far = waits_far is.risen service.waiting served is.waited is.unmasked (entry + walk_cost) 0 (omega (arith, costs)) is.waits less_held in
          let visited_far = all_visits fiq_words fiq p most Keeps kept_within bound every waited fewest some enough is.unmasked (service.taking).visits ((service.taking).input ∷ inputs_of service.handling) is.visited (entry + walk_cost) (0 + n)
          (omega (arith, costs)) is.visits waited_far in
          let prices : is.risen.profile ≡ p = same_profile s service.in_progress is.in_progress is.risen is.progresses.step ∙ is.progresses.prices in
          let still : is.unmasked.profile ≡ p = waits_prices is.risen service.waiting is.waited is.unmasked prices is.waits in
          let paid : is.visited.profile ≡ p = visit_prices fiq_words fiq p fiq_flow most bounds is.unmasked (service.taking).visits is.visited is.visits still in
          let dear : is.taking.ticks ≤ entry_ticks p Irq = subst (λ (q : Profile). is.taking.ticks ≤ entry_ticks q Irq) paid (takes_within Irq is.visited (service.taking).input is.taking is.entered is.takes is.taken) in
          let entered_far = far_step fiq_words fiq p most Keeps kept_within bound every waited fewest some enough is.visited (service.taking).input (inputs_of service.handling) is.taking is.entered entry walk_cost (0 + n + m)
          is.takes (ap why_stopped is.taken) dear visited_far in
          let all = few_visits fiq_words fiq p most Keeps kept_within bound every waited fewest some enough words irq is.entered service.handling (is.walk ++ is.last ∷ []) (0 + n + m) is.follows entered_far in
          omega (arith, all, all_are)

  -- ## Runs

  module _ (address masked arrival own every waited fewest : ℕ) (law : VisitedResponseLaw) (arrivals : BoundsArrivals flow irq.loops address arrival) (at_most : BoundsStepsAt flow address own) where
    abbrev sum : (longest : ℕ) → ℕ
    sum longest = response_time flow.profile Irq longest masked arrival own

    within : (longest : ℕ) → AreEnoughVisits flow.profile (sum longest) most every waited fewest → (s : State) (service : VisitedService) (ran : Ran) (after : State)
        → (is : ServesVisited words fiq_words irq fiq flow fiq_flow address masked s service) → is.in_progress.ticks ≤ longest → IsTakenEvery every waited s (service_inputs service) → Runs s (service_inputs service) ran after
        → TakesAtMost flow.profile (visits_bound flow.profile (sum longest) most fewest) (service_inputs service) ran
    within longest enough s service ran after is long taken runs =
        let some : 1 ≤ sum longest = omega (arith, some_walked address masked arrival own arrivals at_most s service is, few_walked address masked arrival own arrivals at_most s service is) in
        law words fiq_words irq fiq flow fiq_flow address longest masked arrival own most fewest arrivals at_most bounds s service ran after is long
        (few (sum longest) every waited fewest some enough address longest masked arrival own arrivals at_most refl s service is long taken) runs

    by_longest : (longest : Option ℕ) → AreEnoughVisits flow.profile (sum (unwrap_or longest (longest_step flow.profile))) most every waited fewest
        → RespondsVisited words fiq_words irq fiq flow fiq_flow address longest masked every waited (visits_bound flow.profile (sum (unwrap_or longest (longest_step flow.profile))) most fewest)
    by_longest (Some longest) enough = λ s service ran after is long taken runs. within longest enough s service ran after is long taken runs
    by_longest None enough = λ s service ran after is any taken runs.
        within (longest_step flow.profile) enough s service ran after is (none_above flow.profile s service.in_progress is.in_progress is.risen is.progresses) taken runs

    pub responds_visited : (profile : Profile) → flow.profile ≡ profile → (longest : Option ℕ) (bound : ℕ)
        → bound ≡ response_time profile Irq (unwrap_or longest (longest_step profile)) masked arrival own → AreEnoughVisits profile bound most every waited fewest
        → RespondsVisited words fiq_words irq fiq flow fiq_flow address longest masked every waited (visits_bound profile bound most fewest)
    responds_visited profile same longest bound is enough =
        let total : (q : Profile) → ℕ = λ q. response_time q Irq (unwrap_or longest (longest_step q)) masked arrival own in
        subst (λ n. RespondsVisited words fiq_words irq fiq flow fiq_flow address longest masked every waited (visits_bound profile n most fewest)) (sym is)
        (subst (λ (q : Profile). AreEnoughVisits q (total q) most every waited fewest → RespondsVisited words fiq_words irq fiq flow fiq_flow address longest masked every waited (visits_bound q (total q) most fewest)) same
        (by_longest longest)
        (subst (λ n. AreEnoughVisits profile n most every waited fewest) is enough))
