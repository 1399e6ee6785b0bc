-- A run that serves an interrupt takes at most the sum of its parts.
use Rattle.std.proofs.Common.{◌≡◌, ◌∙◌, ℕ, ◌+◌, ◌*◌, ◌≤◌, List, [], ◌∷◌, ◌++◌, None, sym, ap, subst, arith}
use Rattle.std.proofs.Math.Nat.{mul-add}
use Rattle.std.proofs.lemmas.List.Sums.{sum_by-cons, sum_by_push}
use Rattle.bus_ticks.specs.declared.profile.Profile.{Profile}
use Rattle.image.specs.Image.{Words}
use Rattle.walks.specs.Walk.{cost_of}
use Rattle.arm2_exec.specs.Run.{Runs, why_stopped}
use Rattle.arm2_exec.specs.State.{State}
use Rattle.arm2_exec.specs.Step.{Step}
use Rattle.arm2_exec.specs.declared.machine.Input.{Input}
use Rattle.arm2_exec.specs.declared.machine.Ran.{Ran}
use Rattle.arm2_exec.specs.declared.machine.Stepped.{Stepped}
use Rattle.arm2_exec.proofs.StepLemmas.{same_profile}
use Rattle.control_flow.specs.declared.edges.Edge.{Edge}
use Rattle.control_flow.specs.Flow.{Flow, edge_shape}
use Rattle.flow_graph.specs.StepLaw.{IsWithin, bursts_of}
use Rattle.flow_graph.proofs.StepLemmas.{goes_on, run_law}
use Rattle.statement.specs.Stated.{Stated}
use Rattle.responses.specs.declared.interrupts.Interrupt.{Interrupt}
use Rattle.responses.specs.Entry.{entry_ticks}
use Rattle.responses.specs.Response.{BoundsArrivals, BoundsStepsAt, NoneIsLonger, ResponseLaw, Serves}
use Rattle.responses.specs.Response.{Service, TakesAtMost, Waits, inputs_of, is_at, response_time}
use Rattle.responses.proofs.EntryLemmas.{takes_within}
use Rattle.responses.proofs.LongestLemmas.{none_above}

module _ (profile : Profile) where
  -- ## One step

  -- a run whose first step was not stopped: what is left of it, and that a bound on that is one on the whole,
  -- with the step's ticks
  record Goes (ticks : ℕ) (i : Input) (rest : List Input) (ran : Ran) (next : State)
      (after : State) : Type 0 where
    more : Ran
    runs : Runs next rest more after
    within : (most : ℕ) → TakesAtMost profile most rest more
        → TakesAtMost profile (ticks + most) (i ∷ rest) ran

  a_step : (s : State) (i : Input) (rest : List Input) (ran : Ran) (after : State) (stepped : Stepped)
      (next : State) → s.profile ≡ profile
      → Step s i stepped next → why_stopped stepped.kind ≡ None → Runs s (i ∷ rest) ran after
      → Goes stepped.ticks i rest ran next after
  a_step s i rest ran after stepped next prices step on runs =
      let left = goes_on s i rest ran after stepped next step on runs in
      let more : Ran = left.0 in
      let ticks : ran.ticks ≡ stepped.ticks + more.ticks = ap (λ (r : Ran). r.ticks) left.2 in
      let elapsed : ran.elapsed ≡ stepped.ticks + s.profile.burst * i.bursts + more.elapsed =
      ap (λ (r : Ran). r.elapsed) left.2 in
      let paid : s.profile.burst * i.bursts ≡ profile.burst * i.bursts =
      ap (λ (p : Profile). p.burst * i.bursts) prices in
      let all : profile.burst * bursts_of (i ∷ rest) ≡ profile.burst * i.bursts + profile.burst * bursts_of
      rest = ap (λ n. profile.burst * n) (sum_by-cons (λ (x : Input). x.bursts) i rest)
      ∙ mul-add profile.burst i.bursts (bursts_of rest) in
      record {
        more = more;
        runs = left.1;
        within =
            λ most h. record {
              ticks = omega (arith, ticks, h.ticks);
              elapsed = omega (arith, elapsed, paid, all, h.elapsed);
            };
      }

  higher : (most top : ℕ) (inputs : List Input) (ran : Ran) → most ≤ top → TakesAtMost profile most inputs ran
      → TakesAtMost profile top inputs ran
  higher most top inputs ran le h =
      record { ticks = omega (arith, le, h.ticks); elapsed = omega (arith, le, h.elapsed) }

  -- ## The wait

  -- a run that waits, and then goes on: what is left of it
  record Waited (ticks : ℕ) (inputs : List Input) (rest : List Input) (ran : Ran)
      (held after : State) : Type 0 where
    prices : held.profile ≡ profile
    more : Ran
    runs : Runs held rest more after
    within : (most : ℕ) → TakesAtMost profile most rest more
        → TakesAtMost profile (ticks + most) (inputs ++ rest) ran

  waiting : (interrupt : Interrupt) (s : State) (inputs rest : List Input) (ticks : ℕ) (held : State)
      (ran : Ran) (after : State) → s.profile ≡ profile
      → Waits interrupt s inputs ticks held → Runs s (inputs ++ rest) ran after
      → Waited ticks inputs rest ran held after
  waiting interrupt s [] rest ticks held ran after prices waits runs = record {
    prices = ap (λ (t : State). t.profile) waits.1 ∙ prices;
    more = ran;
    runs = subst (λ n. Runs n rest ran after) (sym waits.1) runs;
    within = λ most h. higher most (ticks + most) rest ran (omega arith) h;
  }
  waiting interrupt s (i ∷ inputs) rest ticks held ran after prices waits runs =
      let stepped : Stepped = waits.0 in
      let next : State = waits.1 in
      let step : Step s i stepped next = waits.2 in
      let first = a_step s i (inputs ++ rest) ran after stepped next prices step waits.3 runs in
      let left = waiting interrupt next inputs rest waits.5.0 held first.more after
      (same_profile s i stepped next step ∙ prices) waits.5.1 first.runs in
      let sum : ticks ≡ stepped.ticks + waits.5.0 = waits.5.2 in
      record {
        prices = left.prices;
        more = left.more;
        runs = left.runs;
        within = λ most h. higher (stepped.ticks + (waits.5.0 + most)) (ticks + most)
            (i ∷ (inputs ++ rest)) ran (omega (arith, sum))
            (first.within (waits.5.0 + most) (left.within most h));
      }

-- ## The handler's steps

module _ (words : Words) (st : Stated) (flow : Flow) (interrupt : Interrupt)
    (address longest masked arrival own : ℕ) (s : State) (service : Service)
    (is : Serves words st flow interrupt address masked s service)
    (arrivals : BoundsArrivals flow st.loops address arrival) (steps : BoundsStepsAt flow address own)
    (long : is.in_progress.ticks ≤ longest) where
  handled : (ran : Ran) (after : State) → Runs is.entered service.handling ran after
      → TakesAtMost flow.profile (arrival + own) service.handling ran
  handled ran after runs =
      let within : IsWithin flow.profile (is.walk ++ is.last ∷ []) service.handling ran =
      run_law words st flow.profile is.entered service.handling (is.walk ++ is.last ∷ []) ran after runs
      is.follows in
      let cost : cost_of edge_shape (is.walk ++ is.last ∷ []) ≡ cost_of edge_shape is.walk + is.last.cost =
      sum_by_push (λ (e : Edge). e.cost) is.walk is.last in
      let first : cost_of edge_shape is.walk ≤ arrival = arrivals is.walk is.place is.comes in
      let then : is.last.cost ≤ own =
      steps is.last is.is_edge (ap (is_at address) is.from ∙ is.comes.there) in
      record {
        ticks = omega (arith, within.ticks, cost, first, then);
        elapsed = omega (arith, within.elapsed, cost, first, then);
      }

  whole : (ran : Ran) (after : State) → Runs s (inputs_of service) ran after
      → TakesAtMost flow.profile (response_time flow.profile interrupt longest masked arrival own)
      (inputs_of service) ran
  whole ran after runs =
      let p : Profile = flow.profile in
      let rest : List Input = service.waiting ++ service.taking ∷ service.handling in
      let begun = a_step p s service.in_progress rest ran after is.in_progress is.risen is.progresses.prices
      is.progresses.step is.progresses.goes_on runs in
      let prices : is.risen.profile ≡ p =
      same_profile s service.in_progress is.in_progress is.risen is.progresses.step
      ∙ is.progresses.prices in
      let waited = waiting p interrupt is.risen service.waiting (service.taking ∷ service.handling) is.waited
      is.unmasked begun.more after prices is.waits begun.runs in
      let taken = a_step p is.unmasked service.taking service.handling waited.more after is.taking is.entered
      waited.prices is.takes (ap why_stopped is.taken) waited.runs in
      let entry : is.taking.ticks ≤ entry_ticks p interrupt =
      subst (λ (q : Profile). is.taking.ticks ≤ entry_ticks q interrupt) waited.prices
      (takes_within interrupt is.unmasked service.taking is.taking is.entered is.takes is.taken) in
      let few : is.waited ≤ masked = is.waited_most in
      let all = begun.within (is.waited + (is.taking.ticks + (arrival + own)))
      (waited.within (is.taking.ticks + (arrival + own))
      (taken.within (arrival + own) (handled taken.more after taken.runs))) in
      higher p (is.in_progress.ticks + (is.waited + (is.taking.ticks + (arrival + own))))
      (response_time p interrupt longest masked arrival own) (inputs_of service) ran
      (omega (arith, long, few, entry)) all

pub law : ResponseLaw
law words st flow interrupt address longest masked arrival own arrivals steps s service ran after is long
    runs = whole words st flow interrupt address longest masked arrival own s service is arrivals steps long
    ran after runs

pub none_longer : NoneIsLonger
none_longer words st flow interrupt address masked s service is =
    none_above flow.profile s service.in_progress is.in_progress is.risen is.progresses
