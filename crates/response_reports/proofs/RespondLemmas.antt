-- The report of a response time, and its refusals.
use Rattle.std.proofs.Common.{◌≡◌, ◌≢◌, ◌∙◌, ◌⊎◌, ℕ, ◌+◌, ◌≤◌, ◌<◌, Bool, true, false, List, Option, Some, None, Result, Ok, Err, refl, sym, ap, subst, inl, inr, arith}
use Rattle.std.specs.Prelude.{◌++◌, IfErr, IfSome, ◌^◌, map, option_map, unwrap_or}
use Rattle.bus_ticks.specs.declared.profile.Profile.{Profile}
use Rattle.image.specs.Image.{Words}
use Rattle.image.specs.Labels.{Names}
use Rattle.statement.specs.Stated.{Stated}
use Rattle.walks.specs.Walk.{cost_of}
use Rattle.control_flow.specs.Flow.{Flow, edge_shape}
use Rattle.longest_walk.specs.Visits.{visits_bound}
use Rattle.numbered_walks.specs.declared.fault.WalkFault.{WalkFault}
use Rattle.numbered_walks.specs.declared.fault.WalkFault.TheVariants as walk_fault
use Rattle.responses.specs.Longest.{longest_step}
use Rattle.responses.specs.Response.{BoundsArrivals, BoundsStepsAt, IsWorstArrival, IsWorstStepAt, NoneIsLonger, ResponseLaw, response_time}
use Rattle.responses.specs.Visited.{BoundsHandler, VisitedResponseLaw}
use Rattle.responses.specs.declared.interrupts.Interrupt.{Interrupt}
use Rattle.responses.specs.declared.interrupts.Interrupt.TheVariants.{Irq, Fiq}
use Rattle.responses.specs.declared.response.ResponseParts.{ResponseParts}
use Rattle.sources.specs.Source.{Said, source_of}
use Rattle.sources.specs.declared.read.Source.{Source}
use Rattle.source_reports.specs.DraftReport.{entry_of}
use Rattle.handlers.specs.FiqHandler.{fiq_bytes}
use Rattle.handlers.specs.Refusal.{Carries, CarriesOneOf, CarriesReadOf}
use Rattle.handlers.specs.Visits.{AreFewestVisits}
use Rattle.handlers.specs.Report.{BeforeOutput, HasLoops, IsAccepted, IsHandlerRefused, IsWalkRefusal}
use Rattle.handlers.specs.declared.fault.ReportFault.{ReportFault}
use Rattle.handlers.specs.declared.fault.ReportFault.TheVariants as report_fault
use Rattle.handlers.specs.declared.refusal.Refusal.{Refusal}
use Rattle.handlers.specs.declared.refusal.Stop.{Stop}
use Rattle.handlers.proofs.ApartLemmas.{fiqs_refusals}
use Rattle.handlers.proofs.FewestLemmas.{one_fewest}
use Rattle.handlers.proofs.HandlerLemmas.{handler_refusals, one_graph, one_ok}
use Rattle.handlers.proofs.RefusalLemmas.{then_of}
use Rattle.response_reports.specs.Question.{FiqQuestion, Question, fiq_part, parts_asked, statements_of}
use Rattle.response_reports.specs.RespondReport.{AddUpTo, AreTooMany, AreVisits, HasResponse, IsAimRefused, IsAimed, IsAnswerable, IsAskedOf, IsEntered, IsReached, IsRespondRefused, IsRespondReport, IsTooLong, IsVisitedBy, IsVisitedTooLong, IsVisitor, IsVisitorRefused, MayBeVisited, OneIsRefused, RespondsIn, RespondsVisited, parts, parts_of, response, vector_at, waited_of}
use Rattle.response_reports.specs.RespondText.{IsResponseText, response_of, visited_time}
use Rattle.response_reports.specs.RespondWork.{AreParts, AreTimedFor, AreTooManyFor, AreVisitsRefused, IsReachedAs, IsResponseOf}
use Rattle.response_reports.specs.declared.reaching.Reached.{Reached}
use Rattle.response_reports.specs.declared.visits.FiqVisits.{FiqVisits}
use Rattle.response_reports.specs.declared.visits.Response.{Response}
use Rattle.response_reports.specs.declared.visits.VisitedTime.{VisitedTime}
use Rattle.response_reports.proofs.HeldBackLemmas.{after_all, none_refused, one_bound, one_sum}
use Rattle.response_reports.proofs.VisitedRunLemmas.{responds_visited}

-- ## Runs

module _ (words : Words) (st : Stated) (flow : Flow) (interrupt : Interrupt) (at masked arrival own : ℕ)
    (law : ResponseLaw) (longer : NoneIsLonger) (ways : BoundsArrivals flow st.loops at arrival) (steps : BoundsStepsAt flow at own) where
  by_longest : (longest : Option ℕ) → RespondsIn words st flow interrupt at longest masked (response_time flow.profile interrupt (unwrap_or longest (longest_step flow.profile)) masked arrival own)
  by_longest (Some longest) = law words st flow interrupt at longest masked arrival own ways steps
  by_longest None = λ s service ran after is any runs.
      law words st flow interrupt at (longest_step flow.profile) masked arrival own ways steps s service ran after is (longer words st flow interrupt at masked s service is) runs

  pub responds_in : (profile : Profile) → flow.profile ≡ profile → (longest : Option ℕ)
      → RespondsIn words st flow interrupt at longest masked (response_time profile interrupt (unwrap_or longest (longest_step profile)) masked arrival own)
  responds_in profile same longest =
      subst (λ (p : Profile). RespondsIn words st flow interrupt at longest masked (response_time p interrupt (unwrap_or longest (longest_step p)) masked arrival own)) same (by_longest longest)

-- ## Visits

module _ (q : Question) (profile : Profile) (law : VisitedResponseLaw) (has : HasResponse q profile) where
  abbrev sum : ℕ
  sum = response_of profile (parts q profile has)

  -- the visits that are enough bound each run
  bounds_visited : (f : FiqQuestion) (visitor : IsVisitor q.source profile f) → has.reached.aimed.entered.interrupt ≡ Irq → (bound every waited : ℕ) → bound ≡ visitor.bounded.longest.bound → (visits : Option ℕ)
      → AreFewestVisits profile sum bound every waited visits
      → IfSome (option_map (visits_bound profile sum bound) visits)
      (RespondsVisited has.reached.aimed.entered.loops.graph.words visitor.bounded.accepted.loops.graph.words has.reached.aimed.entered.stated visitor.bounded.accepted.stated
      has.reached.aimed.entered.flow visitor.bounded.accepted.flow has.reached.aimed.at q.longest (unwrap_or q.masked 0 + has.stretches) every waited)
  bounds_visited f visitor irq bound every waited is None fewest = tt
  bounds_visited f visitor irq bound every waited is (Some k) fewest =
      let e = has.reached.aimed.entered in
      let greatest = visitor.bounded.walk.greatest in
      let most : BoundsHandler visitor.bounded.accepted.flow visitor.bounded.accepted.stated.loops bound =
      λ walk complete kept. subst (λ (n : ℕ). cost_of edge_shape walk ≤ n) (sym is) (greatest.upper walk complete kept) in
      let by_irq : sum ≡ response_time profile Irq (unwrap_or q.longest (longest_step profile)) (unwrap_or q.masked 0 + has.stretches) has.reached.arrival has.reached.own =
      ap (λ (i : Interrupt). response_time profile i (unwrap_or q.longest (longest_step profile)) (unwrap_or q.masked 0 + has.stretches) has.reached.arrival has.reached.own) irq in
      responds_visited e.loops.graph.words visitor.bounded.accepted.loops.graph.words e.stated visitor.bounded.accepted.stated e.flow visitor.bounded.accepted.flow bound most
      has.reached.aimed.at (unwrap_or q.masked 0 + has.stretches) has.reached.arrival has.reached.own every waited k law has.reached.arrival_is.1 has.reached.own_is.1
      profile e.loops.graph.graph_is.profile_is q.longest sum by_irq fewest.0

  pub visited_by : (fiq : Option FiqQuestion) → IsAskedOf fiq has.reached.aimed.entered.interrupt → (t : Option VisitedTime) → AreTimedFor profile (parts q profile has) q.source fiq t
      → IsVisitedBy q profile has fiq (option_map (λ v. v.visits) t)
  visited_by None irq t h = ap (option_map (λ (v : VisitedTime). v.visits)) h
  visited_by (Some f) irq t h =
      let visitor = h.1.visitor in
      let v = h.2.0.visits in
      let are : AreVisits profile (parts q profile has) f visitor.bounded.longest.bound v =
      subst (λ (n : ℕ). AreVisits profile (parts q profile has) f n v) (sym h.1.bound_is) h.2.1.are in
      (visitor, v, are, bounds_visited f visitor irq v.bound v.every v.waited are.bound_is v.visits are.fewest, ap (option_map (λ (v : VisitedTime). v.visits)) h.2.2)

-- ## One answer

one_interrupt : (i j : Interrupt) → vector_at i ≡ vector_at j → i ≡ j
one_interrupt Irq Irq e = refl
one_interrupt Fiq Fiq e = refl
one_interrupt Irq Fiq e = absurd (omega (arith, e))
one_interrupt Fiq Irq e = absurd (omega (arith, e))

one_arrival : (flow : Flow) (st : Stated) (at n m : ℕ) → IsWorstArrival flow st.loops at (Some n) → IsWorstArrival flow st.loops at (Some m) → n ≡ m
one_arrival flow st at n m h k =
    let up = k.1 h.0.walk h.0.place h.0.comes in
    let down = h.1 k.0.walk k.0.place k.0.comes in
    omega (arith, up, down, h.0.costs, k.0.costs)

one_step : (flow : Flow) (at n m : ℕ) → IsWorstStepAt flow at (Some n) → IsWorstStepAt flow at (Some m) → n ≡ m
one_step flow at n m h k =
    let up = k.1 h.0.edge h.0.is_edge h.0.from in
    let down = h.1 k.0.edge k.0.is_edge k.0.from in
    omega (arith, up, down, h.0.costs, k.0.costs)

module _ (q : Question) (profile : Profile) where
  -- of what is entered, and the names of its labels
  same_names : (a b : IsEntered q profile) → a.loops.graph.names ≡ b.loops.graph.names
  same_names a b =
      let g = a.loops.graph in
      let h = b.loops.graph in
      ap (λ (s : Said). s.1) (one_ok (g.words, g.names) (h.words, h.names) (source_of q.source) g.source_is h.source_is)

  same_address : (a b : IsAimed q profile) → a.at ≡ b.at
  same_address a b =
      let both : Some a.at ≡ Some b.at = sym a.at_is ∙ ap (λ (n : Names). entry_of n q.label) (same_names a.entered b.entered) ∙ b.at_is in
      cc both

  -- numbers of what is reached
  record AreOne (a b : IsReached q profile) : Type 0 where
    interrupts : a.aimed.entered.interrupt ≡ b.aimed.entered.interrupt
    arrivals : a.arrival ≡ b.arrival
    steps : a.own ≡ b.own

  one_reach : (a b : IsReached q profile) → AreOne a b
  one_reach a b =
      let x = a.aimed.entered in
      let y = b.aimed.entered in
      let same = one_graph q.source q.statement profile x.stated y.stated x.flow y.flow x.loops.graph y.loops.graph in
      let at = same_address a.aimed b.aimed in
      record {
        interrupts = one_interrupt x.interrupt y.interrupt (sym x.entry_is ∙ ap (λ (s : Stated). s.entry) same.same_stated ∙ y.entry_is);
        arrivals =
            one_arrival y.flow y.stated b.aimed.at a.arrival b.arrival
            (subst (λ (n : ℕ). IsWorstArrival y.flow y.stated.loops n (Some a.arrival)) at
            (subst (λ (s : Stated). IsWorstArrival y.flow s.loops a.aimed.at (Some a.arrival)) same.same_stated
            (subst (λ (f : Flow). IsWorstArrival f x.stated.loops a.aimed.at (Some a.arrival)) same.same_flow a.arrival_is)))
            b.arrival_is;
        steps =
            one_step y.flow b.aimed.at a.own b.own
            (subst (λ (n : ℕ). IsWorstStepAt y.flow n (Some a.own)) at (subst (λ (f : Flow). IsWorstStepAt f a.aimed.at (Some a.own)) same.same_flow a.own_is))
            b.own_is;
      }

  one_response : (a b : IsReached q profile) (n m : ℕ) → AddUpTo q.source profile q.masked_by n → AddUpTo q.source profile q.masked_by m → response q profile a n ≡ response q profile b m
  one_response a b n m h k =
      let one = one_reach a b in
      let sum = one_sum q.source profile q.masked_by n m h k in
      λ i. response_time profile (one.interrupts i) (unwrap_or q.longest (longest_step profile)) (unwrap_or q.masked 0 + sum i) (one.arrivals i) (one.steps i)

  -- ## What has a response is refused for

  module _ (a : HasResponse q profile) where
    abbrev own : IsEntered q profile
    own = a.reached.aimed.entered

    same_walks : (b : IsAimed q profile) (f : WalkFault) → f ≢ walk_fault.Memory → IsWalkRefusal b.entered.flow b.entered.stated.loops f → ⊥
    same_walks b f not_memory h =
        let same = one_graph q.source q.statement profile b.entered.stated own.stated b.entered.flow own.flow b.entered.loops.graph own.loops.graph in
        a.reached.no_fault f not_memory
        (subst (λ (s : Stated). IsWalkRefusal own.flow s.loops f) same.same_stated (subst (λ (w : Flow). IsWalkRefusal w b.entered.stated.loops f) same.same_flow h))

    same_ways : (b : IsAimed q profile) → IsWorstArrival b.entered.flow b.entered.stated.loops b.at None ⊎ IsWorstStepAt b.entered.flow b.at None → ⊥
    same_ways b h =
        let same = one_graph q.source q.statement profile b.entered.stated own.stated b.entered.flow own.flow b.entered.loops.graph own.loops.graph in
        let at = same_address b a.reached.aimed in
        elim h [
          | inl none ↦
              let has = a.reached.arrival_is.0 in
              (subst (λ (n : ℕ). IsWorstArrival own.flow own.stated.loops n None) at
              (subst (λ (s : Stated). IsWorstArrival own.flow s.loops b.at None) same.same_stated
              (subst (λ (f : Flow). IsWorstArrival f b.entered.stated.loops b.at None) same.same_flow none)))
              has.walk has.place has.comes
          | inr none ↦
              let has = a.reached.own_is.0 in
              (subst (λ (n : ℕ). IsWorstStepAt own.flow n None) at (subst (λ (f : Flow). IsWorstStepAt f b.at None) same.same_flow none)) has.edge has.is_edge has.from
        ]

    no_aim_refusal : (e : ReportFault) → IsAimRefused q profile e → ⊥
    no_aim_refusal report_fault.NotVector r =
        let same = one_graph q.source q.statement profile r.stated own.stated r.flow own.flow r.loops.graph own.loops.graph in
        r.elsewhere own.interrupt own.asked_of (ap (λ (s : Stated). s.entry) same.same_stated ∙ own.entry_is)
    no_aim_refusal report_fault.NoSuchEntry r =
        let both : None ≡ Some a.reached.aimed.at = sym r.at_is ∙ ap (λ (n : Names). entry_of n q.label) (same_names r.entered own) ∙ a.reached.aimed.at_is in
        cc both
    no_aim_refusal (report_fault.Walk f) r = same_walks r.aimed f r.not_memory r.holds
    no_aim_refusal report_fault.NotReached r = same_ways r.aimed r.none
    no_aim_refusal e r = r

  -- ## With visits

  one_parts : (a b : HasResponse q profile) → parts q profile a ≡ parts q profile b
  one_parts a b =
      let one = one_reach a.reached b.reached in
      let sum = one_sum q.source profile q.masked_by a.stretches b.stretches a.add_up b.add_up in
      λ i. record {
        interrupt = one.interrupts i;
        longest = unwrap_or q.longest (longest_step profile);
        masked = unwrap_or q.masked 0 + sum i;
        arrival = one.arrivals i;
        own = one.steps i;
      }

  -- what is accepted with visits is refused for neither
  none_too_long : (has : HasResponse q profile) (fiq : Option FiqQuestion) → MayBeVisited q profile has fiq → (b : HasResponse q profile) → IsVisitedTooLong q profile b fiq → ⊥
  none_too_long has None may b r = r
  none_too_long has (Some f) may b r =
      let bounds = one_bound (fiq_bytes q.source f.own) profile f.statement r.0.bounded may.0.bounded in
      may.1
      (subst (λ (n : ℕ). AreTooMany profile (parts q profile has) f n) bounds
      (subst (λ (p : ResponseParts). AreTooMany profile p f r.0.bounded.longest.bound) (one_parts b has) r.1))

  visitor_refusals : (has : HasResponse q profile) (fiq : Option FiqQuestion) (e : ReportFault) → MayBeVisited q profile has fiq → IsVisitorRefused q.source profile fiq e → (e ≡ report_fault.Memory) ⊎ (e ≡ report_fault.Device)
  visitor_refusals has None e may r = absurd r
  visitor_refusals has (Some f) e may r = fiqs_refusals q.source f.own f.statement profile may.0.apart may.0.bounded.accepted may.0.entry_is e r

  respond_refusals : (e : ReportFault) → IsAnswerable q profile → IsRespondRefused q profile e → (e ≡ report_fault.Memory) ⊎ (e ≡ report_fault.Device)
  respond_refusals e a (inl r) =
      let own = a.0.reached.aimed.entered in
      inl (handler_refusals q.source q.statement profile own.stated own.flow e own.loops r)
  respond_refusals e a (inr (inl r)) = absurd (no_aim_refusal a.0 e r)
  respond_refusals e a (inr (inr (inl r))) = none_refused q.source profile q.masked_by a.0.stretches e a.0.add_up r.1
  respond_refusals e a (inr (inr (inr (inl r)))) =
      let same = one_response r.1.reached a.0.reached r.1.stretches a.0.stretches r.1.add_up a.0.add_up in
      absurd (omega (arith, same, a.0.small, r.1.large))
  respond_refusals e a (inr (inr (inr (inr (inl r))))) = visitor_refusals a.0 q.fiq e a.1 r.1
  respond_refusals e a (inr (inr (inr (inr (inr (inl r)))))) = absurd (none_too_long a.0 q.fiq a.1 r.1.0 r.1.1)
  respond_refusals e a (inr (inr (inr (inr (inr (inr r)))))) = inr r

  -- what has a report is accepted
  pub answerable : (answer : Bool) (text : List ℕ) → IsRespondReport q profile answer text → IsAnswerable q profile
  answerable answer text r = (r.has, may q.fiq r.visits r.visited)
    where
      fewest_large : (p : ResponseParts) (f : FiqQuestion) (bound : ℕ) (v : FiqVisits) → AreVisits profile p f bound v → AreTooMany profile p f bound → ⊥
      fewest_large p f bound v are many =
          let there : AreFewestVisits profile (response_of profile p) bound f.every (waited_of f.waited p) v.visits =
          subst (λ (n : ℕ). AreFewestVisits profile (response_of profile p) bound f.every n v.visits) are.waited_is
          (subst (λ (n : ℕ). AreFewestVisits profile (response_of profile p) bound n v.waited v.visits) are.every_is
          (subst (λ (n : ℕ). AreFewestVisits profile (response_of profile p) n v.every v.waited v.visits) are.bound_is are.fewest)) in
          let same : v.visits ≡ Some many.visits = one_fewest profile (response_of profile p) bound f.every (waited_of f.waited p) v.visits many.visits there many.fewest in
          let few : visits_bound profile (response_of profile p) v.bound many.visits < 2 ^ 63 =
          subst (λ (o : Option ℕ). IfSome (option_map (visits_bound profile (response_of profile p) v.bound) o) (λ ticks. ticks < 2 ^ 63)) same are.small in
          let few_there : visits_bound profile (response_of profile p) bound many.visits < 2 ^ 63 = subst (λ (n : ℕ). visits_bound profile (response_of profile p) n many.visits < 2 ^ 63) are.bound_is few in
          let large : 2 ^ 63 ≤ visits_bound profile (response_of profile p) bound many.visits = many.large in
          absurd (omega (arith, few_there, large))

      may : (fiq : Option FiqQuestion) (visits : Option FiqVisits) → IsVisitedBy q profile r.has fiq visits → MayBeVisited q profile r.has fiq
      may None visits h = tt
      may (Some f) visits h = (h.0, fewest_large (parts q profile r.has) f h.0.bounded.longest.bound h.1 h.2)

  -- the same of an answer
  pub only_memory_or_device : {T : Type 0} (r : Result T ReportFault) → IfErr r (BeforeOutput (IsRespondRefused q profile)) → IsAnswerable q profile
      → IfErr r (λ e. (e ≡ report_fault.Memory) ⊎ (e ≡ report_fault.Device))
  only_memory_or_device (Ok x) h a = tt
  only_memory_or_device (Err e) h a = respond_refusals e a h.1

  -- ## Refusals by their stage

  pub device_refused : IsRespondRefused q profile report_fault.Device
  device_refused = inr (inr (inr (inr (inr (inr refl)))))

  pub memory_refused : BeforeOutput (IsRespondRefused q profile) report_fault.Memory
  memory_refused = (λ e. cc e, inl tt)

  pub aim_or_memory : (e : ReportFault) → (e ≡ report_fault.Memory) ⊎ IsAimRefused q profile e → IsHandlerRefused q.source q.statement profile e ⊎ IsAimRefused q profile e
  aim_or_memory e (inl memory) = inl (subst (IsHandlerRefused q.source q.statement profile) (sym memory) tt)
  aim_or_memory e (inr h) = inr h

  -- on the way to the label
  pub reach_refused : (e : ReportFault) → IsHandlerRefused q.source q.statement profile e ⊎ IsAimRefused q profile e → BeforeOutput (IsRespondRefused q profile) e
  reach_refused e (inl h) = (λ d. subst (IsHandlerRefused q.source q.statement profile) d h, inl h)
  reach_refused e (inr h) = (λ d. subst (IsAimRefused q profile) d h, inr (inl h))

  -- of a stretch
  pub stretch_refused : IsReached q profile → (e : ReportFault) → BeforeOutput (OneIsRefused q.source profile q.masked_by) e → BeforeOutput (IsRespondRefused q profile) e
  stretch_refused reached e h = (h.0, inr (inr (inl (reached, h.1))))

  pub too_long : IsTooLong q profile → BeforeOutput (IsRespondRefused q profile) (report_fault.Walk walk_fault.BoundTooLarge)
  too_long h = (λ e. cc e, inr (inr (inr (inl (refl, h)))))

  -- of FIQ's handler, or with its visits
  pub visits_refused : (has : HasResponse q profile) (p : ResponseParts) → parts q profile has ≡ p → (e : ReportFault) → BeforeOutput (AreVisitsRefused profile p q.source q.fiq) e → BeforeOutput (IsRespondRefused q profile) e
  visits_refused has p same e (out, inl r) = (out, inr (inr (inr (inr (inl (has, r))))))
  visits_refused has p same e (out, inr r) = (out, inr (inr (inr (inr (inr (inl (r.0, (has, too_long_by q.fiq (subst (λ (o : ResponseParts). AreTooManyFor profile o q.source q.fiq) (sym same) r.1)))))))))
    where
      too_long_by : (fiq : Option FiqQuestion) → AreTooManyFor profile (parts q profile has) q.source fiq → IsVisitedTooLong q profile has fiq
      too_long_by None h = h
      too_long_by (Some f) h = (h.1.visitor, subst (λ (n : ℕ). AreTooMany profile (parts q profile has) f n) (sym h.1.bound_is) h.2)

  -- ## What work on the source carries

  pub reached_accepted : IsReached q profile → IsAccepted q.source q.statement profile
  reached_accepted r = record { stated = r.aimed.entered.stated; flow = r.aimed.entered.flow; loops = r.aimed.entered.loops; no_fault = r.no_fault }

  pub later_carries : (source : Source) → IsReached q profile → (s : Stop) → CarriesOneOf q.source source q.masked_by profile s → CarriesOneOf q.source source (statements_of q) profile s
  later_carries source reached s h = inr (reached_accepted reached, h)

  -- ## Parts

  module _ (r : Reached) (is : IsReachedAs q profile r) (stretches : ℕ) (add_up : AddUpTo q.source profile q.masked_by stretches) where
    -- the parts that the call makes
    pub made : (longest masked : ℕ) → unwrap_or q.longest (longest_step profile) ≡ longest → unwrap_or q.masked 0 + stretches ≡ masked
        → AreParts q profile (record { interrupt = r.interrupt; longest = longest; masked = masked; arrival = r.arrival; own = r.own })
    made longest masked l m = record {
      reached = is.is;
      stretches = stretches;
      add_up = add_up;
      parts_are = λ i. record { interrupt = is.interrupt_is i; longest = l i; masked = m i; arrival = is.arrival_is i; own = is.own_is i };
    }

    -- the interrupt is held back for too long
    pub masked_too_long : 2 ^ 63 ≤ unwrap_or q.masked 0 + stretches → IsTooLong q profile
    masked_too_long large = record { reached = is.is; stretches = stretches; add_up = add_up; large = omega (arith, large) }

  module _ (parts : ResponseParts) (are : AreParts q profile parts) where
    sum_is : response q profile are.reached are.stretches ≡ response_of profile parts
    sum_is = ap (response_of profile) are.parts_are

    pub sum_too_long : 2 ^ 63 ≤ response_of profile parts → IsTooLong q profile
    sum_too_long large = record { reached = are.reached; stretches = are.stretches; add_up = are.add_up; large = subst (λ (n : ℕ). 2 ^ 63 ≤ n) (sym sum_is) large }

    pub has_response : response_of profile parts < 2 ^ 63 → HasResponse q profile
    has_response small = record { reached = are.reached; stretches = are.stretches; add_up = are.add_up; small = subst (λ (n : ℕ). n < 2 ^ 63) (sym sum_is) small }

    pub responded : ResponseLaw → NoneIsLonger → VisitedResponseLaw → response_of profile parts < 2 ^ 63 → (t : Option VisitedTime) → AreTimedFor profile parts q.source q.fiq t
        → (answer : Bool) (text : List ℕ) → IsResponseText profile q parts (option_map (λ v. v.visits) t) answer text → IsRespondReport q profile answer text
    unfolding has_response
    responded law longer visited small t timed answer text is =
        let e = are.reached.aimed.entered in
        record {
          has = has_response small;
          runs =
              responds_in e.loops.graph.words e.stated e.flow e.interrupt are.reached.aimed.at (unwrap_or q.masked 0 + are.stretches) are.reached.arrival are.reached.own
              law longer are.reached.arrival_is.1 are.reached.own_is.1 profile e.loops.graph.graph_is.profile_is q.longest;
          visits = option_map (λ v. v.visits) t;
          visited = visited_by q profile visited (has_response small) q.fiq e.asked_of t (subst (λ (p : ResponseParts). AreTimedFor profile p q.source q.fiq t) (sym are.parts_are) timed);
          text_is = subst (λ (p : ResponseParts). IsResponseText profile q p (option_map (λ v. v.visits) t) answer text) (sym are.parts_are) is;
        }

  -- ## Of a response that is not too long

  module _ (r : Response) (is : IsResponseOf q profile r) where
    small_sum : response_of profile r.parts < 2 ^ 63
    small_sum = subst (λ (n : ℕ). n < 2 ^ 63) is.ticks_are is.small

    -- FIQ's handler is refused, or the sum with its visits
    pub visits_stop : (e : ReportFault) → BeforeOutput (AreVisitsRefused profile r.parts q.source q.fiq) e → BeforeOutput (IsRespondRefused q profile) e
    unfolding has_response
    visits_stop e h = visits_refused (has_response r.parts is.are small_sum) r.parts is.are.parts_are e h

    -- what is found behind the statements on the source is found behind all
    pub found_behind : (e : Refusal) → CarriesReadOf (fiq_part q.source q.fiq) profile e → CarriesReadOf (parts_asked q) profile e
    found_behind e h =
        then_of profile q.source q.statement (map (λ text. (q.source, text)) q.masked_by ++ fiq_part q.source q.fiq) (reached_accepted is.are.reached) e
        (after_all q.source profile (fiq_part q.source q.fiq) q.masked_by is.are.stretches is.are.add_up e h)

    pub times_are : (fiq : Option FiqQuestion) (t : Option VisitedTime) → AreTimedFor profile r.parts q.source fiq t → IfSome t (λ v. visited_time profile r.ticks v.visits ≡ v.time)
    times_are None t h = subst (λ (o : Option VisitedTime). IfSome o (λ v. visited_time profile r.ticks v.visits ≡ v.time)) (sym h) tt
    times_are (Some f) t h =
        let v : VisitedTime = h.2.0 in
        subst (λ (o : Option VisitedTime). IfSome o (λ v. visited_time profile r.ticks v.visits ≡ v.time)) (sym h.2.2)
        (ap (λ (n : ℕ). visited_time profile n v.visits) is.ticks_are ∙ h.2.1.time_is)

    pub reported : ResponseLaw → NoneIsLonger → VisitedResponseLaw → (t : Option VisitedTime) → AreTimedFor profile r.parts q.source q.fiq t
        → (answer : Bool) (text : List ℕ) → IsResponseText profile q r.parts (option_map (λ v. v.visits) t) answer text → IsRespondReport q profile answer text
    reported law longer visited t timed answer text text_is = responded r.parts is.are law longer visited small_sum t timed answer text text_is
