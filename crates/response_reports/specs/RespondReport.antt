-- What the report of a handler's response time prints, and when it is refused.
use Rattle.std.specs.Prelude.{◌≡◌, ◌≢◌, ◌⊎◌, ℕ, ◌+◌, ◌≤◌, ◌<◌, ◌==◌, if◌then◌else◌, Bool, List, [], ◌∷◌}
use Rattle.std.specs.Prelude.{Option, Some, None, IfSome, Result, unwrap_or}
use Rattle.bus_ticks.specs.declared.profile.Profile.{Profile}
use Rattle.bus_ticks.specs.declared.space.TheConstants.{FIQ_VECTOR}
use Rattle.walks.specs.declared.limits.TheConstants.{COST_LIMIT}
use Rattle.image.specs.Image.{Words}
use Rattle.statement.specs.Stated.{Stated}
use Rattle.arm2_effect.specs.Exceptions.{entry_at}
use Rattle.arm2_exec.specs.Run.{Runs}
use Rattle.arm2_exec.specs.State.{State}
use Rattle.arm2_exec.specs.declared.machine.Ran.{Ran}
use Rattle.control_flow.specs.Flow.{Flow}
use Rattle.numbered_walks.specs.declared.fault.WalkFault.{WalkFault}
use Rattle.numbered_walks.specs.declared.fault.WalkFault.TheVariants as walk_fault
use Rattle.responses.specs.Entry.{vector_of}
use Rattle.responses.specs.Longest.{longest_step}
use Rattle.longest_walk.specs.Visits.{visits_bound}
use Rattle.responses.specs.Response.{IsWorstArrival, IsWorstStepAt, Serves, Service, TakesAtMost, inputs_of}
use Rattle.responses.specs.Visited.{ServesVisited, VisitedService, service_inputs}
use Rattle.responses.specs.declared.interrupts.Interrupt.{Interrupt}
use Rattle.responses.specs.declared.interrupts.Interrupt.TheVariants.{Irq}
use Rattle.responses.specs.declared.response.ResponseParts.{ResponseParts}
use Rattle.handlers.specs.Answers.{Answers}
use Rattle.handlers.specs.FiqHandler.{AreApart, IsFiqsRefused, fiq_bytes}
use Rattle.handlers.specs.Visits.{AreFewestVisits, IsTakenEvery}
use Rattle.handlers.specs.Report.{HasLoops, IsAccepted, IsBounded, IsHandlerRefused, IsRefused, IsWalkRefusal}
use Rattle.handlers.specs.declared.fault.ReportFault.{ReportFault}
use Rattle.handlers.specs.declared.fault.ReportFault.TheVariants as report_fault
use Rattle.source_reports.specs.DraftReport.{entry_of}
use Rattle.response_reports.specs.Question.{FiqQuestion, Question}
use Rattle.response_reports.specs.RespondText.{IsResponseText, response_of, visited_time}
use Rattle.response_reports.specs.declared.visits.FiqVisits.{FiqVisits}
use Rattle.sources.specs.File.{File}

-- ## What a response time bounds

-- a step in progress may take so many ticks: at most the longest, if they are given, else any
abbrev pub MayTake : (longest : Option ℕ) → (ticks : ℕ) → Type 0
MayTake (Some longest) ticks = ticks ≤ longest
MayTake None ticks = Unit {0}

-- Each run that serves the interrupt, after whatever step in progress that is allowed, takes at most so many
-- ticks from the beginning of that step to the end of the handler's first step at the address.
abbrev pub RespondsIn : Words → Stated → Flow → Interrupt → (address : ℕ) → (longest : Option ℕ)
    → (masked most : ℕ) → Type 0
RespondsIn words st flow interrupt address longest masked most =
    (s : State) (service : Service) (ran : Ran) (after : State)
    → (is : Serves words st flow interrupt address masked s service) → MayTake longest is.in_progress.ticks
    → Runs s (inputs_of service) ran after → TakesAtMost flow.profile most (inputs_of service) ran

-- The same of IRQ with visits of FIQ's handler, where FIQ is asked for at most once in `every` ticks, and may
-- have waited for so many as the step in progress begins.
abbrev pub RespondsVisited : (words fiq_words : Words) → (irq fiq : Stated) → (flow fiq_flow : Flow)
    → (address : ℕ) → (longest : Option ℕ) → (masked every waited most : ℕ) → Type 0
RespondsVisited words fiq_words irq fiq flow fiq_flow address longest masked every waited most =
    (s : State) (service : VisitedService) (ran : Ran) (after : State)
    → (is : ServesVisited words fiq_words irq fiq flow fiq_flow address masked s service)
    → MayTake longest is.in_progress.ticks → IsTakenEvery every waited s (service_inputs service)
    → Runs s (service_inputs service) ran after
    → TakesAtMost flow.profile most (service_inputs service) ran

-- ## The stretches of code that hold the interrupt back, of a source

module _ (source : File) (profile : Profile) where
  -- the greatest costs of the stretches of these statements, together
  abbrev pub AddUpTo : (texts : List (List ℕ)) → (total : ℕ) → Type 0
  AddUpTo [] total = total ≡ 0
  AddUpTo (text ∷ texts) total =
      (bounded : IsBounded source text profile) × (rest : ℕ) × AddUpTo texts rest
      × (total ≡ bounded.longest.bound + rest)

  -- one of these statements is refused, and those before it are accepted
  abbrev pub OneIsRefused : (texts : List (List ℕ)) → ReportFault → Type 0
  OneIsRefused [] fault = ⊥
  OneIsRefused (text ∷ texts) fault =
      IsRefused source text profile fault ⊎ (IsAccepted source text profile × OneIsRefused texts fault)

-- ## FIQ's handler, which visits the response

-- for how many ticks FIQ may have waited, if that is not given: where F is clear no longer than I, code that
-- holds IRQ back holds FIQ back as long, and the step in progress too
abbrev pub waited_of : Option ℕ → ResponseParts → ℕ
waited_of waited p = unwrap_or waited (if p.masked == 0 then 0 else p.longest + p.masked)

-- by the bound of FIQ's handler, of a response with these parts
module _ (profile : Profile) (parts : ResponseParts) (fiq : FiqQuestion) (bound : ℕ) where
  -- how it visits, with a sum that is not too large
  pub record AreVisits (v : FiqVisits) : Type 0 where
    pub bound_is : v.bound ≡ bound
    pub every_is : v.every ≡ fiq.every
    pub waited_is : v.waited ≡ waited_of fiq.waited parts
    pub fewest : AreFewestVisits profile (response_of profile parts) v.bound v.every v.waited v.visits
    pub small : IfSome (visited_time profile (response_of profile parts) v) (λ ticks. ticks < COST_LIMIT)

  -- so many visits, the fewest that are enough, take 2^63 ticks or more
  pub record AreTooMany : Type 0 where
    pub visits : ℕ
    pub fewest : AreFewestVisits profile (response_of profile parts) bound fiq.every
        (waited_of fiq.waited parts) (Some visits)
    pub large : COST_LIMIT ≤ visits_bound profile (response_of profile parts) bound visits

-- it has a bound and begins at FIQ's vector, and no word of its source is where one of the other is
pub record IsVisitor (source : File) (profile : Profile) (fiq : FiqQuestion) : Type 0 where
  pub apart : AreApart source fiq.own
  pub bounded : IsBounded (fiq_bytes source fiq.own) fiq.statement profile
  pub entry_is : bounded.accepted.stated.entry ≡ FIQ_VECTOR

-- it is refused, where FIQ is asked for
abbrev pub IsVisitorRefused : (source : File) → Profile → Option FiqQuestion → ReportFault → Type 0
IsVisitorRefused source profile None fault = ⊥
IsVisitorRefused source profile (Some fiq) fault = IsFiqsRefused source fiq.own fiq.statement profile fault

-- ## The handler

-- where the interrupt's handler begins
abbrev pub vector_at : Interrupt → ℕ
vector_at interrupt = (entry_at (vector_of interrupt)).address

-- which interrupts have a response: FIQ's handler visits that of IRQ alone
abbrev pub IsAskedOf : Option FiqQuestion → Interrupt → Type 0
IsAskedOf None interrupt = Unit {0}
IsAskedOf (Some fiq) interrupt = interrupt ≡ Irq

module _ (q : Question) (profile : Profile) where
  -- it has a flow graph and loops, and begins at the vector of an interrupt that has a response
  pub record IsEntered : Type 0 where
    pub stated : Stated
    pub flow : Flow
    pub loops : HasLoops q.source q.statement profile stated flow
    pub interrupt : Interrupt
    pub asked_of : IsAskedOf q.fiq interrupt
    pub entry_is : stated.entry ≡ vector_at interrupt

  -- and the label is an address by the source
  pub record IsAimed : Type 0 where
    pub entered : IsEntered
    pub at : ℕ
    pub at_is : entry_of entered.loops.graph.names q.label ≡ Some at

  -- and no refusal of its walks holds, and some come to a step there: the greatest ticks of the way and of
  -- the step
  pub record IsReached : Type 0 where
    pub aimed : IsAimed
    pub no_fault : (f : WalkFault) → f ≢ walk_fault.Memory
        → IsWalkRefusal aimed.entered.flow aimed.entered.stated.loops f → ⊥
    pub arrival : ℕ
    pub arrival_is : IsWorstArrival aimed.entered.flow aimed.entered.stated.loops aimed.at (Some arrival)
    pub own : ℕ
    pub own_is : IsWorstStepAt aimed.entered.flow aimed.at (Some own)

  -- ## The response

  -- with these stretches
  abbrev pub parts_of : IsReached → (stretches : ℕ) → ResponseParts
  parts_of r stretches =
      record {
        interrupt = r.aimed.entered.interrupt;
        longest = unwrap_or q.longest (longest_step profile);
        masked = unwrap_or q.masked 0 + stretches;
        arrival = r.arrival;
        own = r.own;
      }

  abbrev pub response : IsReached → (stretches : ℕ) → ℕ
  response r stretches = response_of profile (parts_of r stretches)

  -- what has a response time
  pub record HasResponse : Type 0 where
    pub reached : IsReached
    pub stretches : ℕ
    pub add_up : AddUpTo q.source profile q.masked_by stretches
    pub small : response reached stretches < COST_LIMIT

  -- ## With visits

  module _ (has : HasResponse) where
    abbrev pub entered : IsEntered
    entered = has.reached.aimed.entered

    abbrev pub parts : ResponseParts
    parts = parts_of has.reached has.stretches

    -- the response with so many visits bounds each run with visits; nothing where it never ends
    abbrev pub BoundsVisited : (fiq : FiqQuestion) → IsVisitor q.source profile fiq → FiqVisits → Type 0
    BoundsVisited fiq visitor v =
        IfSome (visited_time profile (response_of profile parts) v)
        (RespondsVisited entered.loops.graph.words visitor.bounded.accepted.loops.graph.words entered.stated
        visitor.bounded.accepted.stated entered.flow visitor.bounded.accepted.flow has.reached.aimed.at
        q.longest parts.masked v.every v.waited)

    -- the visits, where FIQ is asked for
    abbrev pub IsVisitedBy : Option FiqQuestion → Option FiqVisits → Type 0
    IsVisitedBy None visits = visits ≡ None
    IsVisitedBy (Some fiq) visits =
        (visitor : IsVisitor q.source profile fiq) × (v : FiqVisits)
        × AreVisits profile parts fiq visitor.bounded.longest.bound v × BoundsVisited fiq visitor v
        × (visits ≡ Some v)

    -- where FIQ is asked for its handler is accepted, and the sum with its visits is less than 2^63 ticks
    abbrev pub MayBeVisited : Option FiqQuestion → Type 0
    MayBeVisited fiq =
        IfSome fiq (λ f. (visitor : IsVisitor q.source profile f)
        × (AreTooMany profile parts f visitor.bounded.longest.bound → ⊥))

    -- or the sum with its visits is 2^63 ticks or more
    abbrev pub IsVisitedTooLong : Option FiqQuestion → Type 0
    IsVisitedTooLong None = ⊥
    IsVisitedTooLong (Some fiq) =
        (visitor : IsVisitor q.source profile fiq)
        × AreTooMany profile parts fiq visitor.bounded.longest.bound

  -- what has a report
  abbrev pub IsAnswerable : Type 0
  IsAnswerable = (has : HasResponse) × MayBeVisited has q.fiq

  -- the parts and their sum, which bounds each run that serves the interrupt, and the sum with FIQ's visits,
  -- with the answer whether they are within what is wanted
  pub record IsRespondReport (answer : Bool) (text : List ℕ) : Type 0 where
    pub has : HasResponse
    pub runs : RespondsIn has.reached.aimed.entered.loops.graph.words has.reached.aimed.entered.stated
        has.reached.aimed.entered.flow has.reached.aimed.entered.interrupt has.reached.aimed.at q.longest
        (unwrap_or q.masked 0 + has.stretches) (response has.reached has.stretches)
    pub visits : Option FiqVisits
    pub visited : IsVisitedBy has q.fiq visits
    pub text_is : IsResponseText profile q (parts_of has.reached has.stretches) visits answer text

  -- ## Refusals

  -- it begins at the vector of no interrupt that has a response
  pub record EntersElsewhere : Type 0 where
    pub stated : Stated
    pub flow : Flow
    pub loops : HasLoops q.source q.statement profile stated flow
    pub elsewhere : (interrupt : Interrupt) → IsAskedOf q.fiq interrupt → stated.entry ≢ vector_at interrupt

  -- the label is no address by the source
  pub record HasNoAddress : Type 0 where
    pub entered : IsEntered
    pub at_is : entry_of entered.loops.graph.names q.label ≡ None

  -- a refusal of its walks holds
  pub record HasWalkFault (fault : WalkFault) : Type 0 where
    pub aimed : IsAimed
    pub not_memory : fault ≢ walk_fault.Memory
    pub holds : IsWalkRefusal aimed.entered.flow aimed.entered.stated.loops fault

  -- none does, and no walk comes to the address, or no edge leaves it
  pub record IsNotReached : Type 0 where
    pub aimed : IsAimed
    pub no_fault : (f : WalkFault) → f ≢ walk_fault.Memory
        → IsWalkRefusal aimed.entered.flow aimed.entered.stated.loops f → ⊥
    pub none : IsWorstArrival aimed.entered.flow aimed.entered.stated.loops aimed.at None
        ⊎ IsWorstStepAt aimed.entered.flow aimed.at None

  -- the sum is 2^63 ticks or more
  pub record IsTooLong : Type 0 where
    pub reached : IsReached
    pub stretches : ℕ
    pub add_up : AddUpTo q.source profile q.masked_by stretches
    pub large : COST_LIMIT ≤ response reached stretches

  -- of a handler that has loops
  abbrev pub IsAimRefused : ReportFault → Type 0
  IsAimRefused report_fault.NotVector = EntersElsewhere
  IsAimRefused report_fault.NoSuchEntry = HasNoAddress
  IsAimRefused (report_fault.Walk fault) = HasWalkFault fault
  IsAimRefused report_fault.NotReached = IsNotReached
  IsAimRefused fault = ⊥

  -- When each refusal is answered, in the order of the work: those of the handler up to its loops, then those
  -- of where it begins, of the label and of its walks, then those of the stretches, then that the sum is too
  -- large; then those of FIQ's handler, and last that the sum with its visits is too large. An output fails
  -- whatever is asked.
  abbrev pub IsRespondRefused : ReportFault → Type 0
  IsRespondRefused fault =
      IsHandlerRefused q.source q.statement profile fault
      ⊎ (IsAimRefused fault
      ⊎ ((IsReached × OneIsRefused q.source profile q.masked_by fault)
      ⊎ (((fault ≡ report_fault.Walk walk_fault.BoundTooLarge) × IsTooLong)
      ⊎ ((HasResponse × IsVisitorRefused q.source profile q.fiq fault)
      ⊎ (((fault ≡ report_fault.Walk walk_fault.BoundTooLarge)
      × ((has : HasResponse) × IsVisitedTooLong has q.fiq))
      ⊎ (fault ≡ report_fault.Device))))))

  -- the answer: the report
  abbrev pub Responds : {O : Type 0} → (O → Option (List ℕ)) → (O → ℕ) → O → O → Result Bool ReportFault
      → Type 0
  Responds taken failures old new result =
      Answers taken failures IsRespondReport IsAnswerable IsRespondRefused old new result
