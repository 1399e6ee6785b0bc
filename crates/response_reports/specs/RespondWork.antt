-- What the parts of the work on a response return.
use Rattle.std.specs.Prelude.{◌≡◌, ◌⊎◌, ℕ, ◌+◌, ◌<◌, List, Option, Some, None}
use Rattle.bus_ticks.specs.declared.profile.Profile.{Profile}
use Rattle.walks.specs.declared.limits.TheConstants.{COST_LIMIT}
use Rattle.numbered_walks.specs.declared.fault.WalkFault.TheVariants as walk_fault
use Rattle.handlers.specs.Report.{IsBounded}
use Rattle.handlers.specs.declared.fault.ReportFault.{ReportFault}
use Rattle.handlers.specs.declared.fault.ReportFault.TheVariants as report_fault
use Rattle.responses.specs.declared.response.ResponseParts.{ResponseParts}
use Rattle.bus_ticks.specs.declared.space.TheConstants.{FIQ_VECTOR}
use Rattle.response_reports.specs.Question.{FiqQuestion, Question}
use Rattle.response_reports.specs.RespondReport.{AddUpTo, AreTooMany, AreVisits, IsReached, IsVisitor}
use Rattle.response_reports.specs.RespondReport.{IsVisitorRefused, parts_of}
use Rattle.response_reports.specs.RespondText.{response_of, visited_time}
use Rattle.response_reports.specs.declared.reaching.Reached.{Reached}
use Rattle.response_reports.specs.declared.visits.Response.{Response}
use Rattle.response_reports.specs.declared.visits.VisitedTime.{VisitedTime}
use Rattle.sources.specs.File.{File}

-- how the handler comes to the label
pub record IsReachedAs (q : Question) (profile : Profile) (reached : Reached) : Type 0 where
  pub is : IsReached q profile
  pub interrupt_is : is.aimed.entered.interrupt ≡ reached.interrupt
  pub arrival_is : is.arrival ≡ reached.arrival
  pub own_is : is.own ≡ reached.own

-- the bound of a stretch of code, in ticks
pub record IsBoundOf (source : File) (statement : List ℕ) (profile : Profile) (bound : ℕ) : Type 0 where
  pub bounded : IsBounded source statement profile
  pub bound_is : bounded.longest.bound ≡ bound

-- the parts of a response
pub record AreParts (q : Question) (profile : Profile) (parts : ResponseParts) : Type 0 where
  pub reached : IsReached q profile
  pub stretches : ℕ
  pub add_up : AddUpTo q.source profile q.masked_by stretches
  pub parts_are : parts_of q profile reached stretches ≡ parts

-- the parts of a response that is not too long, and their sum
pub record IsResponseOf (q : Question) (profile : Profile) (response : Response) : Type 0 where
  pub are : AreParts q profile response.parts
  pub ticks_are : response.ticks ≡ response_of profile response.parts
  pub small : response.ticks < COST_LIMIT

-- the bound of FIQ's handler, of a source and a statement
pub record IsFiqBoundOf (source : File) (statement : List ℕ) (profile : Profile) (bound : ℕ) : Type 0 where
  pub bounded : IsBounded source statement profile
  pub entry_is : bounded.accepted.stated.entry ≡ FIQ_VECTOR
  pub bound_is : bounded.longest.bound ≡ bound

-- the same, on the source that was read first or on its own
pub record IsVisitorBound (source : File) (profile : Profile) (fiq : FiqQuestion) (bound : ℕ) : Type 0 where
  pub visitor : IsVisitor source profile fiq
  pub bound_is : visitor.bounded.longest.bound ≡ bound

-- of a response with these parts
module _ (profile : Profile) (parts : ResponseParts) where
  -- its visits, by the bound of FIQ's handler, and the time with them
  pub record AreTimed (fiq : FiqQuestion) (bound : ℕ) (t : VisitedTime) : Type 0 where
    pub are : AreVisits profile parts fiq bound t.visits
    pub time_is : visited_time profile (response_of profile parts) t.visits ≡ t.time

  -- the same, where FIQ is asked for
  abbrev pub AreTimedFor : (source : File) → Option FiqQuestion → Option VisitedTime → Type 0
  AreTimedFor source None time = time ≡ None
  AreTimedFor source (Some fiq) time =
      (bound : ℕ) × IsVisitorBound source profile fiq bound
      × ((t : VisitedTime) × AreTimed fiq bound t × (time ≡ Some t))

  -- the sum with them is too large
  abbrev pub AreTooManyFor : (source : File) → Option FiqQuestion → Type 0
  AreTooManyFor source None = ⊥
  AreTooManyFor source (Some fiq) =
      (bound : ℕ) × IsVisitorBound source profile fiq bound × AreTooMany profile parts fiq bound

  -- FIQ's handler is refused, or that
  abbrev pub AreVisitsRefused : (source : File) → Option FiqQuestion → ReportFault → Type 0
  AreVisitsRefused source fiq fault =
      IsVisitorRefused source profile fiq fault
      ⊎ ((fault ≡ report_fault.Walk walk_fault.BoundTooLarge) × AreTooManyFor source fiq)
