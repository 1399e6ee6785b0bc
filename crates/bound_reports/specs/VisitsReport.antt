-- What the report of a handler that FIQ interrupts prints, and when it is refused.
use Rattle.std.specs.Prelude.{◌≡◌, ◌⊎◌, ◌+◌, ◌≤◌, ◌<◌, ◌++◌, ℕ, Bool, is_some, List, [], ◌∷◌}
use Rattle.std.specs.Prelude.{Option, Some, None, IfSome, option_map, Result, codes, decimal, unwrap_or}
use Rattle.bus_ticks.specs.declared.profile.Profile.{Profile}
use Rattle.bus_ticks.specs.declared.space.TheConstants.{FIQ_VECTOR}
use Rattle.walks.specs.declared.limits.TheConstants.{COST_LIMIT}
use Rattle.bus_ticks.specs.Worst.{fiq_entry}
use Rattle.statement.specs.Stated.{Stated}
use Rattle.longest_walk.specs.Visits.{visits_bound}
use Rattle.numbered_walks.specs.declared.fault.WalkFault.TheVariants as walk_fault
use Rattle.handlers.specs.Answers.{Answers}
use Rattle.handlers.specs.Report.{IsAccepted, IsBoundReport, IsRefused, IsReport}
use Rattle.responses.specs.Entry.{irq_entry}
use Rattle.handlers.specs.FiqHandler.{AreApart, IsFiqsRefused, fiq_bytes}
use Rattle.handlers.specs.Refusal.{StatedSource}
use Rattle.handlers.specs.Visits.{AreFewestVisits, BoundsRunsEvery, BoundsVisitedRuns}
use Rattle.handlers.specs.declared.fault.ReportFault.{ReportFault}
use Rattle.handlers.specs.declared.fault.ReportFault.TheVariants as report_fault
use Rattle.bound_reports.specs.declared.visit_rate.VisitRate.{VisitRate}
use Rattle.bound_reports.specs.declared.visit_rate.VisitRate.TheVariants.{Times, Every}
use Rattle.sources.specs.File.{File}

-- ## How many visits

-- for how many ticks FIQ may have waited as the handler begins: its line may rise while IRQ is taken
abbrev pub waited_by : Profile → (waited : Option ℕ) → ℕ
waited_by profile waited = unwrap_or waited (irq_entry profile)

-- the most visits: so many, or the fewest that are enough where one comes every so many ticks; None where no
-- number is enough, and so no time is found in which the handler ends
abbrev pub AreMostVisits : VisitRate → Profile → (irq fiq : ℕ) → Option ℕ → Type 0
AreMostVisits (Times k) profile irq fiq visits = visits ≡ Some k
AreMostVisits (Every every waited) profile irq fiq visits =
    AreFewestVisits profile irq fiq every (waited_by profile waited) visits

-- ## The text

-- a name and a number
abbrev pub number_line : List ℕ → ℕ → List ℕ
number_line name number = name ++ (decimal number ++ codes "\n")

-- how often FIQ comes, and for how long it may have waited, where that is no number of visits
abbrev pub rate_text : Profile → VisitRate → List ℕ
rate_text profile (Times k) = []
rate_text profile (Every every waited) =
    number_line (codes "every ") every ++ number_line (codes "waited ") (waited_by profile waited)

-- the most visits
abbrev pub visits_text : Option ℕ → List ℕ
visits_text None = []
visits_text (Some k) = number_line (codes "visits ") k

-- both bounds and the price of taking FIQ, in ticks
abbrev pub bounds_text : Profile → (irq fiq : ℕ) → List ℕ
bounds_text profile irq fiq =
    number_line (codes "irq ") irq
    ++ (number_line (codes "fiq ") fiq ++ number_line (codes "entry ") (fiq_entry profile))

-- the most ticks, if there is an end
abbrev pub total_text : Option ℕ → List ℕ
total_text None = codes "it never ends\n"
total_text (Some total) = number_line (codes "total ") total

abbrev pub summary : VisitRate → Profile → (irq fiq : ℕ) → (visits total : Option ℕ) → List ℕ
summary rate profile irq fiq visits total =
    codes "arcwcet visits\n"
    ++ (rate_text profile rate
    ++ (visits_text visits
    ++ (bounds_text profile irq fiq ++ total_text total)))

-- of handlers with these bounds and reports: the most visits, with a total that is not too large, and the
-- text
pub record AreJoined (rate : VisitRate) (profile : Profile) (irq fiq : ℕ) (irq_text fiq_text : List ℕ)
    (ends : Bool) (text : List ℕ) : Type 0 where
  pub visits : Option ℕ
  pub visits_are : AreMostVisits rate profile irq fiq visits
  pub small : IfSome visits (λ k. visits_bound profile irq fiq k < COST_LIMIT)
  pub ends_is : ends ≡ is_some visits
  pub text_is : text
      ≡ summary rate profile irq fiq visits (option_map (visits_bound profile irq fiq) visits)
      ++ (irq_text ++ fiq_text)

-- so many visits, the most, take 2^63 ticks or more
pub record AreTooMany (rate : VisitRate) (profile : Profile) (irq fiq : ℕ) : Type 0 where
  pub visits : ℕ
  pub visits_are : AreMostVisits rate profile irq fiq (Some visits)
  pub large : COST_LIMIT ≤ visits_bound profile irq fiq visits

-- ## Both handlers

-- a source and a statement have this bound and this report
abbrev pub HasBound : File → List ℕ → Profile → (bound : ℕ) → List ℕ → Type 0
HasBound source statement profile bound text =
    (stated : Stated) × IsBoundReport source statement profile stated bound text

-- so have FIQ's, and the handler begins at FIQ's vector
abbrev pub HasFiqBound : File → List ℕ → Profile → (bound : ℕ) → List ℕ → Type 0
HasFiqBound source fiq profile bound text =
    (stated : Stated) × IsBoundReport source fiq profile stated bound text × (stated.entry ≡ FIQ_VECTOR)

module _ (source : File) (own : Option File) (irq fiq : List ℕ) where
  -- both handlers have reports, FIQ's begins at its vector, and no word of one is where one of the other is
  pub record HaveReports (profile : Profile) : Type 0 where
    pub apart : AreApart source own
    pub irq_text : List ℕ
    pub irq_is : IsReport source irq profile irq_text
    pub fiq_text : List ℕ
    pub fiq_is : IsReport (fiq_bytes source own) fiq profile fiq_text
    pub entry_is : fiq_is.bounded.accepted.stated.entry ≡ FIQ_VECTOR

  module _ (rate : VisitRate) (profile : Profile) where
    -- ## The report

    -- every run that keeps both statements with at most k visits takes at most the total, and so does every
    -- one in which FIQ is taken at this rate
    pub record BoundRuns (both : HaveReports profile) (k : ℕ) : Type 0 where
      pub counted : BoundsVisitedRuns both.irq_is.bounded.accepted.loops.graph.words
          both.fiq_is.bounded.accepted.loops.graph.words both.fiq_is.bounded.accepted.stated profile
          both.fiq_is.bounded.accepted.flow both.irq_is.bounded.accepted.stated
          both.irq_is.bounded.accepted.flow k
          (visits_bound profile both.irq_is.bounded.longest.bound both.fiq_is.bounded.longest.bound k)
      pub timed : (every : ℕ) (waited : Option ℕ) → rate ≡ Every every waited
          → BoundsRunsEvery both.irq_is.bounded.accepted.loops.graph.words
          both.fiq_is.bounded.accepted.loops.graph.words both.fiq_is.bounded.accepted.stated profile
          both.fiq_is.bounded.accepted.flow both.irq_is.bounded.accepted.stated
          both.irq_is.bounded.accepted.flow every (waited_by profile waited)
          (visits_bound profile both.irq_is.bounded.longest.bound both.fiq_is.bounded.longest.bound k)

    -- The report of both statements on their sources, with the answer whether the interrupted handler ends.
    pub record IsVisitsReport (ends : Bool) (text : List ℕ) : Type 0 where
      pub both : HaveReports profile
      pub joined : AreJoined rate profile both.irq_is.bounded.longest.bound
          both.fiq_is.bounded.longest.bound both.irq_text both.fiq_text ends text
      pub runs : IfSome joined.visits (BoundRuns both)

    -- what has a report
    pub record AreAccepted : Type 0 where
      pub both : HaveReports profile
      pub not_too_many : AreTooMany rate profile both.irq_is.bounded.longest.bound
          both.fiq_is.bounded.longest.bound → ⊥

    -- ## Refusals

    -- both handlers have reports, and the most visits take 2^63 ticks or more
    pub record IsTotalTooLarge : Type 0 where
      pub both : HaveReports profile
      pub too_many : AreTooMany rate profile both.irq_is.bounded.longest.bound
          both.fiq_is.bounded.longest.bound

-- the sources and the statements on them, in the order of the work
abbrev pub parts_of : (source : File) → (own : Option File) → (irq fiq : List ℕ) → List StatedSource
parts_of source own irq fiq = (source, irq) ∷ (fiq_bytes source own, fiq) ∷ []

-- When each refusal is answered: those of the interrupted handler, then those of FIQ's, and last that the
-- total is 2^63 ticks or more.
abbrev pub AreRefused : File → Option File → List ℕ → List ℕ → VisitRate → Profile → ReportFault
    → Type 0
AreRefused source own irq fiq rate profile fault =
    IsRefused source irq profile fault
    ⊎ ((IsAccepted source irq profile × IsFiqsRefused source own fiq profile fault)
    ⊎ ((fault ≡ report_fault.Walk walk_fault.BoundTooLarge)
    × IsTotalTooLarge source own irq fiq rate profile))

-- the answer to both sources, both statements and how often FIQ interrupts: their report
abbrev pub ReportsVisits : {O : Type 0} → (O → Option (List ℕ)) → (O → ℕ) → File → Option File
    → List ℕ → List ℕ → VisitRate → Profile → O → O → Result Bool ReportFault → Type 0
ReportsVisits taken failures source own irq fiq rate profile old new result =
    Answers taken failures (IsVisitsReport source own irq fiq rate profile)
    (AreAccepted source own irq fiq rate profile) (AreRefused source own irq fiq rate profile) old new result
