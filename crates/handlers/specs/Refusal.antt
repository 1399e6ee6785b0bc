-- Refusals with what their faults were found in.
use Rattle.std.specs.Prelude.{◌≡◌, ◌≢◌, ◌⊎◌, ℕ, List, [], ◌∷◌, Option, Result, Ok, Err}
use Rattle.bus_ticks.specs.declared.profile.Profile.{Profile}
use Rattle.image.specs.Labels.{address_of}
use Rattle.control_flow.specs.Flow.{Flow}
use Rattle.control_flow.specs.Graph.{IsBuildFault, IsFlowGraph}
use Rattle.control_flow.specs.declared.faults.BuildFault.{BuildFault}
use Rattle.control_flow.specs.declared.faults.BuildFault.TheVariants as build_fault
use Rattle.statement.specs.Stated.{Stated}
use Rattle.statement.specs.Statement.{IsStatement}
use Rattle.statement.specs.declared.faults.StatementFault.{StatementFault}
use Rattle.statement.specs.declared.faults.StatementFault.TheVariants as statement_fault
use Rattle.loop_bounds.specs.Nest.{IsNestFault}
use Rattle.loop_bounds.specs.declared.fault.NestFault.{NestFault}
use Rattle.loop_bounds.specs.declared.fault.NestFault.TheVariants as nest_fault
use Rattle.sources.specs.Source.{IsSource}
use Rattle.sources.specs.declared.read.Source.{Source}
use Rattle.handlers.specs.Priced.{ByProfile, HasNoProfile}
use Rattle.handlers.specs.Report.{IsAccepted}
use Rattle.handlers.specs.declared.fault.ReportFault.{ReportFault}
use Rattle.handlers.specs.declared.fault.ReportFault.TheVariants as report_fault
use Rattle.handlers.specs.declared.refusal.Stop.{Stop}
use Rattle.handlers.specs.declared.refusal.Stop.TheVariants as stop
use Rattle.handlers.specs.declared.refusal.Refusal.{Refusal}
use Rattle.handlers.specs.declared.refusal.Refusal.TheVariants as refusal
use Rattle.sources.specs.File.{File}

-- ## The faults, without the rest

abbrev pub stop_fault : Stop → ReportFault
stop_fault (stop.Alone fault) = fault
stop_fault (stop.Statement text fault) = report_fault.Statement fault
stop_fault (stop.Graph stated profile fault) = report_fault.Graph fault
stop_fault (stop.Loops stated flow fault) = report_fault.Loops fault

abbrev pub refusal_fault : Refusal → ReportFault
refusal_fault (refusal.Alone fault) = fault
refusal_fault (refusal.OnSource source stopped) = stop_fault stopped

-- the answer with the fault alone
abbrev pub fault_only : {T : Type 0} → Result T Refusal → Result T ReportFault
fault_only (Ok x) = Ok x
fault_only (Err refused) = Err (refusal_fault refused)

-- the answer of work on the source, with the source where the work stopped
abbrev pub with_source : {T : Type 0} → Source → Result T Stop → Result T Refusal
with_source source (Ok x) = Ok x
with_source source (Err stopped) = Err (refusal.OnSource source stopped)

-- ## What they carry

-- any fault but those of a statement, of a flow graph and of loops, which come with what they were found in
abbrev pub ComesAlone : ReportFault → Type 0
ComesAlone (report_fault.Statement fault) = ⊥
ComesAlone (report_fault.Graph fault) = ⊥
ComesAlone (report_fault.Loops fault) = ⊥
ComesAlone fault = Unit {0}

-- a fault that comes without a source: of the source or of the output, or lack of memory
abbrev pub ComesWithoutSource : ReportFault → Type 0
ComesWithoutSource report_fault.Memory = Unit {0}
ComesWithoutSource report_fault.Device = Unit {0}
ComesWithoutSource (report_fault.Source fault) = Unit {0}
ComesWithoutSource (report_fault.Image fault) = Unit {0}
ComesWithoutSource (report_fault.Dialect fault) = Unit {0}
ComesWithoutSource fault = ⊥

-- of a source that was read, and the text of a statement on it
module _ (source : Source) (text : List ℕ) where
  -- the text of the statement, and its fault
  pub record CarriesText (own : List ℕ) (fault : StatementFault) : Type 0 where
    pub own_is : own ≡ text
    pub not_memory : fault ≢ statement_fault.Memory
    pub fault_is : IsStatement text (address_of source.labels) (Err fault)

  -- why there is no statement: lack of memory, or a fault of the text
  abbrev pub HasNoStatement : Stop → Type 0
  HasNoStatement (stop.Alone fault) = fault ≡ report_fault.Memory
  HasNoStatement (stop.Statement own fault) = CarriesText own.now fault
  HasNoStatement stopped = ⊥

  module _ (profile : Profile) where
    -- the statement that the text says, the prices by which it has no flow graph, and the fault
    pub record CarriesStatement (stated : Stated) (prices : Profile) (fault : BuildFault) : Type 0 where
      pub stated_is : IsStatement text (address_of source.labels) (Ok stated)
      pub prices_are : prices ≡ profile
      pub not_memory : fault ≢ build_fault.Memory
      pub holds : IsBuildFault source.image stated profile fault

    -- the statement that the text says, its flow graph, and the fault of the loops
    pub record CarriesGraph (stated : Stated) (flow : Flow) (fault : NestFault) : Type 0 where
      pub stated_is : IsStatement text (address_of source.labels) (Ok stated)
      pub no_fault : (f : BuildFault) → f ≢ build_fault.Memory → IsBuildFault source.image stated profile f
          → ⊥
      pub graph_is : IsFlowGraph source.image stated profile flow
      pub not_memory : fault ≢ nest_fault.Memory
      pub holds : IsNestFault flow stated.loops fault

    -- why work on the source stops: a fault with what it was found in, or another for which this holds
    abbrev pub StopsFor : (ReportFault → Type 0) → Stop → Type 0
    StopsFor IsOther (stop.Alone fault) = IsOther fault
    StopsFor IsOther (stop.Statement own fault) = CarriesText own.now fault
    StopsFor IsOther (stop.Graph stated prices fault) = CarriesStatement stated prices fault
    StopsFor IsOther (stop.Loops stated flow fault) = CarriesGraph stated flow fault

    -- why there is no handler: lack of memory, or a fault with what it was found in
    abbrev pub HasNoHandler : Stop → Type 0
    HasNoHandler = StopsFor (λ fault. fault ≡ report_fault.Memory)

    -- what work on the source carries where it stops
    abbrev pub Carries : Stop → Type 0
    Carries = StopsFor ComesAlone

-- what work on a source with several statements carries: it is of one of them, and those before it are
-- accepted
abbrev pub CarriesOneOf : (bytes : File) → Source → (texts : List (List ℕ)) → Profile → Stop → Type 0
CarriesOneOf bytes source [] profile stopped = ⊥
CarriesOneOf bytes source (text ∷ texts) profile stopped =
    Carries source text profile stopped
    ⊎ (IsAccepted bytes text profile × CarriesOneOf bytes source texts profile stopped)

-- what a refusal of a source's bytes and of statements on it carries: the source that the bytes say, and what
-- work on it does
abbrev pub CarriesRead : (bytes : File) → (texts : List (List ℕ)) → Profile → Refusal → Type 0
CarriesRead bytes texts profile (refusal.Alone fault) = ComesWithoutSource fault
CarriesRead bytes texts profile (refusal.OnSource source stopped) =
    IsSource bytes source × CarriesOneOf bytes source texts profile stopped

-- by the profile of a file, or by the first one where there is no file; or the file has none, and that fault
-- comes alone
abbrev pub CarriesBy : Option (List ℕ) → (Profile → Refusal → Type 0) → Refusal → Type 0
CarriesBy file CarriesPriced refused =
    ByProfile file (λ profile. CarriesPriced profile refused)
    ⊎ ((fault : ReportFault) × (refused ≡ refusal.Alone fault) × HasNoProfile file fault)

abbrev pub CarriesReadBy : Option (List ℕ) → (bytes : File) → (texts : List (List ℕ)) → Refusal → Type 0
CarriesReadBy file bytes texts refused = CarriesBy file (CarriesRead bytes texts) refused

-- ## Of several sources

-- the bytes of a source, and the text of a statement on it
abbrev pub StatedSource : Type 0
StatedSource = File × List ℕ

-- what work on one source after another carries where it stops: the source that the bytes of one say, and
-- what work on it does; those before it are accepted
abbrev pub CarriesOf : List StatedSource → Profile → Source → Stop → Type 0
CarriesOf [] profile source stopped = ⊥
CarriesOf (part ∷ parts) profile source stopped =
    (IsSource part.0 source × Carries source part.1 profile stopped)
    ⊎ (IsAccepted part.0 part.1 profile × CarriesOf parts profile source stopped)

-- what a refusal of such work carries
abbrev pub CarriesReadOf : List StatedSource → Profile → Refusal → Type 0
CarriesReadOf parts profile (refusal.Alone fault) = ComesWithoutSource fault
CarriesReadOf parts profile (refusal.OnSource source stopped) = CarriesOf parts profile source stopped
