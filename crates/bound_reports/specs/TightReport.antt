-- The report of an edge: a machine file whose machine takes the edge at exactly its price, run by the same
-- source. And which edges have none.
use Rattle.std.specs.Prelude.{◌≡◌, ◌<◌, ◌≤◌, ◌++◌, ℕ, List, [], ◌∷◌, length, codes, slice_index_or, All}
use Rattle.std.specs.Prelude.{Option, None, Result}
use Rattle.bus_ticks.specs.declared.profile.Profile.{Profile}
use Rattle.arm2_exec.specs.Run.{Runs}
use Rattle.arm2_exec.specs.State.{State}
use Rattle.arm2_exec.specs.declared.machine.Input.{Input}
use Rattle.arm2_exec.specs.declared.machine.Ran.{Ran}
use Rattle.image.specs.Image.{Words, IsFitted}
use Rattle.loader.specs.declared.loading.LoadFault.{LoadFault}
use Rattle.loader.specs.declared.loading.LoadFault.TheVariants.{NoPage}
use Rattle.statement.specs.Stated.{Stated}
use Rattle.control_flow.specs.Flow.{Flow}
use Rattle.control_flow.specs.Free.{IsFree}
use Rattle.control_flow.specs.Places.{place_address}
use Rattle.flow_graph.specs.Tight.{IsTight}
use Rattle.control_flow.specs.declared.edges.Edge.{Edge}
use Rattle.certificate.specs.Walk.{step_of}
use Rattle.certificate.specs.Words.{edge_words, ended}
use Rattle.handlers.specs.Answers.{Answers}
use Rattle.handlers.specs.Placing.{IsLoaded, IsRunnable}
use Rattle.handlers.specs.Report.{HasGraph, IsHandlerRefused}
use Rattle.handlers.specs.declared.fault.ReportFault.{ReportFault}
use Rattle.handlers.specs.declared.fault.ReportFault.TheVariants as report_fault
use Rattle.sources.specs.File.{File}

-- `# edge ADDRESS skip|do TO COST`, a line of its own
abbrev pub edge_line : Edge → List ℕ
edge_line edge = codes "# edge " ++ ended (edge_words (step_of edge))

-- a run of one step that cost so much
abbrev pub one_step : (cost : ℕ) → Ran
one_step cost = record { steps = 1; ticks = cost; elapsed = cost; stopped = None }

-- The text is a machine file that `run` takes with the source. Its machine, with the words of the source and
-- then of the file, has one input, with which its one step takes the edge at exactly its price; and each run
-- of it is that step.
pub record TakesEdge (source : File) (text : List ℕ) (profile : Profile) (words : Words) (st : Stated)
    (edge : Edge) : Type 0 where
  pub runnable : IsRunnable source text profile
  pub takes : (s : State) (inputs : List Input) → IsLoaded source text profile s inputs
      → (i : Input) × (inputs ≡ i ∷ []) × IsTight words st profile edge s i
  pub ran : (s after : State) (inputs : List Input) (ran : Ran) → IsLoaded source text profile s inputs
      → Runs s inputs ran after → ran ≡ one_step edge.cost

-- ## The edge of a number, in the order of a graph's edges

pub record IsEdgeAt (flow : Flow) (n : ℕ) (edge : Edge) : Type 0 where
  pub inside : n < length flow.edges
  pub is : edge ≡ slice_index_or flow.edges n edge

module _ (words : Words) (flow : Flow) (n : ℕ) where
  -- it is free, and no word of the image lies past RAM
  pub record IsFreeEdge (edge : Edge) : Type 0 where
    pub at : IsEdgeAt flow n edge
    pub free : IsFree words edge
    pub fitted : All (λ e. IsFitted e.0) words

  -- it is not free; it leaves this address
  pub record IsNotFreeEdge (address : ℕ) : Type 0 where
    pub edge : Edge
    pub at : IsEdgeAt flow n edge
    pub not_free : IsFree words edge → ⊥
    pub address_is : address ≡ place_address edge.from

  -- it is free, and some word of the image lies past RAM
  pub record IsPastRam (fault : LoadFault) : Type 0 where
    pub edge : Edge
    pub at : IsEdgeAt flow n edge
    pub free : IsFree words edge
    pub past : All (λ e. IsFitted e.0) words → ⊥
    pub fault_is : fault ≡ NoPage

  -- why the edge has no report
  abbrev pub IsEdgeRefused : ReportFault → Type 0
  IsEdgeRefused report_fault.NoSuchEdge = length flow.edges ≤ n
  IsEdgeRefused (report_fault.NotFree address) = IsNotFreeEdge address
  IsEdgeRefused (report_fault.Load fault) = IsPastRam fault
  IsEdgeRefused fault = ⊥

-- ## The report

module _ (source : File) (statement : List ℕ) (n : ℕ) (profile : Profile) where
  -- the source and the statement have a graph, and its edge of the number is free
  pub record HasTightReport : Type 0 where
    pub stated : Stated
    pub flow : Flow
    pub graph : HasGraph source statement profile stated flow
    pub edge : Edge
    pub is_free : IsFreeEdge graph.words flow n edge

  -- the edge's line, and a machine file that takes it
  pub record IsTightReport (text : List ℕ) : Type 0 where
    pub has : HasTightReport
    pub document : List ℕ
    pub spelled : text ≡ edge_line has.edge ++ document
    pub takes : TakesEdge source text profile has.graph.words has.stated has.edge

  -- there is a graph, and its edge of the number is refused
  pub record HasNoTightReport (fault : ReportFault) : Type 0 where
    pub stated : Stated
    pub flow : Flow
    pub graph : HasGraph source statement profile stated flow
    pub refused : IsEdgeRefused graph.words flow n fault

  -- when each refusal is answered: those up to the graph, and then those of the edge. No refusal of loops or
  -- of a walk is answered
  abbrev pub IsTightRefused : ReportFault → Type 0
  IsTightRefused report_fault.Memory = Unit {0}
  IsTightRefused report_fault.Device = Unit {0}
  IsTightRefused report_fault.NoSuchEdge = HasNoTightReport report_fault.NoSuchEdge
  IsTightRefused (report_fault.NotFree address) = HasNoTightReport (report_fault.NotFree address)
  IsTightRefused (report_fault.Load fault) = HasNoTightReport (report_fault.Load fault)
  IsTightRefused (report_fault.Loops fault) = ⊥
  IsTightRefused fault = IsHandlerRefused source statement profile fault

-- the answer to a source, a statement and a number of an edge: its report
abbrev pub ReportsTight : {O T : Type 0} → (O → Option (List ℕ)) → (O → ℕ) → File → List ℕ → ℕ → Profile
    → O → O → Result T ReportFault → Type 0
ReportsTight taken failures source statement n profile old new result =
    Answers taken failures (λ _ text. IsTightReport source statement n profile text)
    (HasTightReport source statement n profile) (IsTightRefused source statement n profile) old new result
